-- What bars someone in a legal history has its values in their ranges.
use Rattle.std.proofs.Common.{◌≡◌, ℕ, ◌+◌, ◌≤◌, ◌<◌, ◌^◌, ◌⊎◌, inl, inr, nat_lt, arith, Bool, true, false, cond, Option, None, Some, IfSome, List, [], ◌∷◌, refl}
use Rattle.std.specs.Option.{option_map}
use Rattle.std.specs.Str.{bytes_eq}
use Rattle.std.specs.List.{All}
use Rattle.std.proofs.lemmas.Bool.Decides.{nat_tests}
use Rattle.desk_base.specs.declared.minute.TheConstants.{YEARS_BEGIN, YEARS_END}
use Rattle.desk_base.specs.Minute.{IsInYears}
use Rattle.desk_base.specs.Number.{IsNumber}
use Rattle.duty_events.specs.declared.event.Event.{Event}
use Rattle.duty_events.specs.Lists.{IsLawful}
use Rattle.qualifications.specs.Craft.{craft_eq}
use Rattle.qualifications.specs.Quals.{lowest_missing}
use Rattle.qualifications.proofs.MissingLemmas.{missing-most}
use Rattle.denial_rules.specs.declared.bar.Bar.TheVariants as bar
use Rattle.denial_rules.specs.Bar.{FitsBar}
use Rattle.denial_rules.specs.Table.{marked_off_row, busy_row, on_offer_row, place_row, craft_row, quals_row, answered_row, held_row}
use Rattle.denial_rules.proofs.FitLemmas.{row-fits, where-fits, unless-fits, option-fits}
use Rattle.law_bars.specs.Law.{law_bar}
use Rattle.desk_model.specs.declared.edition.Edition.{Edition}
use Rattle.desk_model.specs.declared.edition.Edition.TheVariants as edition
use Rattle.desk_model.specs.declared.person.Person.{Person}
use Rattle.desk_model.specs.statements.Job.{JobValue}
use Rattle.desk_model.specs.statements.Fits.{IsJob, Fits}
use Rattle.desk_model.specs.histories.History.{History}
use Rattle.desk_model.specs.histories.Register.{quals_of}
use Rattle.desk_model.specs.histories.Duty.{events, in_tour, place_at}
use Rattle.desk_model.specs.offers.Offers.{on_offer}
use Rattle.desk_model.specs.boards.Marks.{is_marked_off}
use Rattle.desk_model.specs.offers.Assigned.{assigned}
use Rattle.desk_model.specs.offers.TurnedDown.{has_turned_down}
use Rattle.desk_model.specs.offers.Held.{hold_end, held_in, held}
use Rattle.desk_model.specs.offers.Bars.{law_of, facts_of, bar_of}
use Rattle.desk_model.specs.histories.Legal.{IsLegal}
use Rattle.desk_model.proofs.EventLemmas.{lawful-events}
use Rattle.desk_model.proofs.HeldLemmas.{hold_end-fits}
use Rattle.desk_model.proofs.FitEventLemmas.{events-fit, place-fits}
use Rattle.desk_model.proofs.FitRegisterLemmas.{FitsPerson, on_offer-fits, assigned-fits}

-- the law of what a bar of 49 USC 21103 keeps
abbrev pub LawFits : Type 0
LawFits = (es : List Event) (home : List ℕ) (moment report duty limbo : ℕ) → IsLawful es → IsInYears report
    → report + duty + limbo ≤ YEARS_END → IfSome (law_bar es home moment report duty limbo) FitsBar

-- a hold that is not over ends in the years from 2000 on
held-fits : (h : History) (m : ℕ) (codes : List (List ℕ)) (p : ℕ) → All Fits h.entries → IfSome (held h m codes p) (λ until. (YEARS_BEGIN ≤ until) × (until < 2 ^ 28))
held-fits h m codes p all = by_edition h.opening.edition
  where
    late : (waits : Bool) → nat_lt m (hold_end h codes p) ≡ waits → IfSome (cond waits (Some (hold_end h codes p)) None) (λ until. (YEARS_BEGIN ≤ until) × (until < 2 ^ 28))
    late false is = tt
    late true is = ended (hold_end-fits h codes p all)
      where
        ended : (hold_end h codes p ≡ 0) ⊎ ((YEARS_BEGIN ≤ hold_end h codes p) × (hold_end h codes p < 2 ^ 28)) → (YEARS_BEGIN ≤ hold_end h codes p) × (hold_end h codes p < 2 ^ 28)
        ended (inl none) = absurd (grind (arith, nat_tests, is, none))
        ended (inr fits) = fits

    by_edition : (e : Edition) → IfSome (held_in e m (hold_end h codes p)) (λ until. (YEARS_BEGIN ≤ until) × (until < 2 ^ 28))
    by_edition edition.One = tt
    by_edition edition.Two = late (nat_lt m (hold_end h codes p)) refl

pub bar-fits : LawFits → (h : History) (m : ℕ) (job : JobValue) (p : ℕ) (person : Person) → IsLegal h → All Fits h.entries → IsJob job
    → job.report + job.duty + job.limbo ≤ YEARS_END → FitsPerson person → IfSome (bar_of h m job p person) FitsBar
bar-fits law h m job p person legal all job_is ends is =
    let facts = facts_of h m job p person in
    let eight = law_of h m job p person ∷ [] in
    let seven = held_row facts ∷ eight in
    let six = answered_row facts ∷ seven in
    let five = quals_row facts ∷ six in
    let four = craft_row facts ∷ five in
    let three = place_row facts ∷ four in
    let two = on_offer_row facts ∷ three in
    row-fits (marked_off_row facts) (busy_row facts ∷ two) (where-fits (is_marked_off h p) bar.MarkedOff tt)
    (row-fits (busy_row facts) two (busy (in_tour h p) (assigned h p) (assigned-fits h p all))
    (row-fits (on_offer_row facts) three (offered (on_offer h p) (on_offer-fits h p all))
    (row-fits (place_row facts) four (unless-fits (bytes_eq (place_at h m p person) job.place) (bar.Elsewhere (place_at h m p person)) (λ away. place-fits (events h p) person.home m is (events-fit h p legal all)))
    (row-fits (craft_row facts) five (unless-fits (craft_eq person.craft job.craft) (bar.OtherCraft person.craft) (λ other. tt))
    (row-fits (quals_row facts) six (option-fits (λ number. bar.Lacks number) (lowest_missing (quals_of h p) job.quals) (missing-most _ (quals_of h p) job.quals refl))
    (row-fits (answered_row facts) seven (where-fits (has_turned_down h job.vac p) bar.Answered tt)
    (row-fits (held_row facts) eight (option-fits (λ until. bar.Held until) (held h m job.chain p) (held-fits h m job.chain p all))
    (row-fits (law_of h m job p person) [] (by_law (in_tour h p)) tt))))))))
  where
    offered : (o : Option ℕ) → IfSome o IsNumber → IfSome (option_map (λ vacancy. bar.OnOffer vacancy) o) FitsBar
    offered None fits = tt
    offered (Some v) fits = fits

    busy : (tour : Bool) (has : Option ℕ) → IfSome has IsNumber → IfSome (cond tour (Some bar.InTour) (option_map (λ v. bar.Assigned v) has)) FitsBar
    busy true has fits = tt
    busy false None fits = tt
    busy false (Some v) fits = fits

    by_law : (riding : Bool) → IfSome (cond riding None (law_bar (events h p) person.home m job.report job.duty job.limbo)) FitsBar
    by_law true = tt
    by_law false = law (events h p) person.home m job.report job.duty job.limbo (lawful-events h p) job_is.plan.report_in ends
