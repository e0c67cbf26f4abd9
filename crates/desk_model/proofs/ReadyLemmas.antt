-- Who isn't ready is barred: who is in a tour, and who hasn't rested.
use Rattle.std.proofs.Common.{◌≡◌, ◌<◌, ℕ, true, false, cond, not, Option, None, Some, is_some, refl, sym, ap, ◌∙◌}
use Rattle.std.proofs.lemmas.Bool.{false≢true}
use Rattle.duty_events.specs.declared.stage.Stage.{Stage}
use Rattle.duty_events.specs.declared.stage.Stage.TheVariants as stage
use Rattle.duty_events.specs.Lists.{stage_of}
use Rattle.duty_events.specs.MinuteKind.{is_off}
use Rattle.rest_rules.specs.Rest.{rest_end}
use Rattle.rest_rules.proofs.RestLemmas.{rest_end-law}
use Rattle.denial_rules.specs.declared.bar.Bar.{Bar}
use Rattle.denial_rules.proofs.TableLemmas.{first_bar-none}
use Rattle.law_bars.specs.Law.{law_bar, LawInWords}
use Rattle.desk_model.specs.declared.person.Person.{Person}
use Rattle.desk_model.specs.statements.Job.{JobValue}
use Rattle.desk_model.specs.histories.History.{History}
use Rattle.desk_model.specs.histories.Duty.{events, in_tour}
use Rattle.desk_model.specs.offers.Bars.{facts_of, bar_of}
use Rattle.desk_model.proofs.EventLemmas.{lawful-events}

pub tour-barred : (h : History) (m : ℕ) (job : JobValue) (p : ℕ) (person : Person) → in_tour h p ≡ true → is_some (bar_of h m job p person) ≡ true
tour-barred h m job p person tour = go (bar_of h m job p person) refl
  where
    go : (first : Option Bar) → bar_of h m job p person ≡ first → is_some first ≡ true
    go None none = absurd (false≢true (sym (first_bar-none (facts_of h m job p person) none).0 ∙ tour))
    go (Some b) some = refl

off-stage : (s : Stage) → not (is_off s) ≡ false → s ≡ stage.Off
off-stage stage.Off is = refl
off-stage other is = absurd (false≢true (sym is))

pub rest-barred : LawInWords → (h : History) (m : ℕ) (job : JobValue) (p : ℕ) (person : Person) → in_tour h p ≡ false → m < rest_end (events h p)
    → is_some (bar_of h m job p person) ≡ true
rest-barred words h m job p person off below = go (bar_of h m job p person) refl
  where
    go : (first : Option Bar) → bar_of h m job p person ≡ first → is_some first ≡ true
    go None none =
        let lawful = lawful-events h p in
        let law : law_bar (events h p) person.home m job.report job.duty job.limbo ≡ None =
        sym (ap (λ tour. cond tour None (law_bar (events h p) person.home m job.report job.duty job.limbo)) off) ∙ (first_bar-none (facts_of h m job p person) none).2 in
        let kept = (words (events h p) person.home m job.report job.duty job.limbo lawful).0 law in
        absurd ((rest_end-law (events h p) lawful (off-stage (stage_of (events h p)) off)).before m below kept.undisturbed)
    go (Some b) some = refl
