-- What the second edition of the rules adds to the first, and what it leaves.
use Rattle.std.proofs.Common.{◌≡◌, ◌<◌, ◌≤◌, ℕ, ◌+◌, Bool, true, false, cond, not, ◌&&◌, nat_lt, nat_le, Option, None, Some, is_some, List, [], ◌∷◌, ◌++◌, length, refl, sym, ap, ◌∙◌, arith}
use Rattle.std.specs.Option.{option_map}
use Rattle.std.specs.List.{Contains}
use Rattle.std.proofs.lemmas.Bool.{false≢true}
use Rattle.std.proofs.lemmas.Bool.Decides.{nat_tests}
use Rattle.desk_base.specs.Window.{end_of}
use Rattle.desk_model.specs.declared.limits.TheConstants.{HOLD, PLAN_LIMIT, RELIEF_LIMIT, VACANCY_LIMIT}
use Rattle.desk_model.specs.declared.edition.Edition.{Edition}
use Rattle.desk_model.specs.declared.edition.Edition.TheVariants as edition
use Rattle.desk_model.specs.declared.reply.Reply.{Reply}
use Rattle.desk_model.specs.declared.reply.Reply.TheVariants as reply
use Rattle.denial_rules.specs.declared.bar.Bar.{Bar}
use Rattle.denial_rules.specs.declared.bar.Bar.TheVariants as bar
use Rattle.denial_rules.specs.declared.facts.Facts.{Facts}
use Rattle.denial_rules.specs.Table.{marked_off_row, busy_row, on_offer_row, place_row, craft_row, quals_row, answered_row, law_row, first_some}
use Rattle.desk_model.specs.declared.person.Person.{Person}
use Rattle.desk_model.specs.statements.Opening.{OpeningValue}
use Rattle.desk_model.specs.statements.Job.{JobValue}
use Rattle.desk_model.specs.histories.History.{History, Step, steps, is_done}
use Rattle.desk_model.specs.histories.Register.{vacancy_of, vacancies}
use Rattle.desk_model.specs.offers.Held.{hold_end, held_in, held, HasDeclined}
use Rattle.desk_model.specs.answers.VacancyAnswer.{unknown_in, bad_in, is_edition_one, chain_answer, vacancy_answer}
use Rattle.desk_model.specs.offers.Bars.{facts_of, bar_of}
use Rattle.desk_model.specs.laws.FirstEdition.{first_bar_in_one, chain_answer_in_one, vacancy_answer_in_one}
use Rattle.desk_model.specs.histories.Legal.{IsLegal}
use Rattle.desk_model.proofs.PlanLemmas.{vacancy_of-keeps}
use Rattle.desk_model.proofs.HeldLemmas.{hold_end-declined}

-- ---- relief

-- a job is no relief one where the opening is of the first edition
abbrev IsOrdinary : OpeningValue → JobValue → Type 0
IsOrdinary o job = o.edition ≡ edition.One → job.relief ≡ false

-- where it is made it is none
vacancy-ordinary : (h : History) (m : ℕ) (job : JobValue) → is_done (vacancy_answer h m job) ≡ true → IsOrdinary h.opening job
vacancy-ordinary h m job done one = go job.relief h.opening.edition one done
  where
    go : (relief : Bool) (e : Edition) → e ≡ edition.One
        → is_done (cond (relief && is_edition_one e) reply.OtherEdition (cond (is_some (vacancy_of h job.vac)) reply.Used (cond (nat_le VACANCY_LIMIT (length (vacancies h))) reply.VacanciesFull (chain_answer h.opening m job (unknown_in h job.chain) (bad_in h job.chain))))) ≡ true
        → relief ≡ false
    go false e one done = refl
    go true edition.One one done = absurd (false≢true done)
    go true edition.Two one done = cc

pub vacancy_of-ordinary : (h : History) → IsLegal h → h.opening.edition ≡ edition.One → (v : ℕ) (job : JobValue) → vacancy_of h v ≡ Some job → job.relief ≡ false
vacancy_of-ordinary h legal one v job made = vacancy_of-keeps IsOrdinary vacancy-ordinary h legal v job made one

-- what is answered where the plan isn't too long, and what is looked at before the chain
abbrev late_answer : History → ℕ → JobValue → Reply
late_answer h m job = cond (nat_lt job.report m) (reply.ReportPast job.report) (cond (nat_lt (end_of h.opening.window) (job.report + job.duty + job.limbo)) reply.OutsideWindow reply.Done)

abbrev known_answer : History → JobValue → Reply → Reply
known_answer h job rest = cond (is_some (vacancy_of h job.vac)) reply.Used (cond (nat_le VACANCY_LIMIT (length (vacancies h))) reply.VacanciesFull rest)

-- and one that is no relief vacancy is answered as ever
pub vacancy_answer-ordinary : (h : History) (m : ℕ) (job : JobValue) → job.relief ≡ false → vacancy_answer h m job ≡ vacancy_answer_in_one h m job
vacancy_answer-ordinary h m job ordinary = by_relief job.relief ordinary
  where
    by_chain : (unknown bad : Option (List ℕ)) → chain_answer h.opening m job unknown bad ≡ chain_answer_in_one h m job unknown bad
    by_chain (Some b) bad = refl
    by_chain None (Some b) = refl
    by_chain None None = by_plan job.relief ordinary
      where
        by_plan : (relief : Bool) → relief ≡ false
            → cond (not relief && nat_lt PLAN_LIMIT job.duty) reply.PlanTooLong (cond (relief && nat_lt RELIEF_LIMIT job.duty) reply.ReliefTooLong (late_answer h m job))
            ≡ cond (nat_lt PLAN_LIMIT job.duty) reply.PlanTooLong (late_answer h m job)
        by_plan false ordinary = refl
        by_plan true ordinary = absurd (false≢true (sym ordinary))

    by_relief : (relief : Bool) → relief ≡ false
        → cond (relief && is_edition_one h.opening.edition) reply.OtherEdition (known_answer h job (chain_answer h.opening m job (unknown_in h job.chain) (bad_in h job.chain)))
        ≡ known_answer h job (chain_answer_in_one h m job (unknown_in h job.chain) (bad_in h job.chain))
    by_relief false ordinary = ap (known_answer h job) (by_chain (unknown_in h job.chain) (bad_in h job.chain))
    by_relief true ordinary = absurd (false≢true (sym ordinary))

-- ---- holds

-- nobody is held in the first edition
pub held-none : (h : History) (m p : ℕ) (codes : List (List ℕ)) → h.opening.edition ≡ edition.One → held h m codes p ≡ None
held-none h m p codes one = ap (λ e. held_in e m (hold_end h codes p)) one

-- a row that doesn't hold, left out
first_some-without : (front rest : List (Option Bar)) → first_some (front ++ None ∷ rest) ≡ first_some (front ++ rest)
first_some-without [] rest = refl
first_some-without (None ∷ front) rest = first_some-without front rest
first_some-without (Some b ∷ front) rest = refl

-- and so what bars someone is told without that row
pub bar_of-first : (h : History) (m p : ℕ) (job : JobValue) (person : Person) → h.opening.edition ≡ edition.One
    → bar_of h m job p person ≡ first_bar_in_one (facts_of h m job p person)
bar_of-first h m p job person one =
    ap (λ until. first_some (front ++ option_map (λ end. bar.Held end) until ∷ law_row facts ∷ [])) (held-none h m p job.chain one)
    ∙ first_some-without front (law_row facts ∷ [])
  where
    facts : Facts
    facts = facts_of h m job p person

    front : List (Option Bar)
    front =
        marked_off_row facts ∷ busy_row facts ∷ on_offer_row facts ∷ place_row facts ∷ craft_row facts ∷ quals_row facts
        ∷ answered_row facts ∷ []

-- a hold that is not over is the latest
held-some : (e : Edition) (m until end : ℕ) → held_in e m end ≡ Some until → (m < end) × (end ≡ until)
held-some edition.One m until end some = cc
held-some edition.Two m until end some = go (nat_lt m end) refl some
  where
    go : (waits : Bool) → nat_lt m end ≡ waits → cond waits (Some end) None ≡ Some until → (m < end) × (end ≡ until)
    go true is some = (grind (arith, nat_tests, is), cc)
    go false is some = cc

-- so it ends 480 minutes after a decline
pub held-declined : (h : History) (m p until : ℕ) (codes : List (List ℕ)) → held h m codes p ≡ Some until
    → (m < until) × ((s : Step) × (Contains (steps h) s × (HasDeclined codes p s × (until ≡ s.entry.moment + HOLD))))
held-declined h m p until codes some =
    let is = held-some h.opening.edition m until (hold_end h codes p) some in
    let found = hold_end-declined h codes p m is.0 in
    (omega (arith, is.0, is.1), (found.0, (found.1.0, (found.1.1.0, sym is.1 ∙ found.1.1.1))))

-- and in the second edition the latest holds while it is not over
pub held-late : (h : History) (m p end : ℕ) (codes : List (List ℕ)) → h.opening.edition ≡ edition.Two → end ≤ hold_end h codes p → m < end
    → (until : ℕ) × ((held h m codes p ≡ Some until) × (end ≤ until))
held-late h m p end codes two most above = (hold_end h codes p, (by_edition h.opening.edition two, most))
  where
    late : (waits : Bool) → nat_lt m (hold_end h codes p) ≡ waits → cond waits (Some (hold_end h codes p)) None ≡ Some (hold_end h codes p)
    late true is = refl
    late false is = absurd (grind (arith, nat_tests, is, above, most))

    by_edition : (e : Edition) → e ≡ edition.Two → held_in e m (hold_end h codes p) ≡ Some (hold_end h codes p)
    by_edition edition.One two = cc
    by_edition edition.Two two = late (nat_lt m (hold_end h codes p)) refl
