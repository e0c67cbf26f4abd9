-- What is so after a turn where there was nothing to do.
use Rattle.std.proofs.Common.{◌≡◌, ℕ, suc, ◌+◌, ◌*◌, ◌≤◌, ◌<◌, Bool, true, false, nat_eq, None, Some, if◌then◌else◌, refl, sym, ap, subst, ◌∙◌, arith}
use Rattle.std.specs.Option.{option_or}
use Rattle.std.proofs.lemmas.Bool.{ne_eqb, eq-eqb}
use Rattle.desk_model.specs.declared.command.Cmd.{Cmd}
use Rattle.desk_model.specs.declared.command.Cmd.TheVariants as cmd
use Rattle.desk_model.specs.declared.edition.Edition.{Edition}
use Rattle.desk_model.specs.statements.Job.{JobValue}
use Rattle.desk_model.specs.statements.Entry.{EntryValue}
use Rattle.desk_model.specs.histories.History.{History, with_entry, is_done, said}
use Rattle.desk_model.specs.histories.Register.{makes, vacancy_of}
use Rattle.desk_model.proofs.SaidLemmas.{last_of-snoc, first_of-snoc}
use Rattle.day_gen.specs.declared.course.Course.{Course}
use Rattle.day_gen.specs.Draws.{moved, drawn}
use Rattle.day_gen.specs.Turn.{Turn, turn_of}
use Rattle.day_gen.specs.Due.{due_by}
use Rattle.day_gen.specs.Rules.{hours_turn, place_turn, vacancy_by, vacancy_turn, is_relief, least_duty, passed, idle_turn}
use Rattle.day_gen.specs.Day.{start, Day}
use Rattle.day_gen.specs.Due.{plans, planned_last}
use Rattle.day_gen.proofs.DrawLemmas.{drawn-below}
use Rattle.day_gen.proofs.KeepLemmas.{IsDue, IsBounded, Keeps, vacancy-silent, last_entry-with, entries-with, due-split, IsIdle, IsTimely, idle_step}
use Rattle.day_gen.proofs.TurnLemmas.{idle, entry_by, StepsOn}

-- the course is the day's, but for what was drawn and for a few minutes
pub record IsNear (n : ℕ) (day : Day) (c : Course) : Type 0 where
  pub made : c.made ≡ day.course.made
  pub begins : start ≤ c.minute
  pub ends : c.minute ≤ start + 1000 * n + 9

near_timely : (n : ℕ) (day : Day) (turn : Turn) → IsNear n day turn.course → IsTimely n turn
near_timely n day turn near = record { begins = near.begins; ends = omega (arith, near.ends) }

-- a turn that only asks
ask_step : (edition : Edition) (n : ℕ) (day : Day) (c : Course) (asks : Cmd) → Keeps edition n day → IsNear n day c → IsIdle asks → StepsOn edition n day (turn_of c asks)
ask_step edition n day c asks keeps near nothing moment reply =
    idle_step edition n day (turn_of c asks) (entry_by (turn_of c asks) moment reply) keeps nothing near.made (near_timely n day (turn_of c asks) near)

-- a vacancy with a number that was not made before
above_none : (h : History) (e : EntryValue) (job : JobValue) (v : ℕ) → e.stated.cmd ≡ cmd.Vacancy job → job.vac < v → vacancy_of h v ≡ None
    → vacancy_of (with_entry h e) v ≡ None
above_none h e job v is above none =
    let other : makes v e.stated.cmd ≡ None =
    ap (makes v) is ∙ ap (λ b. if b then Some job else None) (ne_eqb job.vac v (λ same. omega (arith, above, same))) in
    vacancy-silent h e v other ∙ none

this_one : (h : History) (e : EntryValue) (job : JobValue) → e.stated.cmd ≡ cmd.Vacancy job → is_done e.reply ≡ true → vacancy_of h job.vac ≡ None
    → vacancy_of (with_entry h e) job.vac ≡ Some job
this_one h e job is done none =
    first_of-snoc (said (makes job.vac)) h.entries e
    ∙ ap (λ o. option_or o (said (makes job.vac) e)) none
    ∙ ap (λ b. if b then makes job.vac e.stated.cmd else None) done
    ∙ ap (makes job.vac) is
    ∙ ap (λ b. if b then Some job else None) (eq-eqb job.vac job.vac refl)

-- a turn that makes the next vacancy
make_step : (edition : Edition) (n : ℕ) (day : Day) (c : Course) (job : JobValue) → Keeps edition n day → start ≤ c.minute → c.minute ≤ start + 1000 * n + 9
    → c.made ≡ day.course.made + 1 → job.vac ≡ c.made → job.report ≤ c.minute + 120 → job.duty ≤ 1000 → StepsOn edition n day (turn_of c (cmd.Vacancy job))
make_step edition n day c job keeps begins ends made vac report duty moment reply =
    let e : EntryValue = entry_by (turn_of c (cmd.Vacancy job)) moment reply in
    let now : planned_last (with_entry day.history e) ≡ Some job = last_of-snoc (λ x. plans x.stated.cmd) day.history.entries e in
    let none : vacancy_of day.history job.vac ≡ None = keeps.fresh job.vac (omega (arith, made, vac)) in
    record {
      entries = entries-with day.history e n keeps.entries;
      opening = keeps.opening;
      made = omega (arith, made, keeps.made);
      begins = begins;
      ends = omega (arith, ends);
      fresh = λ v above. above_none day.history e job v refl (omega (arith, vac, above)) (keeps.fresh v (omega (arith, made, above)));
      plan = subst (IsBounded (suc n)) (sym now) (omega (arith, report, ends), duty);
      due = subst (λ o. IsDue (with_entry day.history e) c.made (due_by o)) (sym (last_entry-with day.history e))
          (due-split (IsDue (with_entry day.history e) c.made) e
          (λ done. (vac, ap (vacancy_of (with_entry day.history e)) (sym vac) ∙ this_one day.history e job refl done none ∙ sym now))
          tt);
    }

-- some minutes go by, and then something is asked or a vacancy made
passed_near : (edition : Edition) (n : ℕ) (day : Day) → Keeps edition n day → IsNear n day (moved (passed day.course))
passed_near edition n day keeps = record {
  made = refl;
  begins = omega (arith, keeps.begins);
  ends = omega (arith, keeps.ends, drawn-below (moved day.course) 10 (omega arith));
}

relief_least : (relief : Bool) → least_duty relief ≤ 721
relief_least true = omega arith
relief_least false = omega arith

vacancy_step : (edition : Edition) (n : ℕ) (day : Day) (c : Course) (relief : Bool) → Keeps edition n day → IsNear n day c
    → StepsOn edition n day (vacancy_turn c relief)
vacancy_step edition n day c relief keeps near =
    let one : Course = moved c in
    let two : Course = moved one in
    let three : Course = moved two in
    make_step edition n day (record three { made = c.made + 1 }) (vacancy_by c relief (drawn one 2) (drawn two 60) (drawn three 120)) keeps
    near.begins near.ends (omega (arith, near.made)) refl
    (omega (arith, drawn-below two 60 (omega arith)))
    (omega (arith, relief_least relief, drawn-below three 120 (omega arith)))

idle_by_step : (edition : Edition) (n : ℕ) (day : Day) (c : Course) (first second relief : Bool) → Keeps edition n day → IsNear n day c
    → StepsOn edition n day (if first then hours_turn c else if second then place_turn c else vacancy_turn c relief)
idle_by_step edition n day c true second relief keeps near =
    ask_step edition n day (moved c) _ keeps (record { made = near.made; begins = near.begins; ends = near.ends }) (idle _ (λ v. refl) refl refl refl)
idle_by_step edition n day c false true relief keeps near =
    ask_step edition n day (moved c) _ keeps (record { made = near.made; begins = near.begins; ends = near.ends }) (idle _ (λ v. refl) refl refl refl)
idle_by_step edition n day c false false relief keeps near = vacancy_step edition n day c relief keeps near

pub idle_turn_step : (edition : Edition) (n : ℕ) (day : Day) → Keeps edition n day → StepsOn edition n day (idle_turn edition day.course)
idle_turn_step edition n day keeps =
    let c : Course = moved (passed day.course) in
    idle_by_step edition n day c (nat_eq (drawn c 8) 0) (nat_eq (drawn c 8) 1) (is_relief edition (drawn c 8)) keeps (passed_near edition n day keeps)
