-- What is so on a generated day, whatever the desk answers.
use Rattle.std.proofs.Common.{◌≡◌, ℕ, zero, suc, ◌+◌, ◌<◌, Option, None, Some, unwrap_or, length, add-one, refl, sym, ap, subst, ◌∙◌, arith}
use Rattle.std.specs.List.{All, slice_get}
use Rattle.std.proofs.lemmas.List.Elements.{All-nil, All-push}
use Rattle.std.proofs.lemmas.Option.{slice_get_within}
use Rattle.desk_model.specs.declared.command.Cmd.{Cmd}
use Rattle.desk_model.specs.declared.edition.Edition.{Edition}
use Rattle.desk_model.specs.histories.History.{with_entry}
use Rattle.desk_model.specs.histories.Legal.{next, moment, answer}
use Rattle.day_gen.specs.declared.due.Due.{Due}
use Rattle.day_gen.specs.declared.due.Due.TheVariants as due
use Rattle.day_gen.specs.SetUp.{set_up}
use Rattle.day_gen.specs.Turn.{turn_of, stated_by}
use Rattle.day_gen.specs.Due.{job_due}
use Rattle.day_gen.specs.Rules.{turn_by}
use Rattle.day_gen.specs.Day.{Day, turn_at, due_on, set_up_next, next_turn, with_turn, day_after, generated_day, day_statement}
use Rattle.day_gen.proofs.SetUpLemmas.{set_up-at, length-set_up}
use Rattle.day_gen.proofs.KeepLemmas.{IsDue, Keeps, IsIdle, idle_step}
use Rattle.day_gen.proofs.TurnLemmas.{command_at-idle, entry_by, StepsOn, same_minute, answer_step, report_step, release_step, call_step}
use Rattle.day_gen.proofs.IdleLemmas.{idle_turn_step}

rule_step : (edition : Edition) (n : ℕ) (day : Day) (due : Due) → Keeps edition n day → IsDue day.history day.course.made due
    → StepsOn edition n day (turn_by edition day.course (job_due day.history due) due)
rule_step edition n day (due.Answer vac person) keeps todo = answer_step edition n day vac person keeps todo
rule_step edition n day (due.Report vac person) keeps todo = report_step edition n day vac person keeps todo
rule_step edition n day (due.Release person) keeps todo = release_step edition n day person keeps todo
rule_step edition n day (due.Call vac) keeps todo = call_step edition n day vac keeps todo
rule_step edition n day due.Nothing keeps todo = idle_turn_step edition n day keeps

turn_step : (edition : Edition) (n : ℕ) (day : Day) (o : Option Cmd) (due : Due) → Keeps edition n day → IsDue day.history day.course.made due
    → ((c : Cmd) → o ≡ Some c → IsIdle c) → StepsOn edition n day (turn_at edition day.course o (job_due day.history due) due)
turn_step edition n day (Some c) due keeps todo sets moment reply =
    idle_step edition n day (turn_of day.course c) (entry_by (turn_of day.course c) moment reply) keeps (sets c refl) refl
    (same_minute edition n day (turn_of day.course c) keeps refl)
turn_step edition n day None due keeps todo sets moment reply = rule_step edition n day due keeps todo moment reply

set_up-idle : (n : ℕ) (c : Cmd) → slice_get set_up n ≡ Some c → IsIdle c
set_up-idle n c is =
    let below : n < 64 = omega (arith, slice_get_within set_up n c is, length-set_up) in
    subst IsIdle (ap (λ o. unwrap_or o c) (sym (set_up-at n below) ∙ is)) (command_at-idle n)

day_step : (edition : Edition) (n : ℕ) (day : Day) → Keeps edition n day → Keeps edition (suc n) (with_turn day (next_turn edition day))
unfolding next
day_step edition n day keeps =
    turn_step edition n day (set_up_next day) (due_on day) keeps keeps.due (λ c is. set_up-idle (length day.history.entries) c is)
    (moment day.history (next_turn edition day).course.minute) (answer day.history (stated_by (next_turn edition day)))

first_keeps : (edition : Edition) (number : ℕ) → Keeps edition 0 (day_after edition number 0)
unfolding day_after
first_keeps edition number = record {
  entries = refl;
  opening = refl;
  made = omega arith;
  begins = omega arith;
  ends = omega arith;
  fresh = λ v above. refl;
  plan = tt;
  due = tt;
}

pub day_keeps : (edition : Edition) (number n : ℕ) → Keeps edition n (day_after edition number n)
unfolding day_after
day_keeps edition number zero = first_keeps edition number
day_keeps edition number (suc n) = day_step edition n (day_after edition number n) (day_keeps edition number n)

pub generated_day-grows : (edition : Edition) (number n : ℕ) → generated_day edition number (n + 1)
    ≡ with_entry (generated_day edition number n) (next (generated_day edition number n) 0 (day_statement edition number n))
unfolding generated_day day_after day_statement
generated_day-grows edition number n = ap (λ k. (day_after edition number k).history) (add-one n)

pub day-callers : (edition : Edition) (number n : ℕ) → All (λ e. e.caller ≡ 0) (day_after edition number n).history.entries
unfolding day_after next
day-callers edition number zero = All-nil (λ e. e.caller ≡ 0)
day-callers edition number (suc n) = All-push (λ e. e.caller ≡ 0) _ _ (day-callers edition number n) refl
