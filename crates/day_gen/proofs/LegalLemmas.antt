-- A generated day is legal.
use Rattle.std.proofs.Common.{ℕ, zero, suc, ◌≤◌, ◌<◌, length, arith}
use Rattle.std.specs.List.{All}
use Rattle.desk_model.specs.declared.edition.Edition.{Edition}
use Rattle.desk_model.specs.statements.Fits.{IsStated, Fits}
use Rattle.desk_model.specs.histories.History.{History}
use Rattle.desk_model.specs.histories.Legal.{next, MayState, IsLegal}
use Rattle.desk_model.proofs.LegalLemmas.{legal-opened, legal-with, IsNext-next}
use Rattle.day_gen.specs.Turn.{stated_by}
use Rattle.day_gen.specs.Due.{job_due}
use Rattle.day_gen.specs.Day.{day_opening, Day, due_on, set_up_next, next_turn, with_turn, day_after, day_statement}
use Rattle.day_gen.proofs.OpeningLemmas.{start_from, start_to, opening_valid}
use Rattle.day_gen.proofs.KeepLemmas.{Keeps}
use Rattle.day_gen.proofs.DayLemmas.{day_keeps}
use Rattle.day_gen.proofs.DueLemmas.{last-due}
use Rattle.day_gen.proofs.FitLemmas.{IsEarly, early-in, turn-fits, set_up-fits}

-- in each legal history each entry has its values in their ranges
abbrev pub AllFit : Type 0
AllFit = (h : History) → IsLegal h → All Fits h.entries

statement-of : AllFit → (edition : Edition) (number n : ℕ) → n < 20_000 → IsLegal (day_after edition number n).history
    → IsStated (stated_by (next_turn edition (day_after edition number n)))
unfolding day_after
statement-of fit edition number n below legal =
    let day : Day = day_after edition number n in
    let after : Keeps edition (suc n) (with_turn day (next_turn edition day)) = day_keeps edition number (suc n) in
    let early : IsEarly (next_turn edition day).course.minute =
    (omega (arith, after.begins, start_from), omega (arith, after.ends, start_to, below)) in
    record {
      minute = early-in _ early;
      cmd = turn-fits edition day.course (set_up_next day) (job_due day.history (due_on day)) (due_on day)
          (set_up-fits (length day.history.entries)) (last-due day.history (fit day.history legal)) early (omega (arith, after.made, below));
    }

pub day-legal : AllFit → (edition : Edition) (number n : ℕ) → n ≤ 20_000 → IsLegal (day_after edition number n).history
unfolding day_after
day-legal fit edition number zero most = legal-opened (day_opening edition) (opening_valid edition)
day-legal fit edition number (suc n) most =
    let day : Day = day_after edition number n in
    let legal : IsLegal day.history = day-legal fit edition number n (omega (arith, most)) in
    let may : MayState 0 (stated_by (next_turn edition day)) =
    record { caller_in = omega arith; stated = statement-of fit edition number n (omega (arith, most)) legal } in
    legal-with day.history (next day.history 0 (stated_by (next_turn edition day))) legal (IsNext-next day.history 0 (stated_by (next_turn edition day)) may)

pub day-stated : AllFit → (edition : Edition) (number n : ℕ) → n < 20_000 → IsStated (day_statement edition number n)
unfolding day_statement
day-stated fit edition number n below = statement-of fit edition number n below (day-legal fit edition number n (omega (arith, below)))
