-- What is so after a turn by which something is done for a vacancy.
use Rattle.std.proofs.Common.{◌≡◌, ℕ, zero, suc, ◌+◌, ◌*◌, ◌/◌, ◌%◌, ◌≤◌, Bool, true, false, nat_eq, nat_lt, Option, None, Some, if◌then◌else◌, refl, sym, ap, subst, ◌∙◌, arith}
use Rattle.std.specs.Option.{option_or}
use Rattle.desk_model.specs.declared.command.Cmd.{Cmd}
use Rattle.desk_model.specs.declared.command.Cmd.TheVariants as cmd
use Rattle.desk_model.specs.declared.edition.Edition.{Edition}
use Rattle.desk_model.specs.declared.offer.Offer.{Offer}
use Rattle.desk_model.specs.declared.reply.Reply.{Reply}
use Rattle.desk_model.specs.statements.Entry.{EntryValue, entry_of}
use Rattle.desk_model.specs.histories.History.{History, with_entry, is_done, said}
use Rattle.desk_model.specs.offers.Offers.{asks_for, offer_in}
use Rattle.desk_model.specs.histories.Register.{makes, vacancy_of}
use Rattle.desk_model.proofs.SaidLemmas.{last_of-snoc}
use Rattle.day_gen.specs.declared.course.Course.{Course}
use Rattle.day_gen.specs.declared.due.Due.TheVariants as due
use Rattle.day_gen.specs.Draws.{moved, drawn}
use Rattle.day_gen.specs.SetUp.{join_command}
use Rattle.day_gen.specs.Turn.{Turn, turn_of, stated_by}
use Rattle.day_gen.specs.Due.{due_after_done, due_after_offer, accepts, accepted_last, job_of_vacancy, job_due}
use Rattle.day_gen.specs.Rules.{answer_turn, report_of, report_turn, duty_of, release_turn, call_turn}
use Rattle.day_gen.specs.Day.{start, Day, day_of}
use Rattle.day_gen.specs.Due.{plans, planned_last}
use Rattle.day_gen.proofs.SetUpLemmas.{command_at}
use Rattle.day_gen.proofs.KeepLemmas.{IsDue, IsBounded, Keeps, bounded_report, bounded_duty, accepted-silent, due-split, IsQuiet, IsIdle, IsTimely, quiet_step, stays_last, idle_step}

quiet : (c : Cmd) → ((v : ℕ) → makes v c ≡ None) → plans c ≡ None → IsQuiet c
quiet c none silent = record { makes = none; plans = silent }

pub idle : (c : Cmd) → ((v : ℕ) → makes v c ≡ None) → plans c ≡ None → due_after_done c ≡ due.Nothing → asks_for c ≡ None → IsIdle c
idle c none silent done asks = record { quiet = quiet c none silent; done = done; asks = asks }

-- the commands that set the desk up
join_idle : (person : ℕ) (first : Bool) → IsIdle (join_command person first)
join_idle person true = idle _ (λ v. refl) refl refl refl
join_idle person false = idle _ (λ v. refl) refl refl refl

pub command_at-idle : (place : ℕ) → IsIdle (command_at place)
command_at-idle zero = idle _ (λ v. refl) refl refl refl
command_at-idle (suc zero) = idle _ (λ v. refl) refl refl refl
command_at-idle (suc (suc zero)) = idle _ (λ v. refl) refl refl refl
command_at-idle (suc (suc (suc zero))) = idle _ (λ v. refl) refl refl refl
command_at-idle (suc (suc (suc (suc place)))) = join_idle (place / 2 + 1) (nat_eq (place % 2) 0)

-- an entry whose command a turn gave
abbrev pub entry_by : Turn → ℕ → Reply → EntryValue
entry_by turn moment reply = entry_of 0 (stated_by turn) moment reply

-- the day after a turn, whatever was answered
abbrev pub StepsOn : Edition → ℕ → Day → Turn → Type 0
StepsOn edition n day turn = (moment : ℕ) (reply : Reply)
    → Keeps edition (suc n) (day_of turn.course (with_entry day.history (entry_by turn moment reply)))

-- a turn at the same minute
pub same_minute : (edition : Edition) (n : ℕ) (day : Day) (turn : Turn) → Keeps edition n day → turn.course.minute ≡ day.course.minute → IsTimely n turn
same_minute edition n day turn keeps same = record {
  begins = omega (arith, same, keeps.begins);
  ends = omega (arith, same, keeps.ends);
}

-- who accepts has the vacancy last
accepted_now : (h : History) (e : EntryValue) (vac : ℕ) → accepts e.stated.cmd ≡ Some vac → is_done e.reply ≡ true → accepted_last (with_entry h e) ≡ Some vac
accepted_now h e vac is done =
    last_of-snoc (said accepts) h.entries e
    ∙ ap (λ b. option_or (if b then accepts e.stated.cmd else None) (accepted_last h)) done
    ∙ ap (λ o. option_or o (accepted_last h)) is

answered : (edition : Edition) (n : ℕ) (day : Day) (c : Course) (vac person : ℕ) (early late : Bool) → Keeps edition n day
    → IsDue day.history day.course.made (due.Answer vac person) → c.made ≡ day.course.made → c.minute ≡ day.course.minute
    → StepsOn edition n day (turn_of c (if early then cmd.Accept vac person else if late then cmd.Decline vac person else cmd.Withdraw vac person))
answered edition n day c vac person true late keeps todo made minute moment reply =
    let turn : Turn = turn_of c (cmd.Accept vac person) in
    let e : EntryValue = entry_by turn moment reply in
    let silent : IsQuiet e.stated.cmd = quiet _ (λ v. refl) refl in
    quiet_step edition n day turn e keeps silent made (same_minute edition n day turn keeps minute)
    (due-split (IsDue (with_entry day.history e) day.course.made) e
    (λ done. (todo.0, stays_last day.history e day.course.made silent todo.1, accepted_now day.history e vac refl done ∙ ap Some todo.0))
    tt)
answered edition n day c vac person false true keeps todo made minute moment reply =
    let turn : Turn = turn_of c (cmd.Decline vac person) in
    let e : EntryValue = entry_by turn moment reply in
    let silent : IsQuiet e.stated.cmd = quiet _ (λ v. refl) refl in
    quiet_step edition n day turn e keeps silent made (same_minute edition n day turn keeps minute)
    (due-split (IsDue (with_entry day.history e) day.course.made) e
    (λ done. (todo.0, stays_last day.history e day.course.made silent todo.1))
    tt)
answered edition n day c vac person false false keeps todo made minute moment reply =
    let turn : Turn = turn_of c (cmd.Withdraw vac person) in
    let e : EntryValue = entry_by turn moment reply in
    let silent : IsQuiet e.stated.cmd = quiet _ (λ v. refl) refl in
    quiet_step edition n day turn e keeps silent made (same_minute edition n day turn keeps minute)
    (due-split (IsDue (with_entry day.history e) day.course.made) e
    (λ done. (todo.0, stays_last day.history e day.course.made silent todo.1))
    tt)

pub answer_step : (edition : Edition) (n : ℕ) (day : Day) (vac person : ℕ) → Keeps edition n day → IsDue day.history day.course.made (due.Answer vac person)
    → StepsOn edition n day (answer_turn day.course vac person)
answer_step edition n day vac person keeps todo =
    answered edition n day (moved day.course) vac person (nat_lt (drawn (moved day.course) 10) 7) (nat_lt (drawn (moved day.course) 10) 9) keeps todo refl refl

pub report_step : (edition : Edition) (n : ℕ) (day : Day) (vac person : ℕ) → Keeps edition n day → IsDue day.history day.course.made (due.Report vac person)
    → StepsOn edition n day (report_turn day.course (job_due day.history (due.Report vac person)) person)
report_step edition n day vac person keeps todo moment reply =
    let turn : Turn = report_turn day.course (vacancy_of day.history vac) person in
    let e : EntryValue = entry_by turn moment reply in
    let job : vacancy_of day.history vac ≡ planned_last day.history = ap (vacancy_of day.history) todo.0 ∙ todo.1 in
    let most : report_of (vacancy_of day.history vac) ≤ start + 1000 * n =
    bounded_report n (vacancy_of day.history vac) (subst (IsBounded n) (sym job) keeps.plan) in
    let silent : IsQuiet e.stated.cmd = quiet _ (λ v. refl) refl in
    let timely : IsTimely n turn = record { begins = omega (arith, keeps.begins); ends = omega (arith, keeps.ends, most) } in
    quiet_step edition n day turn e keeps silent refl timely
    (due-split (IsDue (with_entry day.history e) day.course.made) e
    (λ done. (accepted-silent day.history e refl ∙ todo.2, stays_last day.history e day.course.made silent todo.1))
    tt)

pub release_step : (edition : Edition) (n : ℕ) (day : Day) (person : ℕ) → Keeps edition n day → IsDue day.history day.course.made (due.Release person)
    → StepsOn edition n day (release_turn day.course (job_due day.history (due.Release person)) person)
release_step edition n day person keeps todo moment reply =
    let turn : Turn = release_turn day.course (job_due day.history (due.Release person)) person in
    let e : EntryValue = entry_by turn moment reply in
    let job : job_due day.history (due.Release person) ≡ planned_last day.history = ap (job_of_vacancy day.history) todo.0 ∙ todo.1 in
    let most : duty_of (job_due day.history (due.Release person)) ≤ 1000 =
    bounded_duty n (job_due day.history (due.Release person)) (subst (IsBounded n) (sym job) keeps.plan) in
    let timely : IsTimely n turn = record { begins = omega (arith, keeps.begins); ends = omega (arith, keeps.ends, most) } in
    idle_step edition n day turn e keeps (idle _ (λ v. refl) refl refl refl) refl timely

pub call_step : (edition : Edition) (n : ℕ) (day : Day) (vac : ℕ) → Keeps edition n day → IsDue day.history day.course.made (due.Call vac)
    → StepsOn edition n day (call_turn day.course vac)
call_step edition n day vac keeps todo moment reply =
    let turn : Turn = call_turn day.course vac in
    let e : EntryValue = entry_by turn moment reply in
    let silent : IsQuiet e.stated.cmd = quiet _ (λ v. refl) refl in
    quiet_step edition n day turn e keeps silent refl (same_minute edition n day turn keeps refl)
    (due-split (IsDue (with_entry day.history e) day.course.made) e (λ done. tt) (offered (offer_in moment reply)
    (todo.0, stays_last day.history e day.course.made silent todo.1)))
  where
    offered : (offer : Option Offer) → IsDue (with_entry day.history (entry_by (call_turn day.course vac) moment reply)) day.course.made (due.Call vac)
        → IsDue (with_entry day.history (entry_by (call_turn day.course vac) moment reply)) day.course.made (due_after_offer (Some vac) offer)
    offered None is = tt
    offered (Some offer) is = is
