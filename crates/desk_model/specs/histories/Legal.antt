-- The entry that the rules give, and legal histories.
use Rattle.std.specs.Prelude.{◌≡◌, ℕ, ◌≤◌, Bool, ◌&&◌, nat_le, nat_lt, max, Some, unwrap_or, if◌then◌else◌, List, [], ◌∷◌}
use Rattle.std.specs.List.{All}
use Rattle.desk_base.specs.Window.{WindowValue, start_of, end_of}
use Rattle.desk_model.specs.declared.limits.TheConstants.{LAST_CALLER}
use Rattle.desk_model.specs.declared.command.Cmd.{Cmd}
use Rattle.desk_model.specs.declared.command.Cmd.TheVariants as cmd
use Rattle.desk_model.specs.declared.reply.Reply.{Reply}
use Rattle.desk_model.specs.declared.reply.Reply.TheVariants as reply
use Rattle.desk_model.specs.statements.Opening.{OpeningValue, IsOpening}
use Rattle.desk_model.specs.statements.Statement.{StatedValue}
use Rattle.desk_model.specs.statements.Fits.{IsStated}
use Rattle.desk_model.specs.statements.Entry.{EntryValue, entry_of}
use Rattle.desk_model.specs.histories.History.{History, opened, with_entry, steps, last_of}
use Rattle.desk_model.specs.answers.EnrolAnswer.{enrol_answer}
use Rattle.desk_model.specs.answers.BoardAnswer.{board_answer}
use Rattle.desk_model.specs.answers.ListAnswer.{list_answer}
use Rattle.desk_model.specs.answers.UnlistAnswer.{unlist_answer}
use Rattle.desk_model.specs.answers.MarkAnswer.{off_answer, on_answer, qualify_answer}
use Rattle.desk_model.specs.answers.VacancyAnswer.{vacancy_answer}
use Rattle.desk_model.specs.answers.NextAnswer.{next_answer}
use Rattle.desk_model.specs.answers.OfferAnswer.{offer_answer}
use Rattle.desk_model.specs.answers.SettleAnswer.{accept_answer, decline_answer, no_answer}
use Rattle.desk_model.specs.answers.GiveUpAnswer.{annul_answer, drop_answer}
use Rattle.desk_model.specs.answers.QuestionAnswer.{at_answer, vac_answer}
use Rattle.desk_model.specs.answers.EventAnswer.{past_answer, event_answer}
use Rattle.desk_model.specs.answers.HoursAnswer.{hours_answer}
use Rattle.desk_model.specs.answers.ExplainAnswer.{explain_answer}

-- the minute lies in the window
abbrev pub is_within : WindowValue → ℕ → Bool
is_within w minute = nat_le (start_of w) minute && nat_lt minute (end_of w)

-- the last moment: that of the last entry, or the opening's
abbrev pub last_moment : History → ℕ
last_moment h = unwrap_or (last_of (λ e. Some e.moment) h.entries) h.opening.start

-- the moment of what is stated: the later of its minute and the last moment; the last moment where its minute lies
-- outside the window
abbrev pub moment : History → ℕ → ℕ
moment h minute = if is_within h.opening.window minute then max minute (last_moment h) else last_moment h

-- the answer to a command at a moment
abbrev pub answer_to : History → ℕ → Cmd → Reply
answer_to h m (cmd.Enrol person craft home quals) = enrol_answer h person
answer_to h m (cmd.Board board extra place) = board_answer h board
answer_to h m (cmd.List person board) = list_answer h person board
answer_to h m (cmd.Unlist person board) = unlist_answer h person board
answer_to h m (cmd.MarkOff person) = off_answer h person
answer_to h m (cmd.MarkOn person) = on_answer h person
answer_to h m (cmd.Qualify person quals) = qualify_answer h person
answer_to h m (cmd.Vacancy job) = vacancy_answer h m job
answer_to h m (cmd.Next vac) = next_answer h m vac
answer_to h m (cmd.Offer vac person) = offer_answer h m vac person
answer_to h m (cmd.Accept vac person) = accept_answer h m vac person
answer_to h m (cmd.Decline vac person) = decline_answer h vac person
answer_to h m (cmd.NoAnswer vac person) = no_answer h m vac person
answer_to h m (cmd.Withdraw vac person) = decline_answer h vac person
answer_to h m (cmd.Annul vac) = annul_answer h vac
answer_to h m (cmd.Drop person) = drop_answer h person
answer_to h m (cmd.Past person event) = past_answer h m person event
answer_to h m (cmd.Happened person event) = event_answer h m person event
answer_to h m (cmd.Hours person month) = hours_answer h person month
answer_to h m (cmd.At board place) = at_answer h board place
answer_to h m (cmd.Explain vac person) = explain_answer h m vac person
answer_to h m (cmd.Vac vac) = vac_answer h vac

-- the answer to what is stated; a minute outside the window is named before all else
abbrev pub answer : History → StatedValue → Reply
answer h s = if is_within h.opening.window s.minute then answer_to h (moment h s.minute) s.cmd else reply.OutsideWindow

-- the entry that the rules give after this history
unfoldable pub next : History → ℕ → StatedValue → EntryValue
next h caller s = entry_of caller s (moment h s.minute) (answer h s)

-- a caller of 0 to 63 states something of which each value has its form
pub record MayState (caller : ℕ) (s : StatedValue) : Type 0 where
  pub caller_in : caller ≤ LAST_CALLER
  pub stated : IsStated s

-- the entry is one that the rules give after this history
pub record IsNext (h : History) (e : EntryValue) : Type 0 where
  pub may : MayState e.caller e.stated
  pub moment : e.moment ≡ moment h e.stated.minute
  pub reply : e.reply ≡ answer h e.stated

-- each entry is one that the rules give after those before it
pub record IsLegal (h : History) : Type 0 where
  pub opening : IsOpening h.opening
  pub each : All (λ s. IsNext s.before s.entry) (steps h)

-- who stated what
abbrev pub given : EntryValue → ℕ × StatedValue
given e = (e.caller, e.stated)

-- a history, with the entries that the rules give for these commands after it
unfoldable pub history_from : History → List (ℕ × StatedValue) → History
history_from h [] = h
history_from h ((caller, s) ∷ rest) = history_from (with_entry h (next h caller s)) rest

-- the history that the rules give for these commands
abbrev pub history : OpeningValue → List (ℕ × StatedValue) → History
history o commands = history_from (opened o) commands
