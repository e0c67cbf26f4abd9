-- Which vacancies are remembered as unfilled, beside what a history says.
use Rattle.std.specs.Prelude.{◌≡◌, ℕ, ◌≤◌, true, false, nat_eq, Option, None, Some, List, length, drop}
use Rattle.std.specs.Str.{bytes_eq}
use Rattle.std.specs.List.{All, list_any}
use Rattle.desk_model.specs.declared.command.Cmd.{Cmd}
use Rattle.desk_model.specs.declared.command.Cmd.TheVariants as cmd
use Rattle.desk_model.specs.declared.reply.Reply.{Reply}
use Rattle.desk_model.specs.declared.reply.Reply.TheVariants as reply
use Rattle.desk_model.specs.statements.Job.{JobValue}
use Rattle.desk_model.specs.statements.Entry.{EntryValue}
use Rattle.desk_model.specs.histories.History.{History}
use Rattle.desk_model.specs.histories.Register.{vacancy_of}
use Rattle.desk_model.specs.boards.Boards.{is_on}
use Rattle.desk_model.specs.offers.Bars.{is_free}
use Rattle.fast_core.specs.declared.unfilled.Found.{Found}
use Rattle.fast_core.specs.declared.unfilled.Unfilled.{Unfilled}

-- the person is on no board of the job's chain, or barred from it at the moment
abbrev pub IsOutOrBarred : History → ℕ → JobValue → ℕ → Type 0
IsOutOrBarred h m job p = (b : List ℕ) → list_any (bytes_eq b) job.chain ≡ true → is_on h p b ≡ true → is_free h m job p ≡ false

-- whatever the vacancy was made as, that is so of all, but maybe of some of these
pub record IsUnfilledBut (h : History) (v m : ℕ) (some : List ℕ) : Type 0 where
  pub barred : (job : JobValue) → vacancy_of h v ≡ Some job → (p : ℕ) → list_any (nat_eq p) some ≡ false → IsOutOrBarred h m job p

-- that is so of a vacancy and the moment at which it was found unfilled, but of those who were touched since
pub record IsFound (h : History) (touched : List ℕ) (f : Found) : Type 0 where
  pub before : f.before ≤ length touched
  pub unfilled : IsUnfilledBut h f.vac f.moment (drop f.before touched)

-- and of each that is remembered
pub record KeepsUnfilled (u : Unfilled) (h : History) : Type 0 where
  pub each : All (IsFound h u.touched.items) u.found.items

-- ---- what an entry tells

-- the vacancy that a command calls by `next`
abbrev pub calls : Cmd → Option ℕ
calls (cmd.Next vac) = Some vac
calls other = None

-- this one, where the reply tells that it is unfilled
abbrev pub if_unfilled : Reply → Option ℕ → Option ℕ
if_unfilled (reply.Unfilled listed) vac = vac
if_unfilled other vac = None

-- the vacancy that an entry calls and tells to be unfilled
abbrev pub found_by : EntryValue → Option ℕ
found_by e = if_unfilled e.reply (calls e.stated.cmd)
