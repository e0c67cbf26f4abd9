-- Who has accepted which vacancy and has it still, who has begun it, and which were annulled.
use Rattle.std.specs.Prelude.{ℕ, Bool, true, false, ◌&&◌, nat_eq, Option, None, Some, is_some, unwrap_or, if◌then◌else◌}
use Rattle.duty_events.specs.declared.event.Event.{Event}
use Rattle.duty_events.specs.declared.event.Event.TheVariants as event
use Rattle.desk_model.specs.declared.command.Cmd.{Cmd}
use Rattle.desk_model.specs.declared.command.Cmd.TheVariants as cmd
use Rattle.desk_model.specs.histories.History.{History, Step, steps, said, first_of, last_of}

-- the event is a report: a ride or duty
abbrev pub reports : Event → Bool
reports (event.Ride t) = true
reports (event.Duty t) = true
reports other = false

-- what a command says of whether this vacancy is this person's: it is theirs where they accept it; no more where they accept
-- another one, drop what they have or report, or where it is annulled
abbrev pub assigns : ℕ → ℕ → Cmd → Option Bool
assigns p v (cmd.Accept vac person) = if nat_eq person p then Some (nat_eq vac v) else None
assigns p v (cmd.Drop person) = if nat_eq person p then Some false else None
assigns p v (cmd.Happened person event) = if nat_eq person p && reports event then Some false else None
assigns p v (cmd.Annul vac) = if nat_eq vac v then Some false else None
assigns p v other = None

-- the vacancy is assigned to the person: the last accepted command that says whether it is says so
abbrev pub is_assigned : History → ℕ → ℕ → Bool
is_assigned h p v = unwrap_or (last_of (said (assigns p v)) h.entries) false

-- the vacancy that this person accepts by a command, and the person who accepts this vacancy
abbrev pub accepts : ℕ → Cmd → Option ℕ
accepts p (cmd.Accept vac person) = if nat_eq person p then Some vac else None
accepts p other = None

abbrev pub accepted_by : ℕ → Cmd → Option ℕ
accepted_by v (cmd.Accept vac person) = if nat_eq vac v then Some person else None
accepted_by v other = None

-- the number, where it passes
abbrev pub only_if : (ℕ → Bool) → Option ℕ → Option ℕ
only_if test None = None
only_if test (Some n) = if test n then Some n else None

-- the vacancy that is assigned to the person: the one that they accepted last, while it is theirs
abbrev pub assigned : History → ℕ → Option ℕ
assigned h p = only_if (is_assigned h p) (last_of (said (accepts p)) h.entries)

-- the person to whom the vacancy is assigned: who accepted it last, while it is theirs
abbrev pub holder : History → ℕ → Option ℕ
holder h v = only_if (λ p. is_assigned h p v) (last_of (said (accepted_by v)) h.entries)

-- the person who begins this vacancy by a command, after this history: who reports, where it is assigned to them
abbrev pub begins : ℕ → History → Cmd → Option ℕ
begins v h (cmd.Happened person event) = if reports event && is_assigned h person v then Some person else None
begins v h other = None

abbrev pub begun_by : ℕ → Step → Option ℕ
begun_by v s = said (begins v s.before) s.entry

-- the person who has begun the vacancy
abbrev pub begun : History → ℕ → Option ℕ
begun h v = first_of (begun_by v) (steps h)

-- a command that annuls this vacancy
abbrev pub annuls : ℕ → Cmd → Option ℕ
annuls v (cmd.Annul vac) = if nat_eq vac v then Some vac else None
annuls v other = None

-- the vacancy was annulled
abbrev pub is_annulled : History → ℕ → Bool
is_annulled h v = is_some (first_of (said (annuls v)) h.entries)
