-- How many steps an answer takes.
use Rattle.std.specs.Prelude.{ℕ, Option, None, Some}
use Rattle.desk_model.specs.declared.command.Cmd.{Cmd}
use Rattle.desk_model.specs.declared.command.Cmd.TheVariants as cmd
use Rattle.desk_model.specs.statements.Job.{JobValue}
use Rattle.desk_model.specs.histories.History.{History}
use Rattle.desk_model.specs.histories.Register.{vacancy_of}

-- so many as a search of the vacancy's chain takes; none where it was never made
abbrev pub steps_of : (JobValue → ℕ) → Option JobValue → ℕ
steps_of most None = 0
steps_of most (Some job) = most job

-- at most so many steps are taken for a command at a moment: `next` and `offer` search, and no other does
abbrev pub most_steps : (ℕ → JobValue → ℕ) → History → ℕ → Cmd → ℕ
most_steps most h m (cmd.Next vac) = steps_of (most m) (vacancy_of h vac)
most_steps most h m (cmd.Offer vac person) = steps_of (most m) (vacancy_of h vac)
most_steps most h m other = 0
