-- `at` and `vac`, which change nothing: the answers in order.
use Rattle.std.specs.Prelude.{ℕ, ◌-◌, Option, None, Some, is_none, if◌then◌else◌, List, length}
use Rattle.std.specs.List.{slice_get}
use Rattle.desk_model.specs.declared.reply.Reply.{Reply}
use Rattle.desk_model.specs.declared.reply.Reply.TheVariants as reply
use Rattle.desk_model.specs.histories.History.{History}
use Rattle.desk_model.specs.histories.Register.{board_of, vacancy_of}
use Rattle.desk_model.specs.boards.Boards.{order}
use Rattle.desk_model.specs.offers.States.{state_of}

-- somebody stands there; else nobody does, and the board has so many persons
abbrev pub seen_answer : ℕ → Option ℕ → Reply
seen_answer count (Some p) = reply.Seen p
seen_answer count None = reply.NoOne count

-- who stands at a position of a board, from 1
abbrev pub member_at : History → List ℕ → ℕ → Option ℕ
member_at h b position = slice_get (order h b) (position - 1)

-- `at`: the code is no board; else who stands at the position
abbrev pub at_answer : History → List ℕ → ℕ → Reply
at_answer h b position =
    if is_none (board_of h b) then reply.UnknownBoard b
    else seen_answer (length (order h b)) (member_at h b position)

-- `vac`: the vacancy was never made; else how it stands
abbrev pub vac_answer : History → ℕ → Reply
vac_answer h v = if is_none (vacancy_of h v) then reply.UnknownVacancy else reply.State (state_of h v)
