-- `list`: the answers in order.
use Rattle.std.specs.Prelude.{ℕ, nat_le, is_none, if◌then◌else◌, List, length}
use Rattle.desk_model.specs.declared.limits.TheConstants.{LIST_LIMIT, MEMBER_LIMIT}
use Rattle.desk_model.specs.declared.reply.Reply.{Reply}
use Rattle.desk_model.specs.declared.reply.Reply.TheVariants as reply
use Rattle.desk_model.specs.histories.History.{History}
use Rattle.desk_model.specs.histories.Register.{person_of, board_of}
use Rattle.desk_model.specs.boards.Boards.{is_on, boards_of, order}

-- nobody has the number; the code is no board; the person is on it; they are on 4 boards; 500 are on it; else it is
-- done
abbrev pub list_answer : History → ℕ → List ℕ → Reply
list_answer h p b =
    if is_none (person_of h p) then reply.UnknownPerson
    else if is_none (board_of h b) then reply.UnknownBoard b
    else if is_on h p b then reply.Used
    else if nat_le LIST_LIMIT (length (boards_of h p)) then reply.ListsFull
    else if nat_le MEMBER_LIMIT (length (order h b)) then reply.MembersFull
    else reply.Done
