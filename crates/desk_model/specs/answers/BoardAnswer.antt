-- `board`: the answers in order.
use Rattle.std.specs.Prelude.{ℕ, nat_le, is_some, if◌then◌else◌, List, length}
use Rattle.desk_model.specs.declared.limits.TheConstants.{BOARD_LIMIT}
use Rattle.desk_model.specs.declared.reply.Reply.{Reply}
use Rattle.desk_model.specs.declared.reply.Reply.TheVariants as reply
use Rattle.desk_model.specs.histories.History.{History}
use Rattle.desk_model.specs.histories.Register.{board_of, boards}

-- the code is a board; there are 64 boards; else it is done
abbrev pub board_answer : History → List ℕ → Reply
board_answer h b =
    if is_some (board_of h b) then reply.Used
    else if nat_le BOARD_LIMIT (length (boards h)) then reply.BoardsFull
    else reply.Done
