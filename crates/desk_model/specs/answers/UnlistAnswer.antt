-- `unlist`: the answers in order.
use Rattle.std.specs.Prelude.{ℕ, is_none, if◌then◌else◌, List}
use Rattle.desk_model.specs.declared.reply.Reply.{Reply}
use Rattle.desk_model.specs.declared.reply.Reply.TheVariants as reply
use Rattle.desk_model.specs.histories.History.{History}
use Rattle.desk_model.specs.histories.Register.{person_of, board_of}
use Rattle.desk_model.specs.offers.Offers.{on_offer}
use Rattle.desk_model.specs.boards.Boards.{is_on}
use Rattle.desk_model.specs.answers.EventAnswer.{unless_frozen}

-- nobody has the number; the code is no board; the person isn't on it; a vacancy is on offer to them; else it is done
abbrev pub unlist_answer : History → ℕ → List ℕ → Reply
unlist_answer h p b =
    if is_none (person_of h p) then reply.UnknownPerson
    else if is_none (board_of h b) then reply.UnknownBoard b
    else if is_on h p b then unless_frozen (on_offer h p) reply.Done
    else reply.NotListed
