-- `off`, `on` and `qualify`: the answers in order.
use Rattle.std.specs.Prelude.{ℕ, is_none, if◌then◌else◌}
use Rattle.std.specs.Option.{option_or}
use Rattle.desk_model.specs.declared.reply.Reply.{Reply}
use Rattle.desk_model.specs.declared.reply.Reply.TheVariants as reply
use Rattle.desk_model.specs.histories.History.{History}
use Rattle.desk_model.specs.histories.Register.{person_of}
use Rattle.desk_model.specs.offers.Offers.{on_offer}
use Rattle.desk_model.specs.boards.Marks.{is_marked_off}
use Rattle.desk_model.specs.offers.Assigned.{assigned}
use Rattle.desk_model.specs.answers.EventAnswer.{unless_frozen}

-- `off`: nobody has the number; the person is marked off; a vacancy is on offer to them, or assigned to them; else it is done
abbrev pub off_answer : History → ℕ → Reply
off_answer h p =
    if is_none (person_of h p) then reply.UnknownPerson
    else if is_marked_off h p then reply.Already
    else unless_frozen (option_or (on_offer h p) (assigned h p)) reply.Done

-- `on`: nobody has the number; the person is marked on; else it is done
abbrev pub on_answer : History → ℕ → Reply
on_answer h p =
    if is_none (person_of h p) then reply.UnknownPerson
    else if is_marked_off h p then reply.Done
    else reply.Already

-- `qualify`: nobody has the number; else it is done
abbrev pub qualify_answer : History → ℕ → Reply
qualify_answer h p = if is_none (person_of h p) then reply.UnknownPerson else reply.Done
