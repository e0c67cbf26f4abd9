-- `enrol`: the answers in order.
use Rattle.std.specs.Prelude.{ℕ, nat_le, is_some, if◌then◌else◌, length}
use Rattle.desk_model.specs.declared.limits.TheConstants.{PERSON_LIMIT}
use Rattle.desk_model.specs.declared.reply.Reply.{Reply}
use Rattle.desk_model.specs.declared.reply.Reply.TheVariants as reply
use Rattle.desk_model.specs.histories.History.{History}
use Rattle.desk_model.specs.histories.Register.{person_of, persons}

-- the number is enrolled; 1,000 are enrolled; else it is done
abbrev pub enrol_answer : History → ℕ → Reply
enrol_answer h p =
    if is_some (person_of h p) then reply.Used
    else if nat_le PERSON_LIMIT (length (persons h)) then reply.PersonsFull
    else reply.Done
