-- `hours`: the answers in order.
use Rattle.std.specs.Prelude.{ℕ, ◌+◌, Bool, ◌&&◌, nat_lt, nat_le, is_none, if◌then◌else◌}
use Rattle.month_hours.specs.Used.{used}
use Rattle.month_hours.specs.Capped.{capped}
use Rattle.desk_base.specs.Window.{WindowValue}
use Rattle.desk_model.specs.declared.reply.Reply.{Reply}
use Rattle.desk_model.specs.declared.reply.Reply.TheVariants as reply
use Rattle.desk_model.specs.histories.History.{History}
use Rattle.desk_model.specs.histories.Register.{person_of}
use Rattle.desk_model.specs.histories.Duty.{events}

-- the month is one of the window's
abbrev pub has_month : WindowValue → ℕ → Bool
has_month w month = nat_le w.first month && nat_lt month (w.first + w.months)

-- nobody has the number; the month isn't in the window; else the person's worked minutes of the month, and the capped
abbrev pub hours_answer : History → ℕ → ℕ → Reply
hours_answer h p month =
    if is_none (person_of h p) then reply.UnknownPerson
    else if has_month h.opening.window month then reply.Hours (used (events h p) month) (capped (events h p) month)
    else reply.OutsideWindow
