-- The journal's entries.
use Rattle.std.specs.Prelude.{ℕ}
use Rattle.desk_model.specs.declared.reply.Reply.{Reply}
use Rattle.desk_model.specs.statements.Statement.{StatedValue}

-- the caller's number; what it stated, and when; when the desk took it, and what it answered
pub record EntryValue : Type 0 where
  pub caller : ℕ
  pub stated : StatedValue
  pub moment : ℕ
  pub reply : Reply

abbrev pub entry_of : ℕ → StatedValue → ℕ → Reply → EntryValue
entry_of caller stated moment reply = record { caller = caller; stated = stated; moment = moment; reply = reply }
