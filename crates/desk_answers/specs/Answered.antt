-- What a search for what an answer rests on gives.
use Rattle.std.specs.Prelude.{Result, Ok, Err}
use Rattle.desk_model.specs.declared.reply.Reply.{Reply}

-- the refusal that it met, or what the rest makes of what it found
abbrev pub answered : {X : Type 0} → (X → Reply) → Result X Reply → Reply
answered rest (Ok found) = rest found
answered rest (Err refusal) = refusal
