use Rattle.std.proofs.Common.{sym}
use Rattle.line_writer.proofs.FieldLemmas.{outcome_line-pieces}
use Rattle.line_writer.proofs.outcome_line.put_outcome.Goals as goal

pub returns : goal.returns
returns c =
    rw (c.put_byte-2.ensures.text, c.put_reply.ensures.text, c.put_byte.ensures.text, c.put.ensures.text, c.write.ensures)
    (sym (outcome_line-pieces _ _ _))
