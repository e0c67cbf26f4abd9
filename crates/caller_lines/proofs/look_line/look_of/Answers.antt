use Rattle.caller_lines.proofs.LookLemmas.{look-record}
use Rattle.caller_lines.proofs.WordLemmas.{word-is}
use Rattle.caller_lines.proofs.look_line.look_of.Goals as goal

pub returns-clause-some : goal.returns-clause-some
returns-clause-some c =
    look-record c.args.fields.now _ _ _ c.in-len3.len_at_least c.in-len3.len_below
    (word-is _ _ _ _ c.ne.ensures c.if-ne.false c.as_slice.ensures) c.in_ok-read.ensures c.in_ok-read_position.ensures.some
