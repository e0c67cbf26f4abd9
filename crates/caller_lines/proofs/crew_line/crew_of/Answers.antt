use Rattle.caller_lines.proofs.CrewLemmas.{crew-record}
use Rattle.caller_lines.proofs.WordLemmas.{word-is}
use Rattle.caller_lines.proofs.crew_line.crew_of.Goals as goal

pub returns-clause-some : goal.returns-clause-some
returns-clause-some c =
    crew-record c.args.fields.now _ _ _ _ c.in-len4.len_at_least c.in-len4.len_below
    (word-is _ _ _ _ c.ne.ensures c.if-ne.false c.as_slice.ensures) c.in_ok-read.ensures.some c.in_ok-read_vac.ensures.some c.in_ok-read_vac-2.ensures.some
