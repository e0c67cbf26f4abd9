use Rattle.kept_desk.proofs.WholeLemmas.{whole-at}
use Rattle.kept_desk.proofs.line_end.whole_lines.Goals as goal

pub returns-then-text-len-eq10-clause-whole : goal.returns-then-text-len-eq10-clause-whole
returns-then-text-len-eq10-clause-whole c = whole-at c.args.text.now c.loop-len.len c.loop-len-test.true c.loop-len.invariant.within c.if-text-len-eq10.true c.loop-len.invariant.cut
