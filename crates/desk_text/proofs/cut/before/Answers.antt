use Rattle.desk_text.proofs.CutLemmas.{before-some, before-none}
use Rattle.desk_text.proofs.cut.before.Goals as goal

pub returns-clause-some : goal.returns-clause-some
returns-clause-some c = before-some c.args.text.now c.args.end.now c.strip_suffix.result c.strip_suffix.ensures.cases

pub returns-clause-none : goal.returns-clause-none
returns-clause-none c = before-none c.args.text.now c.args.end.now c.strip_suffix.result c.strip_suffix.ensures.cases
