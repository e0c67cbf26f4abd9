use Rattle.desk_text.proofs.LineLemmas.{entry_line-IsLine, opening_line-IsLine}
use Rattle.desk_text.proofs.laws.each_line_ends_once.Goals as goal

pub returns-clause-opening : goal.returns-clause-opening
returns-clause-opening c = opening_line-IsLine

pub returns-clause-entry : goal.returns-clause-entry
returns-clause-entry c = entry_line-IsLine
