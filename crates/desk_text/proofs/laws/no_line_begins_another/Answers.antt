use Rattle.desk_text.proofs.BeginningLemmas.{entry-begins, opening-begins, opening-begins_entry, entry-begins_opening}
use Rattle.desk_text.proofs.laws.no_line_begins_another.Goals as goal

pub returns-clause-entries : goal.returns-clause-entries
returns-clause-entries c = entry-begins

pub returns-clause-openings : goal.returns-clause-openings
returns-clause-openings c = opening-begins

pub returns-clause-no_entry : goal.returns-clause-no_entry
returns-clause-no_entry c = opening-begins_entry

pub returns-clause-no_opening : goal.returns-clause-no_opening
returns-clause-no_opening c = entry-begins_opening
