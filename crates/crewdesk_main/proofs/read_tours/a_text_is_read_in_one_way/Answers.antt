use Rattle.crewdesk_main.proofs.OneJournalLemmas.{StartsWith-one, HasNoEntry-one, StartsWith-no_line, StartsWith-opening}
use Rattle.crewdesk_main.proofs.read_tours.a_text_is_read_in_one_way.Goals as goal

pub returns-clause-history : goal.returns-clause-history
returns-clause-history c = StartsWith-one

pub returns-clause-line : goal.returns-clause-line
returns-clause-line c = HasNoEntry-one

pub returns-clause-no_line : goal.returns-clause-no_line
returns-clause-no_line c = StartsWith-no_line

pub returns-clause-opening : goal.returns-clause-opening
returns-clause-opening c = StartsWith-opening
