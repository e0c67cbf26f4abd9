use Rattle.crewdesk_main.proofs.PlusLemmas.{alone-journal, alone-more, behind-journal, behind-more}
use Rattle.crewdesk_main.proofs.cut_at_plus.a_legal_journal_is_the_journal_part.Goals as goal

pub returns-clause-alone : goal.returns-clause-alone
returns-clause-alone c = alone-journal c.each_line_ends_once.ensures.opening c.each_line_ends_once.ensures.entry c.a_legal_history_fits.ensures

pub returns-clause-no_more : goal.returns-clause-no_more
returns-clause-no_more c = alone-more c.each_line_ends_once.ensures.opening c.each_line_ends_once.ensures.entry c.a_legal_history_fits.ensures

pub returns-clause-behind : goal.returns-clause-behind
returns-clause-behind c = behind-journal c.each_line_ends_once.ensures.opening c.each_line_ends_once.ensures.entry c.a_legal_history_fits.ensures

pub returns-clause-more : goal.returns-clause-more
returns-clause-more c = behind-more c.each_line_ends_once.ensures.opening c.each_line_ends_once.ensures.entry c.a_legal_history_fits.ensures
