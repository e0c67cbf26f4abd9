use Rattle.law_bars.proofs.LawLemmas.{law_bar-free}
use Rattle.law_bars.proofs.laws.no_bar_where_the_law_is_kept.Goals as goal

pub returns : goal.returns
returns c = law_bar-free c.rest_in_words.ensures.rest c.days_in_words.ensures c.hours_in_words.ensures.hours c.hours_in_words.ensures.limbo
