use Rattle.law_bars.proofs.LawLemmas.{rested-not_worked}
use Rattle.law_bars.proofs.laws.who_is_rested_was_off_ten_hours.Goals as goal

pub returns : goal.returns
returns c es home moment report duty limbo lawful off none t early late =
    let rest = ((c.no_bar_where_the_law_is_kept.ensures es home moment report duty limbo lawful).0 none).rest in
    c.a_minute_that_is_not_worked_is_off.ensures es lawful off t (rested-not_worked c.rest_in_words.ensures.off es report t lawful rest early late)
