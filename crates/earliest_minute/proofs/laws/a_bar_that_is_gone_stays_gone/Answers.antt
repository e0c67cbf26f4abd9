use Rattle.earliest_minute.proofs.GoneLemmas.{stays-gone}
use Rattle.earliest_minute.proofs.laws.a_bar_that_is_gone_stays_gone.Goals as goal

pub returns : goal.returns
returns c = stays-gone c.no_bar_where_the_law_is_kept.ensures c.no_event_lies_ahead.ensures c.a_place_stays_from_the_latest_minute_on.ensures
