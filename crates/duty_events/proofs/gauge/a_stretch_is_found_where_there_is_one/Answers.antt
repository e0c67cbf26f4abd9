use Rattle.duty_events.proofs.StretchLemmas.{has_stretch-decides, has_stretch-none}
use Rattle.duty_events.proofs.gauge.a_stretch_is_found_where_there_is_one.Goals as goal

pub returns : goal.returns
returns c = record { found = has_stretch-decides; none = has_stretch-none }
