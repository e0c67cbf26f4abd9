use Rattle.duty_events.proofs.EventLemmas.{kind_of-stays, kind_of-until, kind_of-within, kind_of-late}
use Rattle.duty_events.proofs.laws.kinds_when_an_event_comes.Goals as goal

pub returns : goal.returns
returns c = record { stay = kind_of-stays; until = kind_of-until; own = kind_of-within; behind = kind_of-late }
