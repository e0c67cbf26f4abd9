use Rattle.duty_events.proofs.EndedTourLemmas.{last_begun-push, last_tour-push}
use Rattle.duty_events.proofs.TourLemmas.{starts-push}
use Rattle.duty_events.proofs.laws.tours_when_an_event_comes.Goals as goal

pub returns : goal.returns
returns c = record { starts = starts-push; begun = last_begun-push; ended = last_tour-push }
