use Rattle.duty_events.proofs.PlaceLemmas.{place_of-stays, place_of-until, place_of-behind}
use Rattle.duty_events.proofs.laws.places_when_an_event_comes.Goals as goal

pub returns : goal.returns
returns c = record { stay = place_of-stays; until = place_of-until; behind = place_of-behind }
