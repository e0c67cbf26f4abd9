use Rattle.duty_events.proofs.ListLemmas.{lawful-take}
use Rattle.duty_events.proofs.laws.the_first_events_are_lawful.Goals as goal

pub returns : goal.returns
returns c es many lawful = lawful-take es many lawful
