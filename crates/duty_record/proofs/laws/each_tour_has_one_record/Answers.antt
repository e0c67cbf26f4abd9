use Rattle.duty_record.proofs.LawLemmas.{events-told, tours-recorded}
use Rattle.duty_record.proofs.laws.each_tour_has_one_record.Goals as goal

pub returns-clause-events : goal.returns-clause-events
returns-clause-events c = events-told

pub returns-clause-tours : goal.returns-clause-tours
returns-clause-tours c = tours-recorded
