use Rattle.std.proofs.Common.{refl, sym, ◌∙◌}
use Rattle.duty_record.proofs.TourLemmas.{ended_tours-none}
use Rattle.duty_record.proofs.person_tours.PersonTours.new.Goals as goal

pub returns : goal.returns
returns c = record { totals = c.none.ensures; vacancy = refl; ended = c.new.ensures.items ∙ sym ended_tours-none }
