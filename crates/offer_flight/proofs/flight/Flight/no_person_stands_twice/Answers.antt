use Rattle.std.proofs.Common.{nat_eq, subst}
use Rattle.std.specs.List.{IsDistinct}
use Rattle.offer_flight.specs.Flight.{persons_of, IsOneMap}
use Rattle.offer_flight.specs.Kept.{person_of}
use Rattle.offer_flight.proofs.Maps.{one-map, distinct}
use Rattle.offer_flight.proofs.flight.Flight.no_person_stands_twice.Goals as goal

pub returns-clause-one_map : goal.returns-clause-one_map
returns-clause-one_map c = subst IsOneMap c.self.view_is (one-map _ c.self.invariant.rising c.self.invariant.apart)

pub returns-clause-apart : goal.returns-clause-apart
returns-clause-apart c = subst (λ offers. IsDistinct nat_eq (persons_of offers)) c.self.view_is (distinct person_of _ c.self.invariant.apart)
