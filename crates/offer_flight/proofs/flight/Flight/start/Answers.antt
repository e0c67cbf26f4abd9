use Rattle.std.proofs.Common.{ap, ◌∙◌}
use Rattle.offer_flight.specs.Flight.{of_vacancy, of_person}
use Rattle.offer_flight.proofs.Maps.{of_vacancy-put_in, of_person-put_in, kept-put_in}
use Rattle.offer_flight.proofs.flight.Flight.start.Goals as goal

pub invariant_of-self : goal.invariant_of-self
invariant_of-self c =
    rw (c.put_in.ensures.items, c.put_in.ensures.capacity, c.put_in-2.ensures.items, c.put_in-2.ensures.capacity)
    (kept-put_in _ _ _ _ _ _ _ c.self.view_is c.self.invariant c.args.made c.requires.vacancy c.requires.person _ _ c.deref.ensures.value c.deref-2.ensures.value c.index_of_vacancy-index.ensures c.index_of_person-again.ensures c.requires.room)

pub returns-clause-vacancies : goal.returns-clause-vacancies
returns-clause-vacancies c vac =
    ap (λ l. of_vacancy l vac) c.put_in.ensures.items
    ∙ of_vacancy-put_in _ _ _ _ _ _ _ c.self.view_is c.self.invariant c.args.made c.requires.vacancy c.requires.person _ _ c.deref.ensures.value c.deref-2.ensures.value c.index_of_vacancy-index.ensures c.index_of_person-again.ensures vac

pub returns-clause-persons : goal.returns-clause-persons
returns-clause-persons c person =
    ap (λ l. of_person l person) c.put_in.ensures.items
    ∙ of_person-put_in _ _ _ _ _ _ _ c.self.view_is c.self.invariant c.args.made c.requires.vacancy c.requires.person _ _ c.deref.ensures.value c.deref-2.ensures.value c.index_of_vacancy-index.ensures c.index_of_person-again.ensures person
