use Rattle.std.proofs.Common.{length, ap, ◌∙◌, arith}
use Rattle.offer_flight.specs.Flight.{of_vacancy, of_person}
use Rattle.offer_flight.proofs.Maps.{at_vacancy, at_person, of_vacancy-taken_out, of_person-taken_out, kept-taken_out}
use Rattle.offer_flight.proofs.flight.Flight.finish.Goals as goal

pub remove-requires : goal.remove-requires
remove-requires c =
    let at = at_vacancy _ _ _ _ _ _ _ c.self.view_is c.self.invariant c.in_ok-done.done c.args.vac c.in_ok-done.ensures _ _ c.deref.ensures.value c.deref-2.ensures.value c.index_of_vacancy-index.ensures c.index_of_person-again.ensures in
    omega (arith, at.0, c.deref.ensures.len, ap length c.deref.ensures.value)

pub remove-requires-2 : goal.remove-requires-2
remove-requires-2 c =
    let at = at_person _ _ _ _ _ _ _ c.self.view_is c.self.invariant c.in_ok-done.done c.args.vac c.in_ok-done.ensures _ _ c.deref.ensures.value c.deref-2.ensures.value c.index_of_vacancy-index.ensures c.index_of_person-again.ensures in
    omega (arith, at.0, c.deref-2.ensures.len, ap length c.deref-2.ensures.value)

pub invariant_of-self : goal.invariant_of-self
invariant_of-self c =
    rw (c.remove.ensures.items, c.remove.ensures.capacity, c.remove-2.ensures.items, c.remove-2.ensures.capacity)
    (kept-taken_out _ _ _ _ _ _ _ c.self.view_is c.self.invariant c.in_ok-done.done c.args.vac c.in_ok-done.ensures _ _ c.deref.ensures.value c.deref-2.ensures.value c.index_of_vacancy-index.ensures c.index_of_person-again.ensures)

pub returns-clause-vacancies : goal.returns-clause-vacancies
returns-clause-vacancies c other =
    ap (λ l. of_vacancy l other) c.remove.ensures.items
    ∙ of_vacancy-taken_out _ _ _ _ _ _ _ c.self.view_is c.self.invariant c.in_ok-done.done c.args.vac c.in_ok-done.ensures _ _ c.deref.ensures.value c.deref-2.ensures.value c.index_of_vacancy-index.ensures c.index_of_person-again.ensures other

pub returns-clause-persons : goal.returns-clause-persons
returns-clause-persons c person =
    ap (λ l. of_person l person) c.remove.ensures.items
    ∙ of_person-taken_out _ _ _ _ _ _ _ c.self.view_is c.self.invariant c.in_ok-done.done c.args.vac c.in_ok-done.ensures _ _ c.deref.ensures.value c.deref-2.ensures.value c.index_of_vacancy-index.ensures c.index_of_person-again.ensures person
