use Rattle.std.proofs.Common.{◌<◌, Some, length, sym, ap, subst, ◌∙◌, arith}
use Rattle.std.proofs.lemmas.Bool.Decides.{nat_tests}
use Rattle.std.proofs.lemmas.List.{get_or_default}
use Rattle.offer_flight.specs.Flight.{of_person}
use Rattle.offer_flight.specs.Kept.{IsIndex, blank, person_of}
use Rattle.offer_flight.proofs.Lookups.{index-has, index-lacks}
use Rattle.offer_flight.proofs.flight.Flight.of_person.Goals as goal

pub returns-in_err-found : goal.returns-in_err-found
returns-in_err-found c =
    let l = c.self.inside.by_person.items in
    let at = subst (λ xs. IsIndex person_of xs c.args.person c.index_of_person-index.result) c.deref.ensures.value c.index_of_person-index.ensures in
    c.from_residual.ensures ∙ sym (index-lacks person_of l c.args.person c.index_of_person-index.result c.self.invariant.again at (λ within. absurd (omega (arith, c.in_err-found.ensures.lookup, c.deref-2.ensures.len, within)))) ∙ c.self.invariant.same c.args.person ∙ ap (λ l. of_person l c.args.person) c.self.view_is

pub returns-then-eq : goal.returns-then-eq
returns-then-eq c =
    let l = c.self.inside.by_person.items in
    let at = subst (λ xs. IsIndex person_of xs c.args.person c.index_of_person-index.result) c.deref.ensures.value c.index_of_person-index.ensures in
    let within : c.index_of_person-index.result < length l = grind (arith, nat_tests, c.in_ok-found.ensures.lookup, c.deref-2.ensures.len) in
    let read = get_or_default l c.index_of_person-index.result blank c.in_ok-found.found.now within ∙ sym (rw c.deref-2.ensures.value at c.in_ok-found.ensures.lookup.1) in
    ap Some (sym read) ∙ sym (index-has person_of l c.args.person c.index_of_person-index.result c.self.invariant.again at within (grind (arith, nat_tests, read, c.eq.ensures, c.if-eq.true))) ∙ c.self.invariant.same c.args.person ∙ ap (λ l. of_person l c.args.person) c.self.view_is

pub returns-else-eq : goal.returns-else-eq
returns-else-eq c =
    let l = c.self.inside.by_person.items in
    let at = subst (λ xs. IsIndex person_of xs c.args.person c.index_of_person-index.result) c.deref.ensures.value c.index_of_person-index.ensures in
    let read = λ (within : c.index_of_person-index.result < length l). get_or_default l c.index_of_person-index.result blank c.in_ok-found.found.now within ∙ sym (rw c.deref-2.ensures.value at c.in_ok-found.ensures.lookup.1) in
    sym (index-lacks person_of l c.args.person c.index_of_person-index.result c.self.invariant.again at (λ within same. grind (arith, nat_tests, same, read within, c.eq.ensures, c.if-eq.false))) ∙ c.self.invariant.same c.args.person ∙ ap (λ l. of_person l c.args.person) c.self.view_is
