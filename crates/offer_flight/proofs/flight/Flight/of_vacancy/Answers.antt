use Rattle.std.proofs.Common.{◌<◌, Some, length, sym, ap, subst, ◌∙◌, arith}
use Rattle.std.proofs.lemmas.Bool.Decides.{nat_tests}
use Rattle.std.proofs.lemmas.List.{get_or_default}
use Rattle.offer_flight.specs.Flight.{of_vacancy}
use Rattle.offer_flight.specs.Kept.{IsIndex, blank, vac_of}
use Rattle.offer_flight.proofs.Lookups.{index-has, index-lacks}
use Rattle.offer_flight.proofs.flight.Flight.of_vacancy.Goals as goal

pub returns-in_err-found : goal.returns-in_err-found
returns-in_err-found c =
    let l = c.self.inside.by_vacancy.items in
    let at = subst (λ xs. IsIndex vac_of xs c.args.vac c.index_of_vacancy-index.result) c.deref.ensures.value c.index_of_vacancy-index.ensures in
    c.from_residual.ensures ∙ sym (index-lacks vac_of l c.args.vac c.index_of_vacancy-index.result c.self.invariant.rising at (λ within. absurd (omega (arith, c.in_err-found.ensures.lookup, c.deref-2.ensures.len, within)))) ∙ ap (λ l. of_vacancy l c.args.vac) c.self.view_is

pub returns-then-eq : goal.returns-then-eq
returns-then-eq c =
    let l = c.self.inside.by_vacancy.items in
    let at = subst (λ xs. IsIndex vac_of xs c.args.vac c.index_of_vacancy-index.result) c.deref.ensures.value c.index_of_vacancy-index.ensures in
    let within : c.index_of_vacancy-index.result < length l = grind (arith, nat_tests, c.in_ok-found.ensures.lookup, c.deref-2.ensures.len) in
    let read = get_or_default l c.index_of_vacancy-index.result blank c.in_ok-found.found.now within ∙ sym (rw c.deref-2.ensures.value at c.in_ok-found.ensures.lookup.1) in
    ap Some (sym read) ∙ sym (index-has vac_of l c.args.vac c.index_of_vacancy-index.result c.self.invariant.rising at within (grind (arith, nat_tests, read, c.eq.ensures, c.if-eq.true))) ∙ ap (λ l. of_vacancy l c.args.vac) c.self.view_is

pub returns-else-eq : goal.returns-else-eq
returns-else-eq c =
    let l = c.self.inside.by_vacancy.items in
    let at = subst (λ xs. IsIndex vac_of xs c.args.vac c.index_of_vacancy-index.result) c.deref.ensures.value c.index_of_vacancy-index.ensures in
    let read = λ (within : c.index_of_vacancy-index.result < length l). get_or_default l c.index_of_vacancy-index.result blank c.in_ok-found.found.now within ∙ sym (rw c.deref-2.ensures.value at c.in_ok-found.ensures.lookup.1) in
    sym (index-lacks vac_of l c.args.vac c.index_of_vacancy-index.result c.self.invariant.rising at (λ within same. grind (arith, nat_tests, same, read within, c.eq.ensures, c.if-eq.false))) ∙ ap (λ l. of_vacancy l c.args.vac) c.self.view_is
