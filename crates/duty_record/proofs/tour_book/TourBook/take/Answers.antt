use Rattle.std.proofs.Common.{◌≡◌, Some, cond, rules, nat_eq, sym, ◌∙◌, ap}
use Rattle.indexmap.specs.IndexMap.{get}
use Rattle.duty_record.proofs.BookLemmas.{at-same, takes-at}
use Rattle.duty_record.proofs.tour_book.TourBook.take.Goals as goal

pub returns-in-Some : goal.returns-in-Some
returns-in-Some c p =
    let e : get nat_eq (c.get_mut.follows.lender c.take.new.self) p ≡ cond (nat_eq c.args.person p) (Some c.take.new.self) (get nat_eq c.args.self.now.people p) = search rules in
    let found : get nat_eq c.args.self.now.people c.args.person ≡ Some c.in-Some.kept.now = search rules in
    takes-at (nat_eq c.args.person p) _ _ _ _ c.in-Some.kept.now c.take.new.self (λ at. ap (get nat_eq c.args.self.now.people) (sym (at-same c.args.person p at)) ∙ found) e c.take.ensures
