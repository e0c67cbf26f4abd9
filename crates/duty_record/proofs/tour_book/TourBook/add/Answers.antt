use Rattle.std.proofs.Common.{◌≡◌, None, nat_eq, subst, rules}
use Rattle.indexmap.specs.IndexMap.{get}
use Rattle.desk_base.specs.Number.{IsNumber}
use Rattle.duty_record.proofs.BookLemmas.{tours-added, tours-kept_under}
use Rattle.duty_record.proofs.tour_book.TourBook.add.Goals as goal

pub returns-in_ok-put-clause-stay : goal.returns-in_ok-put-clause-stay
returns-in_ok-put-clause-stay c did are =
    let absent : get nat_eq c.args.self.now.people c.args.person ≡ None = search rules in
    tours-added c.args.self.now _ c.args.person c.new.result did (subst IsNumber c.number.ensures.value c.number.ensures.range) c.new.ensures absent c.in_ok-put.ensures are

pub returns-in_err-put-clause-stay : goal.returns-in_err-put-clause-stay
returns-in_err-put-clause-stay c did are = tours-kept_under c.args.self.now _ did c.in_err-put.ensures are
