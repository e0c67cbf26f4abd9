use Rattle.std.specs.Prelude.{is_ok}
use Rattle.duty_record.specs.Deeds.{deed_of}
use Rattle.duty_record.proofs.BookLemmas.{tours-taken, tours-kept, tours-stay, by_result}
use Rattle.duty_record.proofs.tour_book.TourBook.tell.Goals as goal

pub returns : goal.returns
returns c did are =
    let r = deed_of c.args.event.now c.args.vacancy in
    let taken = tours-taken c.add.new.self c.take.new.self c.args.person (is_ok c.take.result) r did c.in_ok-add.ensures.has c.take.ensures (c.in_ok-add.ensures.stay did are) in
    by_result c.take.result _ _ (λ fine. tours-kept c.take.new.self c.args.person r did (is_ok c.take.result) fine taken) (λ bad. tours-stay c.take.new.self c.args.person r did (is_ok c.take.result) bad taken)
