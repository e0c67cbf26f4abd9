use Rattle.std.proofs.Common.{◌≡◌, ◌∙◌, map, rules}
use Rattle.std.specs.Map.Iter.{deref}
use Rattle.std.proofs.lemmas.Map.Iter.{iter_end}
use Rattle.indexmap.specs.IndexMap.{keys}
use Rattle.duty_record.proofs.ExcessLemmas.{are-rising}
use Rattle.duty_record.proofs.tour_book.TourBook.persons.Goals as goal

pub returns : goal.returns
returns c =
    let whole : map deref c.loop-person.yielded ≡ keys c.args.self.now.people = search (rules, iter_end) in
    are-rising c.args.self.now _ _ c.keys-person-items.ensures.unique (c.loop-person.invariant ∙ whole) c.sort_unstable.ensures.permutation c.sort_unstable.ensures.sorted
