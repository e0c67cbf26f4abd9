use Rattle.std.proofs.Common.{nat_lt, rules}
use Rattle.std.proofs.lemmas.List.Sorted.{IsPartitionPoint-from_clause}
use Rattle.offer_flight.specs.Kept.{person_of}
use Rattle.offer_flight.proofs.Lookups.{parted, index-of}
use Rattle.offer_flight.proofs.indexes.index_of_person.Goals as goal

pub returns : goal.returns
returns c =
    let point = IsPartitionPoint-from_clause (λ offer. nat_lt (person_of offer) c.args.person) _ _ c.partition_point.ensures.partitioned (parted person_of _ c.args.person c.requires) (λ a r q k. search rules) in
    index-of person_of _ c.args.person c.requires c.partition_point.result c.partition_point.ensures.bound point
