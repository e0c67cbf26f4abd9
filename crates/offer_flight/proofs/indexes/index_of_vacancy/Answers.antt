use Rattle.std.proofs.Common.{nat_lt, rules}
use Rattle.std.proofs.lemmas.List.Sorted.{IsPartitionPoint-from_clause}
use Rattle.offer_flight.specs.Kept.{vac_of}
use Rattle.offer_flight.proofs.Lookups.{parted, index-of}
use Rattle.offer_flight.proofs.indexes.index_of_vacancy.Goals as goal

pub returns : goal.returns
returns c =
    let point = IsPartitionPoint-from_clause (λ offer. nat_lt (vac_of offer) c.args.vac) _ _ c.partition_point.ensures.partitioned (parted vac_of _ c.args.vac c.requires) (λ a r q k. search rules) in
    index-of vac_of _ c.args.vac c.requires c.partition_point.result c.partition_point.ensures.bound point
