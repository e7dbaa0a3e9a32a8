use Rattle.std.proofs.Common.{rules}
use Rattle.std.proofs.lemmas.List.Sorted.{IsPartitionPoint-from_clause}
use Rattle.base_core.specs.ByteOrder.{precedes}
use Rattle.db_core.specs.declared.name_places.NamePlace.{NamePlace}
use Rattle.db_core.proofs.NamePlaces.{names_parted, point_seen}
use Rattle.db_core.proofs.name_places.count_before.Goals as goal

pub returns-clause-point : goal.returns-clause-point
returns-clause-point c =
    point_seen c.args.names.now c.args.name.now c.partition_point.result c.partition_point.ensures.bound
    (IsPartitionPoint-from_clause (λ (n : NamePlace). precedes n.name.now c.args.name.now) _ _ c.partition_point.ensures.partitioned
    (names_parted c.args.names.now c.args.name.now c.requires)
    (λ a r f k. search rules))
