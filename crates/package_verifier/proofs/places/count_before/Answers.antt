-- The places of the files before it come first.
use Rattle.std.proofs.Common.{rules}
use Rattle.std.proofs.lemmas.List.Sorted.{IsPartitionPoint-from_clause}
use Rattle.package_verifier.specs.Places.{is_before_file}
use Rattle.package_verifier.specs.declared.places.FilePlace.{FilePlace}
use Rattle.package_verifier.proofs.FileOrder.{parted}
use Rattle.package_verifier.proofs.places.count_before.Goals as goal

pub returns-clause-point : goal.returns-clause-point
returns-clause-point c = λ order.
    IsPartitionPoint-from_clause (λ (p : FilePlace). is_before_file p.folder p.file c.args.folder c.args.file) _ _ c.partition_point.ensures.partitioned (parted c.args.folder c.args.file c.args.places.now order) (λ a r f k. search rules)
