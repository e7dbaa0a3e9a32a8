use Rattle.std.proofs.Common.{rules}
use Rattle.std.specs.Cmp.Lexicographic.{slice_cmp}
use Rattle.std.specs.Ordering.{is_lt, nat_cmp}
use Rattle.std.proofs.lemmas.List.Sorted.{IsPartitionPoint-from_clause}
use Rattle.path_claims.specs.adb_fields.JoinedPath.{joined_path}
use Rattle.path_claims.specs.declared.claim.Claim.{Claim}
use Rattle.path_claim_lists.proofs.PathOrder.{parted, place_seen}
use Rattle.path_claim_lists.proofs.claims.place_of.Goals as goal

pub returns-clause-place : goal.returns-clause-place
returns-clause-place c =
    place_seen c.args.claims.now (joined_path c.args.path.now) c.partition_point.result
    (IsPartitionPoint-from_clause (λ (e : Claim). is_lt (slice_cmp nat_cmp (joined_path e.path) (joined_path c.args.path.now))) _ _ c.partition_point.ensures.partitioned
    (parted c.args.claims.now (joined_path c.args.path.now) c.requires) (λ a r f k. search rules))
    c.partition_point.ensures.bound
