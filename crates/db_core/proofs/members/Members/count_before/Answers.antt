use Rattle.std.proofs.Common.{rules, subst, sym, List}
use Rattle.base_core.specs.Listed.{AreSortedDistinctTexts}
use Rattle.std.proofs.lemmas.List.Sorted.{IsPartitionPoint-from_clause}
use Rattle.std.specs.List.Sorted.{IsPartitionPoint}
use Rattle.std.specs.Prelude.{◌≡◌, true, false}
use Rattle.base_core.specs.ByteOrder.{precedes}
use Rattle.db_core.proofs.MemberPlaces.{kept_name, kept_parted}
use Rattle.db_core.proofs.Ordered.{Kept, kept_names}
use Rattle.db_core.proofs.members.Members.count_before.Goals as goal

pub returns-clause-point : goal.returns-clause-point
returns-clause-point c =
    let q : List _ = c.args.name.now in
    subst (λ (es : List Kept). IsPartitionPoint (λ e. precedes (kept_name e) q ≡ true) (λ e. precedes (kept_name e) q ≡ false) es c.partition_point.result) c.deref.ensures.value
    (IsPartitionPoint-from_clause (λ (e : Kept). precedes (kept_name e) q) _ _ c.partition_point.ensures.partitioned
    (kept_parted c.deref.result.now q (subst (λ (es : List Kept). AreSortedDistinctTexts (kept_names es)) (sym c.deref.ensures.value) c.args.self.now.in_order))
    (λ a r f k. search rules))
