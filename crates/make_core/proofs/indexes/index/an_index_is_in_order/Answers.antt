use Rattle.std.proofs.Common.{◌≡◌, suc, ◌+◌, false, arith, subst, get_or}
use Rattle.std.specs.Ordering.{is_lt}
use Rattle.make_core.specs.EntryOrder.{index_entry_cmp}
use Rattle.base_core.specs.Sorted.{sorted_by}
use Rattle.make_core.proofs.IndexOrdering.{entry_cmp_total}
use Rattle.base_core.proofs.Sorting.{adjacent, ranks, rises_in_order, sorted_same, stable_in_order}
use Rattle.make_core.proofs.indexes.index.an_index_is_in_order.Goals as goal

pub returns-clause-same : goal.returns-clause-same
returns-clause-same c = sorted_same index_entry_cmp

pub returns-clause-sorted : goal.returns-clause-sorted
returns-clause-sorted c =
    let o = entry_cmp_total c.order_is_total.ensures in
    λ entries k d low l.
    let e : suc k ≡ k + 1 = omega arith in
    subst (λ m. is_lt (index_entry_cmp (get_or (sorted_by index_entry_cmp entries) m d) (get_or (sorted_by index_entry_cmp entries) k d)) ≡ false) e
    (adjacent (λ x y. is_lt (index_entry_cmp x y)) (ranks index_entry_cmp o) (sorted_by index_entry_cmp entries) (rises_in_order index_entry_cmp o entries) k d (omega arith))

pub returns-clause-stable : goal.returns-clause-stable
returns-clause-stable c =
    let o = entry_cmp_total c.order_is_total.ensures in
    λ entries z. stable_in_order index_entry_cmp o z entries
