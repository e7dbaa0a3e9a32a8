use Rattle.std.proofs.Common.{ap, rules}
use Rattle.std.specs.Ordering.{is_lt}
use Rattle.std.proofs.lemmas.List.Sorted.{ranks_by, answers_always}
use Rattle.make_core.specs.EntryOrder.{index_entry_cmp}
use Rattle.make_core.specs.Views.{entry_view}
use Rattle.make_core.proofs.IndexOrdering.{entry_cmp_total}
use Rattle.base_core.proofs.Sorting.{sort_seen}
use Rattle.make_core.proofs.indexes.index.sort_entries.Goals as goal

pub returns : goal.returns
returns c =
    let total = entry_cmp_total c.order_is_total.ensures in
    let ranks = ranks_by total entry_view in
    sort_seen entry_view index_entry_cmp total _ _
    (c.in_ok-sort_by.ensures.sorted _ ranks (answers_always _ _ _ (λ f a r q k. ap is_lt (search rules))))
    (c.in_ok-sort_by.ensures.stable _ ranks (answers_always _ _ _ (λ f a r q k. ap is_lt (search rules))))
