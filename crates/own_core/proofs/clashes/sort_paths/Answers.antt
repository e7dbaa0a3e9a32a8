use Rattle.std.proofs.Common.{ap, rules}
use Rattle.std.specs.Ordering.{is_lt}
use Rattle.std.proofs.lemmas.List.Sorted.{ranks_by, answers_always}
use Rattle.path_claim_lists.specs.adb_fields.JoinedPath.{joined_path}
use Rattle.base_core.specs.ByteOrder.{bytes_cmp}
use Rattle.base_core.proofs.Sorting.{sort_seen}
use Rattle.base_core.proofs.Orderings.{names_total}
use Rattle.own_core.proofs.clashes.sort_paths.Goals as goal

pub returns : goal.returns
returns c =
    let ranks = ranks_by names_total joined_path in
    sort_seen joined_path bytes_cmp names_total _ _
    (c.in_ok-sort_by.ensures.sorted _ ranks (answers_always _ _ _ (λ f a r q k. ap is_lt (search rules))))
    (c.in_ok-sort_by.ensures.stable _ ranks (answers_always _ _ _ (λ f a r q k. ap is_lt (search rules))))
