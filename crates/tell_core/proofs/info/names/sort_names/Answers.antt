use Rattle.std.proofs.Common.{ap, rules, List, ℕ, Bor}
use Rattle.std.specs.Ordering.{is_lt}
use Rattle.std.proofs.lemmas.Cmp.{nat_list_cmp_total}
use Rattle.std.proofs.lemmas.List.Sorted.{ranks_by, answers_always}
use Rattle.base_core.specs.ByteOrder.{bytes_cmp}
use Rattle.base_core.proofs.Sorting.{sort_seen}
use Rattle.tell_core.proofs.info.names.sort_names.Goals as goal

pub returns : goal.returns
returns c =
    let ranks = ranks_by nat_list_cmp_total (λ (n : Bor (List ℕ)). n.now) in
    sort_seen (λ (n : Bor (List ℕ)). n.now) bytes_cmp nat_list_cmp_total _ _
    (c.in_ok-sort_by.ensures.sorted _ ranks (answers_always _ _ _ (λ f a r q k. ap is_lt (search rules))))
    (c.in_ok-sort_by.ensures.stable _ ranks (answers_always _ _ _ (λ f a r q k. ap is_lt (search rules))))
