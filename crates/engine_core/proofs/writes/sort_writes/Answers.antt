use Rattle.std.proofs.Common.{ap, rules}
use Rattle.std.specs.Ordering.{is_lt, on}
use Rattle.std.proofs.lemmas.Cmp.{nat_list_cmp_total, on_total}
use Rattle.std.proofs.lemmas.List.Sorted.{ranks_by, answers_always}
use Rattle.base_core.specs.ByteOrder.{bytes_cmp}
use Rattle.base_core.proofs.Sorting.{sort_is}
use Rattle.engine_core.specs.Writing.{name_of_write}
use Rattle.engine_core.proofs.writes.sort_writes.Goals as goal

pub returns : goal.returns
returns c =
    let ranks = ranks_by nat_list_cmp_total name_of_write in
    sort_is (on name_of_write bytes_cmp) (on_total name_of_write nat_list_cmp_total) _ _
    (c.in_ok-sort_by.ensures.sorted _ ranks (answers_always _ _ _ (λ f a r q k. ap is_lt (search rules))))
    (c.in_ok-sort_by.ensures.stable _ ranks (answers_always _ _ _ (λ f a r q k. ap is_lt (search rules))))
