use Rattle.std.proofs.Common.{ap, rules}
use Rattle.std.specs.Ordering.{is_lt}
use Rattle.std.proofs.lemmas.List.Sorted.{ranks_by, answers_always}
use Rattle.base_core.proofs.Sorting.{sort_seen}
use Rattle.own_core.specs.WritesSeen.{write_cmp, write_seen}
use Rattle.own_core.proofs.WritesMeaning.{writes_total}
use Rattle.own_core.proofs.writes.sort_writes.Goals as goal

pub returns : goal.returns
returns c =
    let ranks = ranks_by writes_total write_seen in
    sort_seen write_seen write_cmp writes_total _ _
    (c.in_ok-sort_by.ensures.sorted _ ranks (answers_always _ _ _ (λ f a r q k. ap is_lt (search rules))))
    (c.in_ok-sort_by.ensures.stable _ ranks (answers_always _ _ _ (λ f a r q k. ap is_lt (search rules))))
