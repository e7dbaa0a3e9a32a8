use Rattle.std.proofs.Common.{ap, rules}
use Rattle.std.specs.Ordering.{is_lt}
use Rattle.std.proofs.lemmas.List.Sorted.{ranks_by, answers_always}
use Rattle.base_core.proofs.Sorting.{sort_seen}
use Rattle.audit_core.specs.Records.{record_path_cmp}
use Rattle.audit_core.specs.Seen.{record_seen}
use Rattle.audit_core.proofs.RecordOrder.{records_total}
use Rattle.audit_core.proofs.records.sort_records.Goals as goal

pub returns : goal.returns
unfolding record_path_cmp
returns c =
    let ranks = ranks_by records_total record_seen in
    sort_seen record_seen record_path_cmp records_total _ _
    (c.in_ok-sort_by.ensures.sorted _ ranks (answers_always _ _ _ (λ f a r q k. ap is_lt (search rules))))
    (c.in_ok-sort_by.ensures.stable _ ranks (answers_always _ _ _ (λ f a r q k. ap is_lt (search rules))))
