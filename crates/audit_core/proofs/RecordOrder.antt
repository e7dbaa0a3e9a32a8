-- Records are ordered by their paths.
use Rattle.std.specs.Cmp.{IsTotalOrder}
use Rattle.std.proofs.lemmas.Cmp.{on_total, nat_list_cmp_total}
use Rattle.audit_core.specs.Records.{record_path_cmp}

pub records_total : IsTotalOrder record_path_cmp
unfolding record_path_cmp
records_total = on_total (λ r. r.path) nat_list_cmp_total
