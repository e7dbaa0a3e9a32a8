-- Claims are ordered by their paths.
use Rattle.std.specs.Cmp.{IsTotalOrder}
use Rattle.std.proofs.lemmas.Cmp.{on_total, nat_list_cmp_total}
use Rattle.path_claims.specs.Claims.{claim_cmp}

pub claims_total : IsTotalOrder claim_cmp
unfolding claim_cmp
claims_total = on_total (λ c. c.path) nat_list_cmp_total
