use Rattle.std.proofs.Common.{ap, rules}
use Rattle.std.specs.Ordering.{is_lt}
use Rattle.std.proofs.lemmas.List.Sorted.{ranks_by, answers_always}
use Rattle.base_core.proofs.Sorting.{sort_seen}
use Rattle.path_claims.specs.Claims.{claim_cmp}
use Rattle.path_claims.specs.Seen.{claim_seen}
use Rattle.path_claims.proofs.ClaimOrder.{claims_total}
use Rattle.path_claims.proofs.claim.sort_claims.Goals as goal

pub returns : goal.returns
unfolding claim_cmp
returns c =
    let ranks = ranks_by claims_total claim_seen in
    sort_seen claim_seen claim_cmp claims_total _ _
    (c.in_ok-sort_by.ensures.sorted _ ranks (answers_always _ _ _ (λ f a r q k. ap is_lt (search rules))))
    (c.in_ok-sort_by.ensures.stable _ ranks (answers_always _ _ _ (λ f a r q k. ap is_lt (search rules))))
