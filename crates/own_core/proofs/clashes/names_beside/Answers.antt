use Rattle.std.proofs.Common.{◌≤◌, ℕ, List, sym, subst, length}
use Rattle.own_core.specs.Fate.{apk_new_name}
use Rattle.path_claim_lists.specs.path_claims.Seen.{claim_seen}
use Rattle.path_claim_lists.proofs.path_claims.Places.{seen_at}
use Rattle.own_core.proofs.clashes.names_beside.Goals as goal

pub name_of_path-requires : goal.name_of_path-requires
name_of_path-requires c =
    (c.requires c.loop-claim.claim-index _ (seen_at claim_seen c.args.asides.now c.loop-claim.claim-index _ c.loop-claim-test.true)).name

pub name_beside-requires : goal.name_beside-requires
name_beside-requires c =
    subst (λ (n : List ℕ). length (apk_new_name n) ≤ 1024) (sym c.in_ok-name.ensures)
    (c.requires c.loop-claim.claim-index _ (seen_at claim_seen c.args.asides.now c.loop-claim.claim-index _ c.loop-claim-test.true)).short
