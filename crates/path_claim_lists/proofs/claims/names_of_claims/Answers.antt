use Rattle.path_claims.specs.Seen.{claim_seen}
use Rattle.path_claims.proofs.Places.{seen_at}
use Rattle.path_claim_lists.proofs.claims.names_of_claims.Goals as goal

pub name_of_path-requires : goal.name_of_path-requires
name_of_path-requires c =
    c.requires c.loop-claim.claim-index _ (seen_at claim_seen c.args.claims.now c.loop-claim.claim-index _ c.loop-claim-test.true)
