use Rattle.path_claims.proofs.Places.{run_from}
use Rattle.path_claims.proofs.claim.run_at.Goals as goal

pub returns : goal.returns
returns c = run_from c.args.claims.now c.args.from _ _ c.requires c.run_in_front.ensures
