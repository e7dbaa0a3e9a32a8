use Rattle.std.proofs.Common.{List, map, subst, sym}
use Rattle.path_claim_lists.specs.path_claims.Seen.{claim_seen}
use Rattle.path_claim_lists.specs.path_claims.declared.claim.Claim.{Claim}
use Rattle.own_core.specs.WritesSeen.{CanHaveApkNewNames}
use Rattle.own_core.proofs.planning.lists_of.Goals as goal

pub writes_of-requires-clause-asides : goal.writes_of-requires-clause-asides
writes_of-requires-clause-asides c = subst (λ (xs : List Claim). CanHaveApkNewNames (map claim_seen xs)) (sym c.deref-5.ensures.value) c.requires.asides
