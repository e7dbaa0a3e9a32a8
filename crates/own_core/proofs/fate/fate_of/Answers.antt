use Rattle.std.proofs.Common.{◌∙◌, sym}
use Rattle.path_claim_lists.specs.path_claims.Seen.{claim_seen}
use Rattle.own_core.specs.Sides.{file_change_of}
use Rattle.own_core.proofs.OneFile.{unguarded_fate}
use Rattle.own_core.proofs.fate.fate_of.Goals as goal

pub returns-clause-fate : goal.returns-clause-fate
returns-clause-fate g c = unguarded_fate (file_change_of c.args.change.now) _ (claim_seen c.args.claim.now) (sym c.is_protected_path.ensures ∙ c.if-is_protected_path.false)
