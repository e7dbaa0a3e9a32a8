use Rattle.std.proofs.Common.{ap, ◌∙◌}
use Rattle.std.specs.Ordering.{is_eq}
use Rattle.path_claims.proofs.Places.{starts_by}
use Rattle.path_claims.proofs.claim.begins_path.Goals as goal

pub returns : goal.returns
returns c = starts_by c.args.claims.now c.args.i _ _ c.is_eq.result c.requires c.if-i-eq0.false (c.is_eq.ensures ∙ ap is_eq c.compare.ensures)
