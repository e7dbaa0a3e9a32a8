use Rattle.std.proofs.Common.{sym, ◌∙◌}
use Rattle.path_claims.proofs.FirstContested.{no_rivals_here, rivals_here}
use Rattle.path_claims.proofs.owner.contested_from.Goals as goal

pub returns-in-Some : goal.returns-in-Some
returns-in-Some g c =
    rivals_here (g.C.Contest.beats c.args.contest.now) c.args.claims.now c.run_at.result.now c.args.i _ _ c.requires.at c.requires.sorted c.requires.first c.run_at.ensures (sym c.in-Some.is ∙ c.first_with_unbeaten_rival.ensures)

pub returns-in-None : goal.returns-in-None
returns-in-None g c =
    no_rivals_here (g.C.Contest.beats c.args.contest.now) c.args.claims.now c.run_at.result.now c.args.i c.requires.sorted c.requires.first c.run_at.ensures (sym c.in-None.is ∙ c.first_with_unbeaten_rival.ensures)
