use Rattle.std.proofs.Common.{sym, ◌∙◌}
use Rattle.path_claims.proofs.Owned.{run_owner}
use Rattle.path_claims.proofs.owner.owner_at.Goals as goal

pub returns : goal.returns
returns g c =
    run_owner (g.C.Contest.beats c.args.contest.now) c.args.claims.now c.run_at.result.now c.args.i c.member_beating_all_others.result c.requires.sorted (sym c.if-not-begins_path.false ∙ c.begins_path.ensures)
    c.run_at.ensures c.member_beating_all_others.ensures
