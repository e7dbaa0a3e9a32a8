use Rattle.std.proofs.Common.{◌≡◌, ◌∙◌, ap, sym, arith}
use Rattle.std.specs.Prelude.{Some, slice_get}
use Rattle.pool_core.proofs.candidate_core.Steps.{get_at}
use Rattle.pool_core.specs.option_ranks.Ranking.{Ranking}
use Rattle.query_core.proofs.Appended.{so_far_all, so_far_more, so_far_nothing}
use Rattle.query_core.proofs.LineParts.{lines_left, lines_of, nothing_left}
use Rattle.query_core.proofs.candidates.put_lines.Goals as goal

pub loop-i-init : goal.loop-i-init
loop-i-init g c = so_far_nothing (g.O.ReportOut.holds) _ _

pub loop-i-preserved : goal.loop-i-preserved
loop-i-preserved g c =
    let r : Ranking = c.index-rankings-i.result in
    let at : slice_get c.args.rankings.now c.loop-i.i ≡ Some r = get_at c.args.rankings.now c.loop-i.i r (omega arith) ∙ ap Some (sym c.index-rankings-i.is) in
    let there : slice_get c.args.pool.now.candidates r.place ≡ Some c.details.result = ap (λ (q : Ranking). slice_get c.args.pool.now.candidates q.place) (sym c.ranking.view_is) ∙ c.details.ensures in
    so_far_more (g.O.ReportOut.holds) _ _ _ _ _ _ _ (lines_left c.args.form c.args.pool.now.candidates c.args.rankings.now c.loop-i.i r c.details.result at there) c.in_ok-put_line.ensures c.loop-i.invariant

pub returns : goal.returns
returns g c = so_far_all (g.O.ReportOut.holds) _ _ _ _ (ap (lines_of c.args.form c.args.pool.now.candidates) (nothing_left c.args.rankings.now c.loop-i.i (omega arith))) c.loop-i.invariant
