use Rattle.std.proofs.Common.{◌∙◌, ◌+◌, length, arith, drop, ap}
use Rattle.std.proofs.lemmas.List.{drop_all}
use Rattle.solve_core.specs.candidate_core.Rank.{candidate_at}
use Rattle.package_changes.specs.Placed.{candidates_at}
use Rattle.package_changes.proofs.Lists.{left_at}
use Rattle.package_changes.proofs.ReportLines.{counted}
use Rattle.package_changes.proofs.report.selected_count.Goals as goal

pub loop-i-preserved : goal.loop-i-preserved
loop-i-preserved c =
    let more = ap (λ z. length (candidates_at c.args.pool.now z)) (left_at c.args.trace.now c.loop-i.i c.get.result c.get.ensures)
    ∙ counted (candidate_at c.args.pool.now c.get.result) (candidates_at c.args.pool.now (drop (c.loop-i.i + 1) c.args.trace.now)) in
    record {
      total = omega (arith, more, c.count_at.ensures.value, c.loop-i.invariant.total);
      small = omega (arith, c.count_at.ensures.one, c.loop-i.invariant.small);
    }

pub returns : goal.returns
returns c =
    let none = ap (λ z. length (candidates_at c.args.pool.now z)) (drop_all c.loop-i.i c.args.trace.now (omega (arith, c.len-i-end.ensures, c.loop-i-test.false, c.loop-i.auto.i-end))) in
    omega (arith, none, c.loop-i.invariant.total)
