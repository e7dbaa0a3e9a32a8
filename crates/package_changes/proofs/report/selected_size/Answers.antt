use Rattle.std.proofs.Common.{◌∙◌, ◌+◌, arith, drop, ap, refl, sym}
use Rattle.std.specs.Prelude.{fold}
use Rattle.std.proofs.lemmas.List.{drop_all}
use Rattle.solve_core.specs.candidate_core.Rank.{candidate_at}
use Rattle.package_changes.specs.Placed.{candidates_at}
use Rattle.package_changes.specs.Report.{candidate_installed_size}
use Rattle.package_changes.proofs.Lists.{left_at}
use Rattle.package_changes.proofs.ReportLines.{summed}
use Rattle.package_changes.proofs.report.selected_size.Goals as goal

pub loop-i-init : goal.loop-i-init
loop-i-init c = record { total = refl; small = omega arith }

pub loop-i-preserved : goal.loop-i-preserved
loop-i-preserved c = record {
  total =
      ap (λ n. fold (λ a k. a + candidate_installed_size k) (c.loop-i.sum + n) (candidates_at c.args.pool.now (drop (c.loop-i.i + 1) c.args.trace.now))) c.size_at.ensures
      ∙ (sym (summed candidate_installed_size c.loop-i.sum (candidate_at c.args.pool.now c.get.result) (candidates_at c.args.pool.now (drop (c.loop-i.i + 1) c.args.trace.now)))
      ∙ (ap (λ z. fold (λ a k. a + candidate_installed_size k) c.loop-i.sum (candidates_at c.args.pool.now z)) (sym (left_at c.args.trace.now c.loop-i.i c.get.result c.get.ensures))
      ∙ c.loop-i.invariant.total));
  small = omega arith;
}

pub returns : goal.returns
returns c =
    ap (λ z. fold (λ a k. a + candidate_installed_size k) c.loop-i.sum (candidates_at c.args.pool.now z)) (sym (drop_all c.loop-i.i c.args.trace.now (omega (arith, c.len-i-end.ensures, c.loop-i-test.false, c.loop-i.auto.i-end))))
    ∙ c.loop-i.invariant.total
