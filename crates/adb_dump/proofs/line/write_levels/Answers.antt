use Rattle.std.proofs.Common.{◌≡◌, ◌-◌, ap, arith}
use Rattle.adb_dump.specs.Margin.{margin}
use Rattle.adb_dump.proofs.Pieces.{margin_more, margin_over}
use Rattle.adb_dump.proofs.Puts.{any_so_far_all, any_so_far_more, any_so_far_none, any_so_far_told}
use Rattle.adb_dump.proofs.line.write_levels.Goals as goal

pub loop-level-init : goal.loop-level-init
loop-level-init g c =
    let none : c.args.levels ≡ c.args.levels - 0 = omega arith in
    any_so_far_told (g.O.Out.holds) _ _ (margin c.args.levels) (margin (c.args.levels - 0)) (margin c.args.levels) (ap margin none) (any_so_far_none (g.O.Out.holds) _ _)

pub loop-level-preserved : goal.loop-level-preserved
loop-level-preserved g c = any_so_far_more (g.O.Out.holds) _ _ _ _ _ _ _ (margin_more c.args.levels c.loop-level._level c.loop-level-test.true) c.in_ok-put.ensures c.loop-level.invariant

pub returns : goal.returns
returns g c = any_so_far_all (g.O.Out.holds) _ _ _ _ (margin_over c.args.levels c.loop-level._level c.loop-level-test.false) c.loop-level.invariant
