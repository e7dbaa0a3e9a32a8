use Rattle.std.proofs.Common.{◌≡◌, refl, arith}
use Rattle.adb_copy.proofs.Periods.{equal_if}
use Rattle.adb_copy.proofs.overlaps.PeriodicRange.shows_equal.Goals as goal

pub returns-then-phase-other : goal.returns-then-phase-other
returns-then-phase-other c =
    let same : c.in-Some-Some.phase ≡ c.in-Some-Some.other = grind (arith, c.if-phase-other.true) in
    equal_if c.args.self c.args.left c.args.right c.in-Some-Some.phase c.in-Some-Some.other c.in-Some-Some.ensures c.in-Some-Some.ensures' same _ refl
