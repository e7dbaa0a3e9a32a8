use Rattle.std.proofs.Common.{◌≡◌, ◌++◌}
use Rattle.outcome.specs.DemoLines.{demo_package_paths}
use Rattle.outcome.proofs.demo.lines.push_packages.Given as goal

-- the packages so far
abbrev pub invariant-loop-i : goal.invariant-loop-i
invariant-loop-i l = l.words ≡ l.fn.words ++ demo_package_paths l.i
