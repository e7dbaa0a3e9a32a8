use Rattle.outcome.specs.Demo.{IsDemoOutcomeAfterPackagingByPackageCount}
use Rattle.apk_front.specs.DemoRuns.{IsRunToOutcome}
use Rattle.apk_front.proofs.demo.package_all.Given as goal

-- the packages so far are made
abbrev pub invariant-loop-i : goal.invariant-loop-i
invariant-loop-i l = IsRunToOutcome (IsDemoOutcomeAfterPackagingByPackageCount l.i) l.last l.tree
