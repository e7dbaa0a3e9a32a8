use Rattle.std.specs.Prelude.{codes}
use Rattle.std.specs.Fmt.{decimal}
use Rattle.package_changes.proofs.ReportLines.{five}
use Rattle.package_changes.proofs.report.push_sum.Goals as goal

pub returns : goal.returns
returns c =
    five _ _ _ _ _ _ (codes "OK: ") (decimal c.args.bytes) (codes " bytes in ") (decimal c.args.count) (codes " packages")
    c.in_ok-push.ensures.ok c.in_ok-number.ensures.ok c.in_ok-push-2.ensures.ok c.in_ok-number-2.ensures.ok c.in_ok-push-3.ensures.ok
