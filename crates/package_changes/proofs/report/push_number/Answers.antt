use Rattle.std.specs.Prelude.{codes}
use Rattle.std.specs.Fmt.{decimal}
use Rattle.package_changes.proofs.ReportLines.{five}
use Rattle.package_changes.proofs.report.push_number.Goals as goal

pub returns : goal.returns
returns c =
    five _ _ _ _ _ _ (codes "(") (decimal c.args.number) (codes "/") (decimal c.args.count) (codes ") ")
    c.in_ok-push.ensures.ok c.in_ok-number.ensures.ok c.in_ok-push-2.ensures.ok c.in_ok-number-2.ensures.ok c.in_ok-push-3.ensures.ok
