use Rattle.std.specs.Prelude.{codes}
use Rattle.base_core.proofs.Texts.{joined}
use Rattle.package_changes.proofs.ReportLines.{four}
use Rattle.package_changes.proofs.report.push_version.Goals as goal

pub returns : goal.returns
returns c =
    joined _ _ _ c.args.word.now _ c.in_ok-push.ensures.ok
    (four _ _ _ _ _ c.args.name.now (codes " (") c.args.version.now (codes ")")
    c.in_ok-push-2.ensures.ok c.in_ok-push-3.ensures.ok c.in_ok-push-4.ensures.ok c.in_ok-push-5.ensures.ok)
