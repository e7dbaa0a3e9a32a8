use Rattle.std.specs.Prelude.{codes}
use Rattle.base_core.proofs.Texts.{joined}
use Rattle.package_changes.proofs.ReportLines.{six}
use Rattle.package_changes.proofs.report.push_versions.Goals as goal

pub returns : goal.returns
returns c =
    joined _ _ _ c.args.word.now _ c.in_ok-push.ensures.ok
    (six _ _ _ _ _ _ _ c.args.name.now (codes " (") c.args.old.now (codes " -> ") c.args.new.now (codes ")")
    c.in_ok-push-2.ensures.ok c.in_ok-push-3.ensures.ok c.in_ok-push-4.ensures.ok c.in_ok-push-5.ensures.ok c.in_ok-push-6.ensures.ok c.in_ok-push-7.ensures.ok)
