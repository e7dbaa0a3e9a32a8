use Rattle.std.proofs.Common.{◌+◌, ◌++◌}
use Rattle.std.specs.Prelude.{codes}
use Rattle.std.specs.Fmt.{decimal}
use Rattle.base_core.proofs.Texts.{joined}
use Rattle.package_changes.specs.Seen.{change_seen}
use Rattle.report_core.specs.Reports.{change_text, numbered_change}
use Rattle.package_changes.proofs.report.push_change_line.Goals as goal

pub returns : goal.returns
returns c =
    joined _ _ _ (numbered_change (c.args.before + 1) c.args.count (change_seen c.args.change.now)) (codes "\n")
    (joined _ _ _ (codes "(" ++ decimal (c.args.before + 1) ++ codes "/" ++ decimal c.args.count ++ codes ") ") (change_text (change_seen c.args.change.now)) c.in_ok-push_number.ensures c.in_ok-push_change_text.ensures)
    c.in_ok-push.ensures.ok
