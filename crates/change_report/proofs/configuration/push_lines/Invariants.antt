-- The lines of the notices that are left are still to come.
use Rattle.std.proofs.Common.{◌≡◌, ◌++◌, drop, map}
use Rattle.std.specs.List.{flat_map}
use Rattle.change_outcome.specs.ConfigurationLines.{PathWithReportLine}
use Rattle.change_report.specs.Notices.{notice_seen}
use Rattle.change_report.proofs.configuration.push_lines.Given as goal

abbrev pub invariant-loop-notice : goal.invariant-loop-notice
invariant-loop-notice l =
    l.report ++ flat_map (λ (p : PathWithReportLine). p.line) (drop l.notice-index (map notice_seen l.notices))
    ≡ l.initial.report ++ flat_map (λ (p : PathWithReportLine). p.line) (map notice_seen l.notices)
