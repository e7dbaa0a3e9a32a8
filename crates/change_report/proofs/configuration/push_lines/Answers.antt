use Rattle.std.proofs.Common.{◌+◌, drop, map, ap}
use Rattle.std.specs.List.{flat_map}
use Rattle.change_outcome.specs.ConfigurationLines.{PathWithReportLine}
use Rattle.change_report.proofs.Loops.{all_told, made_at, made_none, told}
use Rattle.change_report.specs.Notices.{notice_seen}
use Rattle.change_report.proofs.configuration.push_lines.Goals as goal

pub returns : goal.returns
returns c =
    all_told _ _ _ (ap (flat_map (λ (p : PathWithReportLine). p.line)) (made_none notice_seen c.args.notices.now c.loop-notice.notice-index c.loop-notice-test.false)) c.loop-notice.invariant

pub loop-notice-preserved : goal.loop-notice-preserved
loop-notice-preserved c =
    told _ _ _ _ (flat_map (λ (p : PathWithReportLine). p.line) (drop (c.loop-notice.notice-index + 1) (map notice_seen c.args.notices.now))) _ c.in_ok-push_line.ensures
    (ap (flat_map (λ (p : PathWithReportLine). p.line)) (made_at notice_seen c.args.notices.now c.loop-notice.notice-index _ c.loop-notice-test.true))
    c.loop-notice.invariant
