use Rattle.std.proofs.Common.{◌∙◌, ◌+◌, ◌∷◌, List, ℕ, drop, map, ap, sym, arith}
use Rattle.std.specs.Prelude.{if◌then◌else◌}
use Rattle.change_outcome.specs.ConfigurationLines.{PathWithReportLine, apk_new_file_line, kept_config_line, path_with_line_by}
use Rattle.change_report.proofs.Loops.{all_told, made_from, made_none, pushed}
use Rattle.change_report.specs.Notices.{notice_seen}
use Rattle.change_report.proofs.configuration.push_notices.Goals as goal

pub returns : goal.returns
returns c =
    all_told _ _ _ (made_none (path_with_line_by (if c.args.is_kept then kept_config_line else apk_new_file_line)) c.args.paths.now c.loop-i.i (omega (arith, c.len-i-end.ensures, c.loop-i-test.false))) c.loop-i.invariant

pub loop-i-preserved : goal.loop-i-preserved
loop-i-preserved c =
    let line : List ℕ → PathWithReportLine = path_with_line_by (if c.args.is_kept then kept_config_line else apk_new_file_line) in
    pushed notice_seen c.loop-i.notices.items _ _ _ (drop (c.loop-i.i + 1) (map line c.args.paths.now)) _
    c.in_ok-push.ensures.items
    (made_from line c.args.paths.now c.loop-i.i c.get.result.now c.get.ensures
    ∙ ap (λ z. line z ∷ drop (c.loop-i.i + 1) (map line c.args.paths.now)) (sym c.as_bytes-path.ensures.value))
    c.loop-i.invariant
