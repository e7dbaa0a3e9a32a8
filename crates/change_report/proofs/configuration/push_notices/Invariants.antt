-- The notices of the paths that are left are still to come.
use Rattle.std.proofs.Common.{◌≡◌, ◌++◌, drop, map}
use Rattle.std.specs.Prelude.{if◌then◌else◌}
use Rattle.change_outcome.specs.ConfigurationLines.{apk_new_file_line, kept_config_line, path_with_line_by}
use Rattle.change_report.specs.Notices.{notice_seen}
use Rattle.change_report.proofs.configuration.push_notices.Given as goal

abbrev pub invariant-loop-i : goal.invariant-loop-i
invariant-loop-i l =
    map notice_seen l.notices.items ++ drop l.i (map (path_with_line_by (if l.is_kept then kept_config_line else apk_new_file_line)) l.paths)
    ≡ map notice_seen l.initial.notices.items ++ map (path_with_line_by (if l.is_kept then kept_config_line else apk_new_file_line)) l.paths
