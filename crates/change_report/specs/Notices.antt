-- A notice of the program as a line on a modified configuration file. Serves the contracts of `src/configuration.rt`;
-- the lines are defined in `docs/commands.md`, "`add` and `del`", part "What is reported".
use Rattle.std.specs.Prelude.{if◌then◌else◌}
use Rattle.change_outcome.specs.ConfigurationLines.{PathWithReportLine, apk_new_file_line, kept_config_line}
use Rattle.change_report.specs.declared.configuration.Notice.{Notice}

-- a path and its line, which says that the modified file is kept, or that a new file is written beside it
abbrev pub notice_seen : Notice → PathWithReportLine
notice_seen n = record {
  path = n.path.now;
  line = (if n.is_kept then kept_config_line else apk_new_file_line) n.path.now;
}
