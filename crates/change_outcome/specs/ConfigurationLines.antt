-- The report on configuration files that the user modified. The lines are defined in `docs/commands.md`, "`add` and
-- `del`", part "What is reported".
use Rattle.std.specs.Prelude.{ℕ, List, ◌++◌, map, codes}
use Rattle.std.specs.List.{flat_map}
use Rattle.std.specs.Ordering.{on}
use Rattle.std.specs.declared.cmp.Ordering.{Ordering}
use Rattle.package_changes.specs.own_core.Fate.{apk_new_name}
use Rattle.base_core.specs.ByteOrder.{bytes_cmp}
use Rattle.base_core.specs.Sorted.{sorted_by}
use Rattle.report_core.specs.Reports.{report_line}

-- the line that says that a package's new file is written as `PATH.apk-new`, beside the modified file at this path
abbrev pub apk_new_file_line : List ℕ → List ℕ
apk_new_file_line path =
    report_line (apk_new_name path ++ codes " installed; " ++ path ++ codes " was changed")

-- the line that says that the modified file at this path is kept although its package is removed
abbrev pub kept_config_line : List ℕ → List ℕ
kept_config_line path = report_line (path ++ codes " kept; it was changed")

-- a path, and the line about it
pub record PathWithReportLine : Type 0 where
  -- the path of the file
  pub path : List ℕ
  -- the line of the report about this file
  pub line : List ℕ

-- a path with the line that the function `line_of` makes of it
abbrev pub path_with_line_by : (List ℕ → List ℕ) → List ℕ → PathWithReportLine
path_with_line_by line_of path = record { path = path; line = line_of path }

-- the order of lines on configuration: the byte order of their paths
abbrev pub path_with_line_cmp_by_path : PathWithReportLine → PathWithReportLine → Ordering
path_with_line_cmp_by_path = on (λ l. l.path) bytes_cmp

-- the lines on configuration, in byte order of the paths: one for each path of `aside`, beside which a new file is
-- written, and one for each path of `kept`, at which the modified file is kept
unfoldable pub lines_of_apk_new_and_kept_paths : List (List ℕ) → List (List ℕ) → List ℕ
lines_of_apk_new_and_kept_paths aside kept = flat_map (λ l. l.line)
    (sorted_by path_with_line_cmp_by_path
    (map (path_with_line_by apk_new_file_line) aside ++ map (path_with_line_by kept_config_line) kept))
