-- What `list` prints (apk(8)). The rule is in `docs/commands.md`, "`list`".
use Rattle.std.specs.Prelude.{ℕ, ◌==◌, Bool, not, ◌&&◌, ◌||◌, List, length}
use Rattle.std.specs.List.{flat_map, list_any}
use Rattle.adb_view.specs.FieldIndexes.{INFO_ARCH_INDEX, INFO_LICENSE_INDEX, INFO_ORIGIN_INDEX}
use Rattle.adb_view.specs.Values.{entry_at_index, text_in}
use Rattle.pool_core.specs.candidate_core.Candidates.{Candidate}
use Rattle.command_core.specs.declared.operands.Operand.{Operand}
use Rattle.report_core.specs.QueryReports.{list_line}
use Rattle.star_patterns.specs.Patterns.{is_whole_text_matched}
use Rattle.query_core.specs.Order.{printed_version, sorted_candidates_passing}

-- whether one of the patterns matches the whole name
abbrev pub is_whole_name_matched_by_some_pattern : List Operand → List ℕ → Bool
is_whole_name_matched_by_some_pattern patterns name =
    list_any (λ (o : Operand). is_whole_text_matched o.text name) patterns

-- whether `list` prints a candidate: a pattern matches its name, or no pattern is given; and it is installed, or
-- `installed_only` is false
abbrev pub is_list_candidate : List Operand → Bool → Candidate → Bool
is_list_candidate patterns installed_only c =
    (length patterns == 0 || is_whole_name_matched_by_some_pattern patterns c.name)
    && (not installed_only || c.installed)

-- the line that `list` prints of a candidate
abbrev pub list_line_of_candidate : Candidate → List ℕ
list_line_of_candidate c =
    list_line c.name (printed_version c.version) (text_in (entry_at_index c.info INFO_ARCH_INDEX))
    (text_in (entry_at_index c.info INFO_ORIGIN_INDEX))
    (text_in (entry_at_index c.info INFO_LICENSE_INDEX)) c.installed

-- what `list` prints: the lines of those candidates that the patterns and `installed_only` admit, in the order of
-- queries
abbrev pub list_report : List Candidate → List Operand → Bool → List ℕ
list_report candidates patterns installed_only =
    flat_map list_line_of_candidate
    (sorted_candidates_passing (is_list_candidate patterns installed_only) candidates)
