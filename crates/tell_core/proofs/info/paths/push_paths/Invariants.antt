-- What is left of the folders is still to be added.
use Rattle.std.proofs.Common.{◌≡◌, ◌++◌, drop}
use Rattle.std.specs.List.{flat_map}
use Rattle.candidate_core.specs.adb_fields.ListValue.{list_value}
use Rattle.candidate_core.specs.adb_fields.Repeated.{list_of, paths_of_folder_files}
use Rattle.adb_view.specs.Values.{entries_in}
use Rattle.report_core.specs.Reports.{report_lines}
use Rattle.tell_core.proofs.info.paths.push_paths.Given as goal

abbrev pub invariant-loop-i : goal.invariant-loop-i
invariant-loop-i l =
    l.report.items ++ report_lines (flat_map paths_of_folder_files (drop l.i (list_of (entries_in (list_value l.folders)))))
    ≡ l.fn.report.items ++ report_lines (flat_map paths_of_folder_files (list_of (entries_in (list_value l.folders))))
