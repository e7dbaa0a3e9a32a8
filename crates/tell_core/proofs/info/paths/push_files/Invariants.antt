-- What is left of the paths is still to be added.
use Rattle.std.proofs.Common.{◌≡◌, ◌++◌, map, drop}
use Rattle.candidate_core.specs.adb_fields.ListValue.{list_value}
use Rattle.candidate_core.specs.adb_fields.Paths.{path_of}
use Rattle.candidate_core.specs.adb_fields.Repeated.{list_of, name_of}
use Rattle.adb_view.specs.Values.{entries_in}
use Rattle.report_core.specs.Reports.{report_lines}
use Rattle.tell_core.proofs.info.paths.push_files.Given as goal

abbrev pub invariant-loop-i : goal.invariant-loop-i
invariant-loop-i l =
    l.report.items ++ report_lines (map (λ file. path_of l.folder (name_of file)) (drop l.i (list_of (entries_in (list_value l.files)))))
    ≡ l.fn.report.items ++ report_lines (map (λ file. path_of l.folder (name_of file)) (list_of (entries_in (list_value l.files))))
