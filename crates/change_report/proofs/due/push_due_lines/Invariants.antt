-- The lines of the folders that are left are still to come.
use Rattle.std.proofs.Common.{◌≡◌, ◌++◌, drop, map}
use Rattle.change_outcome.specs.adb_schema.Views.{package_value}
use Rattle.change_outcome.specs.Triggers.{due_trigger_lines_for_folders}
use Rattle.change_report.proofs.due.push_due_lines.Given as goal

abbrev pub invariant-loop-folder : goal.invariant-loop-folder
invariant-loop-folder l =
    l.report ++ due_trigger_lines_for_folders (drop l.folder-index (map (λ f. f.now) l.folders)) (package_value l.pkg)
    ≡ l.initial.report ++ due_trigger_lines_for_folders (map (λ f. f.now) l.folders) (package_value l.pkg)
