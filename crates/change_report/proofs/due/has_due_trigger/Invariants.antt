-- The package watches no folder so far: the rest decides.
use Rattle.std.proofs.Common.{◌≡◌, drop, map}
use Rattle.std.specs.List.{list_any}
use Rattle.change_outcome.specs.adb_schema.Views.{package_value}
use Rattle.change_outcome.specs.Triggers.{is_trigger_due}
use Rattle.change_report.proofs.due.has_due_trigger.Given as goal

abbrev pub invariant-loop-folder : goal.invariant-loop-folder
invariant-loop-folder l =
    list_any (is_trigger_due (package_value l.pkg)) (drop l.folder-index (map (λ f. f.now) l.folders))
    ≡ list_any (is_trigger_due (package_value l.pkg)) (map (λ f. f.now) l.folders)
