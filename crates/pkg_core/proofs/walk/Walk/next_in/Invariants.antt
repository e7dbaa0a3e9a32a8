-- Of the folder's files that are left, those that have contents are the same.
use Rattle.std.proofs.Common.{◌≡◌, ◌+◌, ◌-◌, drop}
use Rattle.adb_view.specs.Values.{entries_in, count_of}
use Rattle.adb_schema.specs.adb_fields.ListValue.{list_value}
use Rattle.adb_schema.specs.adb_fields.Repeated.{list_of}
use Rattle.pkg_core.specs.Contents.{expected_files_of_folder}
use Rattle.pkg_core.proofs.walk.Walk.next_in.Given as goal

abbrev pub invariant-loop-self : goal.invariant-loop-self
invariant-loop-self l =
    (l.self.folders ≡ l.initial.self.folders)
    × (l.self.folder ≡ l.initial.self.folder)
    × (expected_files_of_folder (l.initial.self.folder + 1) (l.self.file + 1) (drop l.self.file (list_of (entries_in (list_value l.files))))
    ≡ expected_files_of_folder (l.initial.self.folder + 1) (l.initial.self.file + 1) (drop l.initial.self.file (list_of (entries_in (list_value l.files)))))

abbrev pub decreases-loop-self : goal.decreases-loop-self
decreases-loop-self l = count_of (entries_in (list_value l.files)) - l.self.file
