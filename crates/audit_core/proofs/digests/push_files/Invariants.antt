-- The lines of the files so far are added.
use Rattle.std.proofs.Common.{◌≡◌, ◌++◌, map, take}
use Rattle.std.specs.List.{flat_map}
use Rattle.path_clashes.specs.adb_fields.ListValue.{list_value}
use Rattle.path_clashes.specs.adb_fields.Repeated.{list_of}
use Rattle.adb_view.specs.Values.{entries_in}
use Rattle.audit_core.specs.Manifest.{manifest_line}
use Rattle.audit_core.specs.Records.{file_record}
use Rattle.audit_core.proofs.digests.push_files.Given as goal

abbrev pub invariant-loop-i : goal.invariant-loop-i
invariant-loop-i l =
    l.report.items
    ≡ l.fn.report.items ++ flat_map manifest_line (map (file_record l.folder) (take l.i (list_of (entries_in (list_value l.files)))))
