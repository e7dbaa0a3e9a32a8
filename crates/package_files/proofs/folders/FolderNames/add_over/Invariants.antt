use Rattle.std.proofs.Common.{◌≡◌, take}
use Rattle.package_files.specs.Folders.{sorted_folders_with_names_inserted, prefixes_before_slashes}
use Rattle.package_files.proofs.folders.FolderNames.add_over.Given as goal

abbrev pub invariant-loop-i : goal.invariant-loop-i
invariant-loop-i l = l.self ≡ sorted_folders_with_names_inserted l.initial.self (prefixes_before_slashes (take l.i l.path))
