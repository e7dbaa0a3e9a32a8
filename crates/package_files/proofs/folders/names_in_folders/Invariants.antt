use Rattle.std.proofs.Common.{◌≡◌, take, map}
use Rattle.package_files.specs.Folders.{tree_names_in_package_folder}
use Rattle.package_files.specs.BorrowedNames.{names_borrowed}
use Rattle.package_files.proofs.folders.names_in_folders.Given as goal

abbrev pub invariant-loop-i : goal.invariant-loop-i
invariant-loop-i l = map names_borrowed l.files.items ≡ map (tree_names_in_package_folder l.dir (take l.i l.names)) l.folders
