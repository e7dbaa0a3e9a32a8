use Rattle.std.proofs.Common.{◌≡◌, take, map}
use Rattle.package_files.specs.Folders.{path_relative_to, all_folders_above}
use Rattle.package_files.proofs.folders.all_folders_above.Given as goal

abbrev pub invariant-loop-i : goal.invariant-loop-i
invariant-loop-i l = l.folders ≡ all_folders_above (map (path_relative_to l.dir) (take l.i l.names))
