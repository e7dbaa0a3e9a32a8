-- The folders of the removals that are left are still to come.
use Rattle.std.proofs.Common.{◌≡◌, ◌++◌, drop, map}
use Rattle.package_files.specs.Folders.{folder_of}
use Rattle.change_report.proofs.due.push_removed_folders.Given as goal

abbrev pub invariant-loop-i : goal.invariant-loop-i
invariant-loop-i l =
    map (λ f. f.now) l.folders.items ++ drop l.i (map folder_of l.removals)
    ≡ map (λ f. f.now) l.initial.folders.items ++ map folder_of l.removals
