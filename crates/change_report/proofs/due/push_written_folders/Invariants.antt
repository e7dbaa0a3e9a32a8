-- The folders of the writes that are left are still to come.
use Rattle.std.proofs.Common.{◌≡◌, ◌++◌, drop, map}
use Rattle.package_files.specs.Folders.{folder_of}
use Rattle.own_core.specs.PlanLists.{FileWrite}
use Rattle.own_core.specs.WritesSeen.{writes_in}
use Rattle.change_report.proofs.due.push_written_folders.Given as goal

abbrev pub invariant-loop-i : goal.invariant-loop-i
invariant-loop-i l =
    map (λ f. f.now) l.folders.items ++ drop l.i (map folder_of (map (λ (w : FileWrite). w.name) (writes_in l.writes)))
    ≡ map (λ f. f.now) l.initial.folders.items ++ map folder_of (map (λ (w : FileWrite). w.name) (writes_in l.writes))
