-- The lines of the packages that are left are still to come.
use Rattle.std.proofs.Common.{◌≡◌, ◌++◌, drop, map}
use Rattle.std.specs.List.{flat_map}
use Rattle.change_outcome.specs.db_core.Members.{Member}
use Rattle.change_outcome.specs.db_core.Seen.{members_of}
use Rattle.change_outcome.specs.Triggers.{due_trigger_lines_for_folders}
use Rattle.change_report.proofs.due.push_trigger_lines.Given as goal

abbrev pub invariant-loop-i : goal.invariant-loop-i
invariant-loop-i l =
    l.report ++ flat_map (λ (m : Member). due_trigger_lines_for_folders (map (λ f. f.now) l.folders) m.pkg) (drop l.i (members_of l.members))
    ≡ l.initial.report ++ flat_map (λ (m : Member). due_trigger_lines_for_folders (map (λ f. f.now) l.folders) m.pkg) (members_of l.members)
