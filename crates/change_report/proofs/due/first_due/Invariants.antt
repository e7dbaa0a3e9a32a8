-- No trigger so far is due: the rest decides.
use Rattle.std.proofs.Common.{◌≡◌, ℕ, List, false, drop, map}
use Rattle.change_outcome.specs.db_core.Seen.{members_of}
use Rattle.change_outcome.specs.Triggers.{folders_of_paths, unless_trigger_due}
use Rattle.change_report.proofs.due.first_due.Given as goal

abbrev pub invariant-loop-i : goal.invariant-loop-i
invariant-loop-i l =
    (paths : List (List ℕ)) → map (λ f. f.now) l.folders ≡ folders_of_paths paths
    → unless_trigger_due false paths (drop l.i (members_of l.members)) ≡ unless_trigger_due false paths (members_of l.members)
