-- The first of those that are left is found where no earlier one has the name.
use Rattle.std.proofs.Common.{◌≡◌, List, ℕ, drop}
use Rattle.std.specs.List.{find}
use Rattle.solve_core.specs.candidate_core.Rank.{candidate_at_passes}
use Rattle.package_changes.specs.Changes.{is_candidate_named}
use Rattle.package_changes.specs.SelectedNames.{place_paired_with_name}
use Rattle.std.specs.Option.{option_or}
use Rattle.package_changes.proofs.selected.SelectedNames.of.Given as goal

abbrev pub invariant-loop-i : goal.invariant-loop-i
invariant-loop-i l =
    (name : List ℕ) → option_or (place_paired_with_name name l.names) (find (candidate_at_passes l.pool (is_candidate_named name)) (drop l.i l.trace)) ≡ find (candidate_at_passes l.pool (is_candidate_named name)) l.trace
