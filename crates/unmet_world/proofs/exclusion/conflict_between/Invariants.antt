-- None so far is a conflict that the candidate meets.
use Rattle.std.proofs.Common.{◌≡◌, take}
use Rattle.std.specs.Prelude.{None}
use Rattle.std.specs.List.{find}
use Rattle.unmet_world.specs.Exclusion.{is_conflict_met_by}
use Rattle.unmet_world.proofs.exclusion.conflict_between.Given as goal

abbrev pub invariant-loop-i : goal.invariant-loop-i
invariant-loop-i l = find (is_conflict_met_by l.other) (take l.i l.depends) ≡ None
