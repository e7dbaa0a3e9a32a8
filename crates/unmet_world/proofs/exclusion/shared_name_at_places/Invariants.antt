-- None so far has a name that both occupy.
use Rattle.std.proofs.Common.{◌≡◌, take}
use Rattle.std.specs.Prelude.{None}
use Rattle.std.specs.List.{find}
use Rattle.unmet_world.specs.Exclusion.{both_occupy}
use Rattle.unmet_world.proofs.exclusion.shared_name_at_places.Given as goal

abbrev pub invariant-loop-i : goal.invariant-loop-i
invariant-loop-i l = find (both_occupy l.other) (take l.i l.provides) ≡ None
