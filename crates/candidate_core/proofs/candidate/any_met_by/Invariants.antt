use Rattle.std.proofs.Common.{◌≡◌, false, take}
use Rattle.std.specs.Prelude.{not, ◌&&◌}
use Rattle.std.specs.List.{list_any}
use Rattle.dep_core.specs.Dependency.{Dependency}
use Rattle.candidate_core.specs.Candidates.{meets_dependency}
use Rattle.candidate_core.proofs.candidate.any_met_by.Given as goal

abbrev pub invariant-loop-i : goal.invariant-loop-i
invariant-loop-i l = list_any (λ (d : Dependency). not d.conflict && meets_dependency d l.candidate) (take l.i l.deps) ≡ false
