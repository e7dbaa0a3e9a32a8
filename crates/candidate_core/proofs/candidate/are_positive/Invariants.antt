use Rattle.std.proofs.Common.{◌≡◌, true, take}
use Rattle.std.specs.Prelude.{not}
use Rattle.std.specs.List.{list_all}
use Rattle.dep_core.specs.Dependency.{Dependency}
use Rattle.candidate_core.proofs.candidate.are_positive.Given as goal

abbrev pub invariant-loop-i : goal.invariant-loop-i
invariant-loop-i l = list_all (λ (d : Dependency). not d.conflict) (take l.i l.deps) ≡ true
