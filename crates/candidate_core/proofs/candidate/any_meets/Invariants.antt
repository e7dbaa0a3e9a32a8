use Rattle.std.proofs.Common.{◌≡◌, false, take}
use Rattle.std.specs.List.{list_any}
use Rattle.dep_core.specs.Meets.{dependency}
use Rattle.candidate_core.specs.Candidates.{is_met_by_provides_entry}
use Rattle.candidate_core.proofs.candidate.any_meets.Given as goal

abbrev pub invariant-loop-i : goal.invariant-loop-i
invariant-loop-i l = list_any (is_met_by_provides_entry (dependency l.dep)) (take l.i l.provides) ≡ false
