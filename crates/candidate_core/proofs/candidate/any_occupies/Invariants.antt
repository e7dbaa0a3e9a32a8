use Rattle.std.proofs.Common.{◌≡◌, false, take}
use Rattle.std.specs.List.{list_any}
use Rattle.candidate_core.specs.Candidates.{is_name_occupied_by_provides_entry}
use Rattle.candidate_core.proofs.candidate.any_occupies.Given as goal

abbrev pub invariant-loop-i : goal.invariant-loop-i
invariant-loop-i l = list_any (is_name_occupied_by_provides_entry l.name) (take l.i l.provides) ≡ false
