-- No name so far is similar.
use Rattle.std.proofs.Common.{◌≡◌, take}
use Rattle.std.specs.Prelude.{None}
use Rattle.std.specs.List.{find}
use Rattle.search_tables.specs.candidate_core.Candidates.{Candidate}
use Rattle.unmet_world.specs.Similar.{differ_by_one}
use Rattle.unmet_world.proofs.similar.similar_name.Given as goal

abbrev pub invariant-loop-i : goal.invariant-loop-i
invariant-loop-i l = find (λ (c : Candidate). differ_by_one l.name c.name) (take l.i l.pool.candidates) ≡ None
