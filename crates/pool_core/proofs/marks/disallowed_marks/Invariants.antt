use Rattle.std.proofs.Common.{◌≡◌, take, map}
use Rattle.std.specs.Prelude.{not}
use Rattle.dep_core.specs.Meets.{dependency}
use Rattle.option_ranks.specs.candidate_core.Packages.{candidates_of_packages}
use Rattle.option_ranks.specs.candidate_core.Candidates.{Candidate, is_allowed_by_tags_of_world}
use Rattle.pool_core.proofs.marks.disallowed_marks.Given as goal

abbrev pub invariant-loop-place : goal.invariant-loop-place
invariant-loop-place l = l.marks.items ≡ map (λ (one : Candidate). not (is_allowed_by_tags_of_world (map dependency l.tagged) one)) (take l.place (candidates_of_packages l.packages))
