use Rattle.std.proofs.Common.{◌≡◌, false, take, map}
use Rattle.option_ranks.specs.candidate_core.Packages.{candidates_of_packages}
use Rattle.option_ranks.specs.candidate_core.Candidates.{Candidate}
use Rattle.pool_core.proofs.marks.no_marks.Given as goal

abbrev pub invariant-loop-place : goal.invariant-loop-place
invariant-loop-place l = l.marks.items ≡ map (λ (one : Candidate). false) (take l._place (candidates_of_packages l.packages))
