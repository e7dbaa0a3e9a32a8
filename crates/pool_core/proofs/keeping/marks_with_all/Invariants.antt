use Rattle.std.proofs.Common.{◌≡◌, take, map}
use Rattle.std.specs.Prelude.{not, ◌&&◌}
use Rattle.option_ranks.specs.candidate_core.Packages.{candidates_of_packages}
use Rattle.option_ranks.specs.candidate_core.Candidates.{Candidate}
use Rattle.pool_core.proofs.keeping.marks_with_all.Given as goal

abbrev pub invariant-loop-place : goal.invariant-loop-place
invariant-loop-place l = l.marks.items ≡ map (λ (one : Candidate). one.installed && not l.is_upgraded) (take l.place (candidates_of_packages l.packages))
