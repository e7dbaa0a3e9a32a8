use Rattle.std.proofs.Common.{◌≡◌, take, map}
use Rattle.option_ranks.specs.candidate_core.Packages.{candidates_of_packages}
use Rattle.option_ranks.specs.candidate_core.Rank.{is_kept_installed, listed_names}
use Rattle.pool_core.proofs.keeping.marks_with_sorted.Given as goal

abbrev pub invariant-loop-place : goal.invariant-loop-place
invariant-loop-place l = l.marks.items ≡ map (is_kept_installed (listed_names l.names)) (take l.place (candidates_of_packages l.packages))
