use Rattle.std.proofs.Common.{◌≡◌, take}
use Rattle.option_ranks.specs.candidate_core.PositiveInstallIfs.{places_marked_with_install_if}
use Rattle.option_ranks.specs.candidate_core.Packages.{candidates_of_packages}
use Rattle.pool_core.proofs.world_marks.install_ifs_among.Given as goal

abbrev pub invariant-loop-place : goal.invariant-loop-place
invariant-loop-place l = l.ids.items ≡ places_marked_with_install_if 0 (take l.place l.eligible) (take l.place (candidates_of_packages l.packages))
