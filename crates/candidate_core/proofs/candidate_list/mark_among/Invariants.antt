use Rattle.std.proofs.Common.{◌≡◌, take}
use Rattle.std.specs.List.{list_any}
use Rattle.candidate_core.specs.CandidateList.{is_installed_package_at}
use Rattle.candidate_core.specs.Packages.{candidates_of_packages}
use Rattle.candidate_core.proofs.Installed.{marked_among}
use Rattle.candidate_core.proofs.candidate_list.mark_among.Given as goal

abbrev pub invariant-loop-id : goal.invariant-loop-id
invariant-loop-id l =
    (candidates_of_packages l.packages ≡ marked_among l.installed (take l.id-index l.ids) (candidates_of_packages l.initial.packages))
    × (l.found ≡ list_any (is_installed_package_at l.installed (candidates_of_packages l.initial.packages)) (take l.id-index l.ids))
