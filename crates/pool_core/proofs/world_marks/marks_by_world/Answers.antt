use Rattle.std.proofs.Common.{◌≡◌, ◌∙◌, List, Bool, map, ap}
use Rattle.dep_core.specs.Dependency.{Dependency}
use Rattle.dep_core.specs.Meets.{dependency}
use Rattle.option_ranks.specs.candidate_core.Candidates.{Candidate}
use Rattle.option_ranks.specs.candidate_core.PositiveInstallIfs.{places_marked_with_install_if}
use Rattle.option_ranks.specs.candidate_core.Packages.{candidates_of_packages}
use Rattle.pool_core.proofs.Sealing.{eligible_marked, pinned_marked, install_ifs_marked}
use Rattle.pool_core.proofs.world_marks.marks_by_world.Goals as goal

pub returns-clause-eligible : goal.returns-clause-eligible
returns-clause-eligible c =
    let world : List Dependency = c.args.world.now in
    eligible_marked world (map dependency c.deref.result.now) (map dependency c.deref-2.result.now) c.in_ok-eligible.eligible.items (candidates_of_packages c.args.list.now.packages)
    (ap (map dependency) c.deref.ensures.value ∙ c.in_ok-tagged.ensures) (ap (map dependency) c.deref-2.ensures.value ∙ c.in_ok-conflicts.ensures) c.in_ok-eligible.ensures

pub returns-clause-pinned : goal.returns-clause-pinned
returns-clause-pinned c =
    let world : List Dependency = c.args.world.now in
    pinned_marked world (map dependency c.deref-3.result.now) c.in_ok-pinned.pinned.items (candidates_of_packages c.args.list.now.packages)
    (ap (map dependency) c.deref-3.ensures.value ∙ c.in_ok-tagged.ensures) c.in_ok-pinned.ensures

pub returns-clause-install_ifs : goal.returns-clause-install_ifs
returns-clause-install_ifs c =
    let world : List Dependency = c.args.world.now in
    let cs : List Candidate = candidates_of_packages c.args.list.now.packages in
    let marks : List Bool = c.in_ok-eligible.eligible.items in
    let found : c.in_ok-install_ifs.install_ifs.items ≡ places_marked_with_install_if 0 marks cs =
    c.in_ok-install_ifs.ensures ∙ ap (λ (ms : List Bool). places_marked_with_install_if 0 ms cs) c.deref-4.ensures.value in
    install_ifs_marked world marks cs c.in_ok-install_ifs.install_ifs.items (returns-clause-eligible c) found
