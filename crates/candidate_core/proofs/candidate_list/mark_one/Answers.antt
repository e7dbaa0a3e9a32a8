use Rattle.std.proofs.Common.{◌≡◌, ◌∙◌, false, List, ℕ, sym, ap, subst}
use Rattle.std.specs.Prelude.{Option, Some, slice_get}
use Rattle.std.specs.Option.{option_map_or}
use Rattle.candidate_core.specs.Candidates.{Candidate, is_repository_package_same_as_installed}
use Rattle.candidate_core.specs.Packages.{candidates_of_packages, marked_installed_at}
use Rattle.candidate_core.proofs.Installed.{marked_installed_if_same_at-installed, marked_installed_if_same_at-other}
use Rattle.candidate_core.proofs.candidate_list.mark_one.Goals as goal

pub returns-then-not-is_repository_package_same_as_installed-clause-marked : goal.returns-then-not-is_repository_package_same_as_installed-clause-marked
returns-then-not-is_repository_package_same_as_installed-clause-marked c =
    let cs : List Candidate = candidates_of_packages c.args.packages.now in
    let there : slice_get cs c.args.id ≡ Some c.get.result = subst (λ (n : ℕ). slice_get cs n ≡ Some c.get.result) c.id.view_is c.get.ensures in
    sym (marked_installed_if_same_at-other c.args.installed.now c.get.result c.args.id cs there (sym c.is_repository_package_same_as_installed.ensures ∙ c.if-not-is_repository_package_same_as_installed.true))

pub returns-clause-same : goal.returns-clause-same
returns-clause-same c =
    let cs : List Candidate = candidates_of_packages c.args.packages.now in
    let there : slice_get cs c.args.id ≡ Some c.get.result = subst (λ (n : ℕ). slice_get cs n ≡ Some c.get.result) c.id.view_is c.get.ensures in
    sym c.if-not-is_repository_package_same_as_installed.false ∙ (c.is_repository_package_same_as_installed.ensures ∙ ap (λ (o : Option Candidate). option_map_or (is_repository_package_same_as_installed c.args.installed.now) o false) (sym there))

pub returns-clause-marked : goal.returns-clause-marked
returns-clause-marked c =
    let cs : List Candidate = candidates_of_packages c.args.packages.now in
    let there : slice_get cs c.args.id ≡ Some c.get.result = subst (λ (n : ℕ). slice_get cs n ≡ Some c.get.result) c.id.view_is c.get.ensures in
    c.mark_installed.ensures ∙ (ap (λ (n : ℕ). marked_installed_at n cs) c.id.view_is ∙ sym (marked_installed_if_same_at-installed c.args.installed.now c.get.result c.args.id cs there (sym c.is_repository_package_same_as_installed.ensures ∙ c.if-not-is_repository_package_same_as_installed.false)))
