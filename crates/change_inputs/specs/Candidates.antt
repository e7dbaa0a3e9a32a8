-- The candidates of a change: the packages of the indexes, and the installed ones. The rules are in
-- `docs/selection.md`, "What there is to choose from".
use Rattle.std.specs.Prelude.{ℕ, ◌+◌, nat_lt, true, if◌then◌else◌, List, [], ◌∷◌, ◌++◌, length, None, Result, Ok, Err}
use Rattle.adb_view.specs.FieldIndexes.{INDEX_PACKAGES_INDEX, PACKAGE_INFO_INDEX}
use Rattle.adb_view.specs.Values.{entries_in, entry_at_index}
use Rattle.adb_view.specs.Plain.{Plain}
use Rattle.dep_core.specs.Repositories.{Repository}
use Rattle.pool_core.specs.candidate_core.Candidates.{Candidate, candidate_of, candidates_of_index, with_installed_marked_or_added}
use Rattle.pool_core.specs.candidate_core.declared.candidate_list.TheConstants.{MOST_CANDIDATES}
use Rattle.pool_core.specs.candidate_core.Rank.{SelectionProblem, UpgradedNames, selection_problem_from_parts}
use Rattle.report_core.specs.declared.refusal.Refusal.{Refusal}
use Rattle.report_core.specs.declared.refusal.Refusal.TheVariants.{TooMany}
use Rattle.change_inputs.specs.Inputs.{Inputs}

-- the candidates of the indexes of some repositories; `n` is the number of the first repository, counted from 1
abbrev pub candidates_of_repositories_from : ℕ → List Repository → List Plain → List Candidate
candidates_of_repositories_from n [] indexes = []
candidates_of_repositories_from n (repository ∷ repositories) [] = []
candidates_of_repositories_from n (repository ∷ repositories) (index ∷ indexes) =
    candidates_of_index n repository.tag (entries_in (entry_at_index index INDEX_PACKAGES_INDEX))
    ++ candidates_of_repositories_from (n + 1) repositories indexes

-- an installed package as a candidate, given its entry in the database
abbrev pub installed_candidate : Plain → Candidate
installed_candidate pkg = candidate_of (entry_at_index pkg PACKAGE_INFO_INDEX) None None true

-- the candidates, to which the installed packages are added in the database's order: a package that is already a
-- candidate from an index is marked as installed, and any other is appended
abbrev pub with_all_installed : List Candidate → List Plain → List Candidate
with_all_installed candidates [] = candidates
with_all_installed candidates (pkg ∷ packages) =
    with_all_installed (with_installed_marked_or_added candidates (installed_candidate pkg)) packages

-- all candidates that the inputs have, however many they are
abbrev pub candidates_of : Inputs → List Candidate
candidates_of inputs =
    with_all_installed (candidates_of_repositories_from 1 inputs.root.repositories inputs.indexes)
    inputs.root.database.packages

-- all candidates of the inputs, with the new world and the names that the command upgrades; or the refusal, if there
-- are more candidates than a pool may have
unfoldable pub root_pool : Inputs → UpgradedNames → Result SelectionProblem Refusal
root_pool inputs upgraded =
    if nat_lt MOST_CANDIDATES (length (candidates_of inputs)) then
    Err (TooMany (MOST_CANDIDATES + 1)) else
    Ok (selection_problem_from_parts (candidates_of inputs) inputs.root.new_world upgraded)
