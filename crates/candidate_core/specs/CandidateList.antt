-- The list of candidates under construction, and how candidates are marked as installed one by one. The rules are in
-- `docs/selection.md`, "What there is to choose from". The contracts of `Pool` cite *IsCandidateList* and
-- *candidates_in*. Proofs use *is_installed_package_at* and *marked_installed_if_same_at*: these do for one place of
-- the list what *with_installed_marked_or_added* does for all.
use Rattle.std.specs.Prelude.{◌≤◌, ℕ, zero, suc, Bool, false, if◌then◌else◌, List, [], ◌∷◌, length, Option, Some, None, slice_get}
use Rattle.std.specs.Option.{option_map_or}
use Rattle.candidate_core.specs.declared.candidate_list.CandidateList.{CandidateList}
use Rattle.candidate_core.specs.declared.candidate_list.TheConstants.{MOST_CANDIDATES}
use Rattle.candidate_core.specs.Candidates.{Candidate, as_installed, is_repository_package_same_as_installed}
use Rattle.candidate_core.specs.Packages.{candidates_of_packages}
use Rattle.candidate_core.specs.Table.{HasPlacesOfEachName}

-- the list is one of candidates: the table has for each name the candidates that offer it, and the
-- candidates are not too many
pub record IsCandidateList (list : CandidateList) : Type 0 where
  -- the table leads from each name to the places of the candidates that offer it
  pub leads : HasPlacesOfEachName list.table (candidates_of_packages list.packages)
  -- there are no more candidates than a list may have
  pub fits : length (candidates_of_packages list.packages) ≤ MOST_CANDIDATES

-- the candidates of a pool; none if an error has dropped the list, or before the first candidate is added
abbrev pub candidates_in : Option CandidateList → List Candidate
candidates_in None = []
candidates_in (Some list) = candidates_of_packages list.packages

-- whether the candidate at a place is the same package as the installed one; false if no candidate is there
abbrev pub is_installed_package_at : Candidate → List Candidate → ℕ → Bool
is_installed_package_at installed cs place =
    option_map_or (is_repository_package_same_as_installed installed) (slice_get cs place) false

-- the list, in which the candidate at a place is marked as installed if it is the same package as the installed one
abbrev pub marked_installed_if_same_at : Candidate → ℕ → List Candidate → List Candidate
marked_installed_if_same_at installed place [] = []
marked_installed_if_same_at installed zero (c ∷ cs) =
    (if is_repository_package_same_as_installed installed c then as_installed c else c) ∷ cs
marked_installed_if_same_at installed (suc place) (c ∷ cs) =
    c ∷ marked_installed_if_same_at installed place cs
