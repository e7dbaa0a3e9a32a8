-- The candidates whose install-if can apply, in byte order of their names. The rules are in
-- `docs/selection.md`: "What satisfies world", 4, and "Which selection is taken" (in byte order). Serves the contracts of
-- `src/install_ifs.rt`.
use Rattle.std.specs.Prelude.{◌≡◌, ◌≤◌, ◌<◌, ℕ, Bool, true, false, List, [], get_or, length, slice_get, Some}
use Rattle.std.specs.Option.{option_map_or}
use Rattle.std.specs.Ordering.{is_lt}
use Rattle.dep_core.specs.Dependency.{Dependency}
use Rattle.pool_core.specs.candidate_core.Candidates.{Candidate, is_eligible_with_positive_install_if}
use Rattle.pool_core.specs.candidate_core.Options.{IsIn}
use Rattle.pool_core.specs.candidate_core.Rank.{SelectionProblem, bytes_cmp, candidate_at, candidate_at_passes}
use Rattle.search_tables.specs.NameTable.{items_under_name}

-- whether the candidate at a place has an install-if that can apply
abbrev pub is_eligible_with_positive_install_if_at : SelectionProblem → ℕ → Bool
is_eligible_with_positive_install_if_at pool k =
    candidate_at_passes pool (is_eligible_with_positive_install_if pool.world) k

-- the name of the candidate at a place; empty if there is none
abbrev pub name_at : SelectionProblem → ℕ → List ℕ
name_at pool k = option_map_or (λ (c : Candidate). c.name) (candidate_at pool k) []

-- the install-if of the candidate at a place; no entries, if there is none
abbrev pub install_if_at : SelectionProblem → ℕ → List Dependency
install_if_at pool k = option_map_or (λ (c : Candidate). c.install_if) (candidate_at pool k) []

-- whether the name of the first candidate is less than that of the second, in byte order
abbrev pub has_lesser_name : SelectionProblem → ℕ → ℕ → Bool
has_lesser_name pool a b = is_lt (bytes_cmp (name_at pool a) (name_at pool b))

-- `by_name` has the candidates whose install-if can apply, in byte order of their names. The index of a candidate in
-- this list is its rank. The table `waiting` has, under the name of each entry of an install-if, the rank of its
-- candidate
pub record AreUsableInstallIfsByName (pool : SelectionProblem) (by_name : List ℕ)
    (waiting : List (List ℕ × List ℕ)) :
    Type 0 where
  -- each candidate of the list has an install-if that can apply
  pub those : (k : ℕ) → IsIn k by_name → is_eligible_with_positive_install_if_at pool k ≡ true
  -- the list has each candidate whose install-if can apply
  pub each : (k : ℕ) → is_eligible_with_positive_install_if_at pool k ≡ true → IsIn k by_name
  -- no candidate of the list has a lesser name than one before it
  pub rising :
      (i j d : ℕ) → i ≤ j → j < length by_name →
      has_lesser_name pool (get_or by_name j d) (get_or by_name i d) ≡ false
  -- the table has the rank of each candidate under the name of each entry of its install-if
  pub entries :
      (rank k : ℕ) (d : Dependency) → slice_get by_name rank ≡ Some k →
      IsIn d (install_if_at pool k) → IsIn rank (items_under_name waiting d.name)
