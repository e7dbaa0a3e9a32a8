-- Candidates that are triggered by their install-if: each entry of it is met, but no choice has the candidate's name,
-- so that this name is needed. The least of these names is needed first.
-- The rules are in `docs/selection.md`: "What satisfies world", 4, and "Which selection is taken" (in
-- byte order). Serves the contracts of `src/needs.rt`, and those of `src/choices.rt` of `search_choices`.
use Rattle.std.specs.Prelude.{◌≡◌, ◌<◌, ℕ, Bool, true, false, ◌&&◌, List, slice_get}
use Rattle.std.specs.Option.{option_map_or}
use Rattle.std.specs.List.{list_all}
use Rattle.dep_core.specs.Dependency.{Dependency}
use Rattle.search_tables.specs.candidate_core.Candidates.{Candidate, entry, named}
use Rattle.search_tables.specs.candidate_core.Rank.{SelectionProblem, candidate_at_passes}
use Rattle.search_tables.specs.InstallIf.{has_lesser_name, is_eligible_with_positive_install_if_at}
use Rattle.search_tables.specs.Selection.{is_met, is_unmet}

-- whether each of these dependencies is met by a choice
abbrev pub all_met : SelectionProblem → List ℕ → List Dependency → Bool
all_met pool chosen deps = list_all (λ (d : Dependency). is_met pool chosen (entry d)) deps

-- whether a candidate is triggered: each entry of its install-if is met, and no choice has the
-- candidate's name
abbrev pub is_triggered_by_install_if : SelectionProblem → List ℕ → Candidate → Bool
is_triggered_by_install_if pool chosen c = all_met pool chosen c.install_if
    && is_unmet pool chosen (named c.name)

-- whether the candidate at a place is triggered by its install-if
abbrev pub is_install_if_triggered_at : SelectionProblem → List ℕ → ℕ → Bool
is_install_if_triggered_at pool chosen k =
    candidate_at_passes pool (is_triggered_by_install_if pool chosen) k

-- whether the candidate with this rank (its index in the list `by_name`) is triggered by its install-if; false if the
-- list has no such index
abbrev pub is_install_if_triggered_at_rank : SelectionProblem → List ℕ → List ℕ → ℕ → Bool
is_install_if_triggered_at_rank pool chosen by_name rank =
    option_map_or (λ (k : ℕ). is_install_if_triggered_at pool chosen k) (slice_get by_name rank) false

-- none of the candidates with the ranks below `count` is triggered by its install-if
abbrev pub AreNoneTriggeredBelow : SelectionProblem → List ℕ → List ℕ → ℕ → Type 0
AreNoneTriggeredBelow pool chosen by_name count =
    (rank : ℕ) → rank < count → is_install_if_triggered_at_rank pool chosen by_name rank ≡ false

-- the candidate `k` is triggered by its install-if, which can apply, and no other such candidate has a lesser name
pub record IsLeastTriggeredInstallIf (pool : SelectionProblem) (chosen : List ℕ) (k : ℕ) : Type 0 where
  -- the install-if of the candidate can apply
  pub usable : is_eligible_with_positive_install_if_at pool k ≡ true
  -- the candidate is triggered: each entry of its install-if is met, and no choice has its name
  pub asks : is_install_if_triggered_at pool chosen k ≡ true
  -- no other triggered candidate has a name that is less in byte order
  pub least :
      (o : ℕ) → is_eligible_with_positive_install_if_at pool o ≡ true
      → is_install_if_triggered_at pool chosen o ≡ true →
      has_lesser_name pool o k ≡ false

-- no candidate is triggered by an install-if that can apply
abbrev pub IsNoInstallIfTriggered : SelectionProblem → List ℕ → Type 0
IsNoInstallIfTriggered pool chosen =
    (o : ℕ) → is_eligible_with_positive_install_if_at pool o ≡ true
    → is_install_if_triggered_at pool chosen o ≡ false
