-- Selections that satisfy a world, the walk of a selection, and the preferred selection. The rules are in
-- `docs/selection.md`, "What satisfies world", and "Which selection is taken".
use Rattle.std.specs.Prelude.{◌≡◌, ◌≢◌, ℕ, ◌==◌, Bool, true, false, not, ◌&&◌, ◌||◌, if◌then◌else◌, List, [], ◌∷◌, ◌++◌, map, Option, Some, None, is_some, ◌⊎◌}
use Rattle.std.specs.Option.{option_map, option_map_or, option_or}
use Rattle.std.specs.List.{filter, find, flat_map, list_all, list_any}
use Rattle.std.specs.Ordering.{is_lt}
use Rattle.dep_core.specs.Dependency.{Dependency}
use Rattle.pool_core.specs.candidate_core.Candidates.{Candidate, Need, entry, named, occupies_name, is_eligible_with_positive_install_if, meets_dependency}
use Rattle.pool_core.specs.candidate_core.Rank.{SelectionProblem, bytes_cmp, candidate_at, candidate_at_passes, is_eligible_at, is_better, meets_at}
use Rattle.pool_core.specs.candidate_core.Options.{IsIn}
pub use Rattle.pool_core.specs.candidate_core.Options.{AreAllMembersOf, AreDistinct}

-- ---- needs

-- whether one of the choices `chosen` meets the need, by its own name or by what it provides
abbrev pub is_met : SelectionProblem → List ℕ → Need → Bool
is_met pool chosen need = list_any (λ c. meets_at pool c need) chosen

-- whether no choice meets the need, by its own name or by what it provides
abbrev pub is_unmet : SelectionProblem → List ℕ → Need → Bool
is_unmet pool chosen need = not (is_met pool chosen need)

-- the dependencies of a list as needs, without those that are conflicts
abbrev pub positive_needs : List Dependency → List Need
positive_needs deps = map entry (filter (λ (d : Dependency). not d.conflict) deps)

-- the dependencies of the candidate at a place, with its conflicts; none if no candidate is there
abbrev pub depends_at : SelectionProblem → ℕ → List Dependency
depends_at pool c = option_map_or (λ (k : Candidate). k.depends) (candidate_at pool c) []

-- the needs that world and the choices raise by dependencies: the entries of world, then the dependencies of each
-- choice in the order chosen, all without conflicts
abbrev pub needs_of_world_and_chosen : SelectionProblem → List ℕ → List Need
needs_of_world_and_chosen pool chosen =
    positive_needs pool.world ++ flat_map (λ c. positive_needs (depends_at pool c)) chosen

-- whether the install-if of a candidate applies: the candidate may be selected, its install-if has an entry and no
-- conflict, and the choices meet each entry
abbrev pub install_if_applies : SelectionProblem → List ℕ → Candidate → Bool
install_if_applies pool chosen c =
    is_eligible_with_positive_install_if pool.world c
    && list_all (λ (d : Dependency). is_met pool chosen (entry d)) c.install_if

-- the names of all candidates of the pool whose install-if applies, also of those that are chosen
abbrev pub names_whose_install_if_applies : SelectionProblem → List ℕ → List (List ℕ)
names_whose_install_if_applies pool chosen =
    map (λ (c : Candidate). c.name) (filter (install_if_applies pool chosen) pool.candidates)

-- all needs that world and the choices raise, met or not: those by dependencies, then the names by install-if
abbrev pub needs : SelectionProblem → List ℕ → List Need
needs pool chosen =
    needs_of_world_and_chosen pool chosen ++ map named (names_whose_install_if_applies pool chosen)

-- of a name and an optional second one, the one that is less in byte order; the first name if there is no second one
abbrev pub lesser_name : List ℕ → Option (List ℕ) → List ℕ
lesser_name name None = name
lesser_name name (Some other) = if is_lt (bytes_cmp other name) then other else name

-- the least of the names in byte order; None if there are none
abbrev pub least_name : List (List ℕ) → Option (List ℕ)
least_name [] = None
least_name (name ∷ names) = Some (lesser_name name (least_name names))

-- the first need that no choice meets: the first of those by dependencies, in their order; if there is none, the
-- least, in byte order, of the names by install-if
unfoldable pub next_need : SelectionProblem → List ℕ → Option Need
next_need pool chosen =
    option_or (find (is_unmet pool chosen) (needs_of_world_and_chosen pool chosen))
    (option_map named
    (least_name (filter (λ name. is_unmet pool chosen (named name))
    (names_whose_install_if_applies pool chosen))))

-- ---- candidates that exclude each other

-- whether the second candidate `b` meets a conflict of the first candidate `a`
abbrev pub is_conflict_of_first_met_by_second : SelectionProblem → ℕ → ℕ → Bool
is_conflict_of_first_met_by_second pool a b =
    list_any (λ (d : Dependency). d.conflict && candidate_at_passes pool (meets_dependency d) b)
    (depends_at pool a)

-- the names that a candidate occupies: its own, and each name that it provides with a version
abbrev pub occupied_names : Candidate → List (List ℕ)
occupied_names c =
    c.name ∷ map (λ (p : Dependency). p.name)
    (filter (λ (p : Dependency). not p.conflict && is_some p.version) c.provides)

-- the names that the candidate at a place occupies; none if no candidate is there
abbrev pub occupied_names_at : SelectionProblem → ℕ → List (List ℕ)
occupied_names_at pool c = option_map_or occupied_names (candidate_at pool c) []

-- whether both candidates occupy one and the same name: one selection cannot have both
abbrev pub share_a_name : SelectionProblem → ℕ → ℕ → Bool
share_a_name pool a b =
    list_any (λ name. candidate_at_passes pool (occupies_name name) b) (occupied_names_at pool a)

-- whether the first candidate excludes the second: by a conflict that the first one has, or by a name that both
-- occupy
abbrev pub does_exclude : SelectionProblem → ℕ → ℕ → Bool
does_exclude pool a b = is_conflict_of_first_met_by_second pool a b || share_a_name pool a b

-- whether two candidates exclude each other: no satisfying selection has both
abbrev pub exclude_each_other : SelectionProblem → ℕ → ℕ → Bool
exclude_each_other pool a b = not (a == b) && (does_exclude pool a b || does_exclude pool b a)

-- ---- satisfying selections

-- a selection satisfies the world. Its members are different and may be selected. Each entry of world and each
-- dependency of a member is met, and no conflict of a member is met by another. Each name is occupied by at most one
-- member, and each name whose install-if applies is the name of a member
pub record IsSatisfying (pool : SelectionProblem) (selection : List ℕ) : Type 0 where
  -- no member occurs twice
  pub once : AreDistinct selection
  -- each member may be selected
  pub eligible : (c : ℕ) → IsIn c selection → is_eligible_at pool c ≡ true
  -- each entry of world that is no conflict is met by a member
  pub world_met :
      (q : Need) → IsIn q (positive_needs pool.world) → is_met pool selection q ≡ true
  -- each dependency of a member that is no conflict is met by a member
  pub depends_met :
      (c : ℕ) (q : Need) → IsIn c selection → IsIn q (positive_needs (depends_at pool c)) →
      is_met pool selection q ≡ true
  -- no member meets a conflict of another member
  pub no_conflict :
      (a b : ℕ) → IsIn a selection → IsIn b selection → a ≢ b →
      is_conflict_of_first_met_by_second pool a b ≡ false
  -- each name is occupied by at most one member
  pub names_alone :
      (a b : ℕ) (name : List ℕ) → IsIn a selection → IsIn b selection →
      candidate_at_passes pool (occupies_name name) a ≡ true
      → candidate_at_passes pool (occupies_name name) b ≡ true → a ≡ b
  -- each name whose install-if applies is the name of a member
  pub asked_met :
      (name : List ℕ) → IsIn name (names_whose_install_if_applies pool selection) →
      is_met pool selection (named name) ≡ true

-- ---- the walk of a selection

-- the candidate `c` is a member of the selection and meets the need, and is better in rank than each other member
-- that meets it
abbrev pub IsBestMember : SelectionProblem → List ℕ → Need → ℕ → Type 0
IsBestMember pool selection need c =
    IsIn c selection × (meets_at pool c need ≡ true)
    × ((o : ℕ) → IsIn o selection → meets_at pool o need ≡ true →
    (o ≡ c) ⊎ (is_better pool need c o ≡ true))

-- the last list is the rest of the walk of the selection after the choices `chosen`. For each next need, this rest
-- has the best member in rank that meets the need, until no need is left
abbrev pub IsRestOfSelectionWalkAfterChosen : SelectionProblem → List ℕ → List ℕ → List ℕ → Type 0
IsRestOfSelectionWalkAfterChosen pool selection chosen [] = next_need pool chosen ≡ None
IsRestOfSelectionWalkAfterChosen pool selection chosen (c ∷ rest) =
    (need : Need) × (next_need pool chosen ≡ Some need) × IsBestMember pool selection need c
    × IsRestOfSelectionWalkAfterChosen pool selection (chosen ++ c ∷ []) rest

-- the walk of a selection, from no choices on: for each next need, the walk has the best member that meets the need,
-- until no need is left
abbrev pub IsSelectionWalk : SelectionProblem → List ℕ → List ℕ → Type 0
IsSelectionWalk pool selection walk = IsRestOfSelectionWalkAfterChosen pool selection [] walk

-- two walks begin with the choices `chosen`. The rest of one walk is preferred to the rest `other` of the other walk
-- if, at the first place where they differ, the first rest has the candidate that is better in rank for the next need
abbrev pub IsAfterChosenRestOfWalkPreferredToOther : SelectionProblem → List ℕ → List ℕ → List ℕ → Type 0
IsAfterChosenRestOfWalkPreferredToOther pool chosen [] other = ⊥
IsAfterChosenRestOfWalkPreferredToOther pool chosen (c ∷ rest) [] = ⊥
IsAfterChosenRestOfWalkPreferredToOther pool chosen (c ∷ rest) (d ∷ other) =
    ((need : Need) × (next_need pool chosen ≡ Some need) × (is_better pool need c d ≡ true))
    ⊎ ((c ≡ d) × IsAfterChosenRestOfWalkPreferredToOther pool (chosen ++ c ∷ []) rest other)

-- one walk is preferred to the walk `other`, from the first need on
abbrev pub IsWalkOfCandidatesPreferredTo : SelectionProblem → List ℕ → List ℕ → Type 0
IsWalkOfCandidatesPreferredTo pool walk other = IsAfterChosenRestOfWalkPreferredToOther pool [] walk other

-- `trace` is the preferred solution: it satisfies the world, is its own walk, and is preferred to the walk of each
-- other satisfying selection
pub record IsFirstPreferredSelection (pool : SelectionProblem) (trace : List ℕ) : Type 0 where
  -- the selection satisfies the world
  pub satisfies : IsSatisfying pool trace
  -- the members are in the order of the walk: for each next need, the best member that meets it
  pub walked : IsSelectionWalk pool trace trace
  -- the walk of each satisfying selection is equal to `trace`, or `trace` is preferred to it
  pub first :
      (selection walk : List ℕ) → IsSatisfying pool selection → IsSelectionWalk pool selection walk →
      (walk ≡ trace) ⊎ IsWalkOfCandidatesPreferredTo pool trace walk
