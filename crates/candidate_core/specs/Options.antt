-- The candidates that offer a name, and the options of a need, which are the candidates that may meet
-- it. The rules are in `docs/selection.md`: "What there is to choose from" (which candidate may be
-- selected and what meets a need), and "Which selection is taken" (the options of a need in rank
-- order).
use Rattle.std.specs.Prelude.{◌≡◌, ◌<◌, ℕ, suc, Bool, true, ◌&&◌, if◌then◌else◌, List, [], ◌∷◌}
use Rattle.candidate_core.specs.Candidates.{Candidate, Need, is_eligible, meets_dependency_or_has_package_name, offers_name}
use Rattle.candidate_core.specs.Rank.{SelectionProblem, is_better}
pub use Rattle.adb_schema.specs.adb_fields.FirstPair.{IsIn}

-- each member of the first list is one of the second
abbrev pub AreAllMembersOf : {X : Type 0} → List X → List X → Type 0
AreAllMembersOf {X} xs ys = (c : X) → IsIn c xs → IsIn c ys

-- no number occurs twice
abbrev pub AreDistinct : List ℕ → Type 0
AreDistinct [] = Unit {0}
AreDistinct (c ∷ cs) = (IsIn c cs → ⊥) × AreDistinct cs

-- the places of all candidates of the list that pass a test, in rising order; the first candidate of the list has the
-- place `n`
abbrev pub places_passing_counted_from : ℕ → (Candidate → Bool) → List Candidate → List ℕ
places_passing_counted_from n test [] = []
places_passing_counted_from n test (c ∷ cs) =
    if test c then n ∷ places_passing_counted_from (suc n) test cs else places_passing_counted_from
    (suc n) test cs

-- the offers of a name: the places, counted from 0, of the candidates that are named so or provide
-- it
abbrev pub places_offering : List ℕ → List Candidate → List ℕ
places_offering name candidates = places_passing_counted_from 0 (offers_name name) candidates

-- whether the candidate may be selected and meets the need
abbrev pub is_eligible_for_need : SelectionProblem → Need → Candidate → Bool
is_eligible_for_need pool need c = is_eligible pool.world c && meets_dependency_or_has_package_name need c

-- places in rank order, with the place `c` added before the first place that `c` is better than
abbrev pub insert_by_rank : (ℕ → ℕ → Bool) → ℕ → List ℕ → List ℕ
insert_by_rank better c [] = c ∷ []
insert_by_rank better c (d ∷ ds) =
    if better c d then c ∷ (d ∷ ds) else d ∷ insert_by_rank better c ds

-- the places in rank order: each better place first, where `better` says which of two places is better
abbrev pub rank_order_of : (ℕ → ℕ → Bool) → List ℕ → List ℕ
rank_order_of better [] = []
rank_order_of better (c ∷ cs) = insert_by_rank better c (rank_order_of better cs)

-- the options of a need: the places of the candidates that may be selected and meet the need, best first
unfoldable pub options_for : SelectionProblem → Need → List ℕ
options_for pool need =
    rank_order_of (is_better pool need)
    (places_passing_counted_from 0 (is_eligible_for_need pool need) pool.candidates)

-- each place of the list is better than all places after it, where `better` says which of two places is better
abbrev pub IsStrictlySortedBestFirst : (ℕ → ℕ → Bool) → List ℕ → Type 0
IsStrictlySortedBestFirst better [] = Unit {0}
IsStrictlySortedBestFirst better (c ∷ cs) =
    ((d : ℕ) → IsIn d cs → better c d ≡ true) × IsStrictlySortedBestFirst better cs

-- each number of the list is less than all numbers after it
abbrev pub AreStrictlyIncreasing : List ℕ → Type 0
AreStrictlyIncreasing [] = Unit {0}
AreStrictlyIncreasing (c ∷ cs) = ((d : ℕ) → IsIn d cs → c < d) × AreStrictlyIncreasing cs
