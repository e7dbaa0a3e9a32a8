-- The first pair of positions with the same name, stated independently of how it is computed. Serves the laws of
-- `src/pairs.rt`; the rule is in `docs/formats.md`, "Names that stand twice".
use Rattle.std.specs.Prelude.{◌≡◌, ℕ, ◌<◌, ◌≤◌, ◌⊎◌, List, [], ◌∷◌, Option, Some, None}
pub use Rattle.base_core.specs.Lists.{IsIn}
use Rattle.adb_fields.specs.Pairs.{NameWithPosition}
use Rattle.adb_fields.specs.Repeated.{numbered_from}
use Rattle.adb_fields.specs.declared.pairs.Pair.{Pair}

-- p is a pair of different positions at which `names` has the same name; its first position is the smaller one
pub record IsPairOfEqualNames (names : List NameWithPosition) (p : Pair) : Type 0 where
  -- the name at the first position
  pub one : NameWithPosition
  -- the name at the second position
  pub other : NameWithPosition
  -- the name at the first position is in the list
  pub one_in : IsIn one names
  -- the name at the second position is in the list
  pub other_in : IsIn other names
  -- both names are equal
  pub alike : one.name ≡ other.name
  -- the first position of the pair is that of `one`
  pub first : p.first ≡ one.position
  -- the second position of the pair is that of `other`
  pub second : p.second ≡ other.position
  -- the first position is the smaller one
  pub rises : p.first < p.second

-- p is the first of the pairs for which `IsOne` holds: none of them has a smaller second position, and none with the
-- same second position has a smaller first position
pub record IsLeastPair (IsOne : Pair → Type 0) (p : Pair) : Type 0 where
  -- `IsOne` holds for p
  pub is_one : IsOne p
  -- none of these pairs has a smaller second position
  pub second : (q : Pair) → IsOne q → p.second ≤ q.second
  -- none of these pairs with the same second position has a smaller first position
  pub first : (q : Pair) → IsOne q → q.second ≡ p.second → p.first ≤ q.first

-- the Option is the first of the pairs for which `IsOne` holds, or None if it holds for no pair
abbrev pub IsLeastPairIfAny : (Pair → Type 0) → Option Pair → Type 0
IsLeastPairIfAny IsOne None = (q : Pair) → ¬ IsOne q
IsLeastPairIfAny IsOne (Some p) = IsLeastPair IsOne p

-- p is a pair of different positions at which one of several lists has the same name
pub record ArePositionsOfNameTwiceInOneList (lists : List (List (List ℕ))) (p : Pair) : Type 0 where
  -- the list that has the name twice
  pub names : List (List ℕ)
  -- this list is one of the lists
  pub names_in : IsIn names lists
  -- p has two positions of the name in this list, counted from 1
  pub is_pair : IsPairOfEqualNames (numbered_from 1 names) p
