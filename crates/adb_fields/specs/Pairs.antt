-- The two positions that are reported if names repeat in a list. The rule is in `docs/formats.md`, "Names that
-- stand twice", below the table.
use Rattle.std.specs.Prelude.{ℕ, Bool, ◌&&◌, ◌||◌, List, [], ◌∷◌, map, Option, Some, None, bytes_eq, ◌==◌, nat_lt, if◌then◌else◌}
use Rattle.std.specs.List.{flat_map}
use Rattle.adb_fields.specs.declared.pairs.Pair.{Pair}

-- a name and its position, which counts from 1
pub record NameWithPosition : Type 0 where
  -- a name, or a path
  pub name : List ℕ
  -- the position of the name, counted from 1
  pub position : ℕ

-- whether the pair p is reported rather than q: its second position is smaller; or the second positions are equal, and
-- its first position is smaller
abbrev pub is_lesser_pair_by_second_then_first : Pair → Pair → Bool
is_lesser_pair_by_second_then_first p q =
    nat_lt p.second q.second || (p.second == q.second && nat_lt p.first q.first)

-- the one of two pairs that is reported (*is_lesser_pair_by_second_then_first*); None if there is neither
abbrev pub lesser_pair : Option Pair → Option Pair → Option Pair
lesser_pair None q = q
lesser_pair (Some p) None = Some p
lesser_pair (Some p) (Some q) = if is_lesser_pair_by_second_then_first q p then Some q else Some p

-- the one of several pairs that is reported (*is_lesser_pair_by_second_then_first*); None if there is none
abbrev pub least_pair : List (Option Pair) → Option Pair
least_pair [] = None
least_pair (p ∷ ps) = lesser_pair p (least_pair ps)

-- the pair of the positions of x and y, if they have the same name and the position of x is smaller
abbrev pub pair_if_same_name_and_first_precedes : NameWithPosition → NameWithPosition → Option Pair
pair_if_same_name_and_first_precedes x y = if bytes_eq x.name y.name && nat_lt x.position y.position
    then Some (record { first = x.position; second = y.position }) else None

-- the pair of positions with the same name; of all such pairs the one that is reported. None if there is no such
-- pair
unfoldable pub least_pair_of_equal_names : List NameWithPosition → Option Pair
least_pair_of_equal_names names =
    least_pair (flat_map (λ x. map (pair_if_same_name_and_first_precedes x) names) names)
