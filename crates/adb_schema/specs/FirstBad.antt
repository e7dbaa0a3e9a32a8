-- When a text or number is the first that breaks its rule. Serves the law
-- `the_first_bad_text_is_reported`; the rule is in `docs/formats.md`, "The texts".
use Rattle.std.specs.Prelude.{◌≡◌, ℕ, ◌<◌, true, false, List, slice_get, Option, Some, None}
use Rattle.std.specs.List.{list_all}
use Rattle.base_core.specs.declared.cause.Cause.{Cause}
use Rattle.base_core.specs.declared.cause.Cause.TheVariants.{BadText}
use Rattle.adb_schema.specs.Texts.{Leaf, keeps_rule, field_number_of_leaf}

-- `c` is the cause for the first of these leaves (numbers and texts) that breaks the rule of its field
pub record IsFirstBadLeaf (all : List Leaf) (c : Cause) : Type 0 where
  -- how many leaves precede the leaf that is reported
  pub i : ℕ
  -- the leaf that breaks its rule
  pub leaf : Leaf
  -- this leaf has the index i, counted from 0
  pub at : slice_get all i ≡ Some leaf
  -- the leaf breaks the rule of its field
  pub broken : keeps_rule leaf ≡ false
  -- the cause has the number of the leaf's field
  pub cause : c ≡ BadText (field_number_of_leaf leaf)
  -- each leaf before this one obeys the rule of its field
  pub before : (j : ℕ) → (other : Leaf) → j < i → slice_get all j ≡ Some other → keeps_rule other
      ≡ true

-- the cause is that of the first leaf that breaks its rule; without a cause each leaf obeys its rule
abbrev pub IsFirstBadLeafIfAny : List Leaf → Option Cause → Type 0
IsFirstBadLeafIfAny all None = list_all keeps_rule all ≡ true
IsFirstBadLeafIfAny all (Some c) = IsFirstBadLeaf all c
