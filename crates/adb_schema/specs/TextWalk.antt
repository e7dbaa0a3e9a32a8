-- The results of the steps of the text walk, and the values that the walk skips. Serves the contracts
-- of `src/text_walk.rt`; the rule is in `docs/formats.md`, "The texts".
use Rattle.std.specs.Prelude.{◌≡◌, ℕ, ◌-◌, ◌<◌, true, List, slice_index, Option, Some, None}
use Rattle.base_core.specs.declared.cause.Cause.{Cause}
use Rattle.base_core.specs.declared.cause.Cause.TheVariants.{BadText}
use Rattle.adb_view.specs.Plain.{Plain}
use Rattle.adb_view.specs.Schema.{shape_of}
use Rattle.adb_view.specs.declared.tables.Kind.{Kind}
use Rattle.adb_schema.specs.Texts.{Surroundings, first_bad_leaf, leaves, is_allowed_text_of_field}

-- the cause that a number or text breaks the rule of the field with this number (`place`), if there is
-- such a field
abbrev pub bad_text_at : Option ℕ → Option Cause
bad_text_at None = None
bad_text_at (Some place) = Some (BadText place)

-- the entry of an array with the index i (from 0) is the same word as the entry before it
pub record IsSameWordAsPrevious (words : List ℕ) (i : ℕ) : Type 0 where
  -- the entry is not the first one
  pub behind : 0 < i
  -- the entry equals the entry before it
  pub same : slice_index words i ≡ slice_index words (i - 1)

-- no text breaks the rule of the field with this number, whatever its surroundings
abbrev pub AllowsEachText : ℕ → Type 0
AllowsEachText field_place_in_causes = (around : Surroundings) (text : List ℕ)
    → is_allowed_text_of_field field_place_in_causes around text ≡ true

-- no value of the kind breaks a rule if it is the value of the field with this number, whatever its surroundings
abbrev pub AllowsEachValueOfKind : Kind → ℕ → Type 0
AllowsEachValueOfKind kind field_place_in_causes = (around : Surroundings) (v : Plain)
    → first_bad_leaf (leaves (shape_of kind) field_place_in_causes around v) ≡ None
