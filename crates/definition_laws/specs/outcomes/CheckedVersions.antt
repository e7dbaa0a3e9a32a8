-- Which operands of `version` are versions. The rules are in `docs/commands.md`, "`version --test
-- VERSION VERSION`" and "`version --check TEXT..`". Serves the laws of `src/version.rt`.
use Rattle.std.specs.Prelude.{◌≡◌, ℕ, true, false, List, ◌∷◌, ◌++◌}
use Rattle.base_core.specs.Lists.{IsIn}
use Rattle.command_core.specs.declared.operands.Operand.{Operand}
use Rattle.version_core.specs.Order.{is_version}

-- the texts of both operands are versions
pub record AreBothVersions (a b : Operand) : Type 0 where
  -- the first text is a version
  pub first : is_version a.text ≡ true
  -- the second text is a version
  pub second : is_version b.text ≡ true

-- the operand at this place is no version, and each one before it is one
pub record IsPlaceOfFirstInvalidVersion (operands : List Operand) (place : ℕ) : Type 0 where
  -- the operands before the one at the place
  pub front : List Operand
  -- the operand at the place
  pub operand : Operand
  -- the operands after it
  pub rest : List Operand
  -- together these are all operands
  pub operands_are : operands ≡ front ++ operand ∷ rest
  -- the operand has this place in the command line
  pub place_is : operand.place ≡ place
  -- the text of the operand is no version
  pub none : is_version operand.text ≡ false
  -- the text of each operand before it is a version
  pub earlier : (o : Operand) → IsIn o front → is_version o.text ≡ true
