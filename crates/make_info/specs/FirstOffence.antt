-- The first of the values of `-I` that offends. `too_long`: the output is NAME-VERSION.apk, and that is
-- too long.
-- The rule is in `docs/commands.md`, "`mkpkg`", the row of `invalid package information`: the first
-- such place. It serves the law `the_first_value_that_offends_is_reported`.
use Rattle.std.specs.Prelude.{◌≡◌, ℕ, Bool, true, false, List, ◌∷◌, ◌++◌}
use Rattle.command_core.specs.declared.values.OptionValue.{OptionValue}
use Rattle.make_info.specs.Information.{offends}

-- none of these values of `-I` offends (is refused), given the values before it
abbrev pub HasNoOffendingOptionByOutputLength : Bool → List OptionValue → Type 0
HasNoOffendingOptionByOutputLength too_long values =
    (before : List OptionValue) (v : OptionValue) (after : List OptionValue)
    → values ≡ before ++ v ∷ after → offends too_long before v ≡ false

-- the first of these values of `-I` that offends (is refused) is at this place of the command line
pub record IsFirstOffencePlaceByOutputLength (too_long : Bool) (values : List OptionValue)
    (place : ℕ) : Type 0 where
  -- the values of options before the first one that is refused
  pub before : List OptionValue
  -- the value that is refused
  pub value : OptionValue
  -- the values of options after it
  pub after : List OptionValue
  -- these are all values, in their order
  pub located : values ≡ before ++ value ∷ after
  -- the refused value is at the reported place of the command line
  pub reported : value.place ≡ place
  -- the value is refused, given the values before it
  pub offends : offends too_long before value ≡ true
  -- none of the values before it is refused
  pub first : HasNoOffendingOptionByOutputLength too_long before
