-- Which scripts of a package have text. The rules are in `docs/commands.md`, "`add` and `del`", part "What is
-- refused"; the fields are in `docs/formats.md`, "Schemas", tables 6 and 7. Serves the laws of `src/scripts.rt`.
use Rattle.std.specs.Prelude.{◌≡◌, ◌≢◌, ◌-◌, ℕ, List, [], ◌∷◌, ◌++◌, codes}
use Rattle.adb_view.specs.Plain.{Plain}
use Rattle.adb_view.specs.Values.{entry_at_index, text_in}
use Rattle.adb_view.specs.declared.tables.Which.TheVariants.{Package}
use Rattle.base_core.specs.Lists.{IsIn}
use Rattle.definition_laws.specs.making.NamedFields.{field_named}
use Rattle.definition_laws.specs.making.ScriptFiles.{script_named}

-- the text of the script with this number in a package; empty if it has none. The number is the place of the script in
-- the field `scripts`, counted from 1
abbrev pub script_text_by_number : Plain → ℕ → List ℕ
script_text_by_number pkg number =
    text_in (entry_at_index (field_named Package (codes "scripts") pkg) (number - 1))

-- the text of the script with this name in a package, such as `trigger`; empty if it has none
abbrev pub script_text_by_name : Plain → List ℕ → List ℕ
script_text_by_name pkg name = text_in (script_named name pkg)

-- `number` is the first number of the list `numbers` whose script in the package has text
pub record IsFirstScriptNumberWithText (pkg : Plain) (numbers : List ℕ) (number : ℕ) : Type 0 where
  -- the numbers before this number in the list
  pub front : List ℕ
  -- the numbers after it
  pub rest : List ℕ
  -- these are all numbers of the list, in their order
  pub numbers_are : numbers ≡ front ++ number ∷ rest
  -- the script with this number has text
  pub text : script_text_by_number pkg number ≢ []
  -- no script with a number before it has text
  pub earlier : (m : ℕ) → IsIn m front → script_text_by_number pkg m ≡ []
