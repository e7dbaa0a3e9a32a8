-- The file of a script (apk(8), `mkpkg`).
-- The rule is in `docs/commands.md`, "`mkpkg`": TYPE of `-s`, and FILE is read whole. Serves
-- the law `a_made_package_has_its_scripts`.
use Rattle.std.specs.Prelude.{◌≡◌, ◌⊎◌, ℕ, List, Some}
use Rattle.make_core.specs.adb_fields.FirstPair.{IsIn}
use Rattle.adb_view.specs.declared.tables.Which.TheVariants.{Package, Scripts}
use Rattle.adb_view.specs.Plain.{Plain, null, blob_or_null}
use Rattle.command_core.specs.Files.{without_one_leading_dot_slash}
use Rattle.command_core.specs.Values.{script_file, script_type}
use Rattle.command_core.specs.declared.values.OptionValue.{OptionValue}
use Rattle.make_core.specs.make_info.Reads.{Reads}
use Rattle.definition_laws.specs.making.NamedFields.{field_named}
use Rattle.std.specs.Prelude.{codes}

-- an option gives a script of this type, and a read finds its file with these bytes
pub record IsGivenScript (read : Reads) (options : List OptionValue) (type bytes : List ℕ) :
    Type 0 where
  -- the option that names the script
  pub option : OptionValue
  -- the option is one of the given values of `-s`
  pub given : IsIn option options
  -- the option gives a script of this type
  pub of_type : script_type option.text ≡ type
  -- the number of the read
  pub number : ℕ
  -- this read of the script's file finds these bytes
  pub found : read number (without_one_leading_dot_slash (script_file option.text)) ≡ Some bytes

-- no option gives a script of this type
abbrev pub IsNotGiven : List OptionValue → List ℕ → Type 0
IsNotGiven options type =
    (option : OptionValue) → IsIn option options → script_type option.text ≡ type → ⊥

-- `script`, the script of this type in a package, has the bytes of a script of the type that the options
-- give, or is Null if they give none
abbrev pub IsScriptOfOptionsOrNull : Reads → List OptionValue → List ℕ → Plain → Type 0
IsScriptOfOptionsOrNull read options type script =
    ((bytes : List ℕ) × IsGivenScript read options type bytes × (script ≡ blob_or_null bytes))
    ⊎ (IsNotGiven options type × (script ≡ null))

-- the script of this type in a package; Null if it has none
abbrev pub script_named : List ℕ → Plain → Plain
script_named type pkg = field_named Scripts type (field_named Package (codes "scripts") pkg)
