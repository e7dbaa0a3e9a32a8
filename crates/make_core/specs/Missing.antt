-- The option at which a missing file is reported.
-- The rules are in `docs/commands.md`, "`mkpkg`" (`word N: no such file`), and in `docs/DECISIONS.md`,
-- "Making" (a file that was listed below the folder of `-F` and is then not found). It serves the law
-- `a_missing_file_is_reported_at_its_option`.
use Rattle.std.specs.Prelude.{◌≡◌, ℕ, List, ◌∷◌, None, Contains}
use Rattle.command_core.specs.Files.{without_one_leading_dot_slash}
use Rattle.command_core.specs.Values.{script_file}
use Rattle.command_core.specs.declared.values.OptionValue.{OptionValue}
use Rattle.make_info.specs.Reads.{Reads}

-- some read finds no file under the name
abbrev pub IsAbsent : Reads → List ℕ → Type 0
IsAbsent read name = (n : ℕ) × (read n name ≡ None)

-- the place is that of a value of `-s` whose file is absent
pub record IsPlaceOfScriptOptionWithoutFile (read : Reads) (scripts : List OptionValue)
    (place : ℕ) : Type 0 where
  -- the option that names the script's file
  pub script : OptionValue
  -- the option is one of the given values of `-s`
  pub given : Contains scripts script
  -- the option is at this place of the command line
  pub at : script.place ≡ place
  -- a read of the script's file finds nothing
  pub absent : IsAbsent read (without_one_leading_dot_slash (script_file script.text))

-- the place is that of the first `-F`, and one of the files that were listed below its folder is absent
pub record IsPlaceOfFolderWithMissingFile (read : Reads) (folders : List OptionValue)
    (names : List (List ℕ))
    (place : ℕ) : Type 0 where
  -- the first option that names a folder
  pub folder : OptionValue
  -- the other options that name a folder
  pub others : List OptionValue
  -- all options that name a folder, in their order
  pub given : folders ≡ folder ∷ others
  -- the first option is at this place of the command line
  pub at : folder.place ≡ place
  -- the name of the absent file
  pub name : List ℕ
  -- the name is one of the listed names
  pub listed : Contains names name
  -- some read of this file finds nothing
  pub absent : IsAbsent read name
