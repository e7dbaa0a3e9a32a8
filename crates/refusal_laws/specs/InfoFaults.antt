-- Why `info` is refused: reasons 2 and 3 of `docs/commands.md`, "`info`", part "What is refused". `audit` and
-- `manifest` are refused for the same faults of the database, and `manifest` for the same fault of an operand.
use Rattle.std.specs.Prelude.{◌≡◌, ◌⊎◌, ℕ, Bool, true, false, List, ◌∷◌, ◌++◌, Ok}
use Rattle.outcome.specs.adb_fields.FirstPair.{IsIn}
use Rattle.outcome.specs.adb_fields.Repeated.{package_name, paths_of_package_files}
use Rattle.adb_view.specs.Plain.{Plain}
use Rattle.outcome.specs.change_inputs.Database.{Database}
use Rattle.outcome.specs.change_inputs.Inputs.{database_for}
use Rattle.command_core.specs.Command.{CommandLine}
use Rattle.command_core.specs.declared.operands.Operand.{Operand}
use Rattle.dep_core.specs.LeadingSlash.{without_leading_slash}
use Rattle.outcome.specs.make_info.Reads.{Reads}
use Rattle.report_core.specs.declared.refusal.Refusal.{Refusal}
use Rattle.report_core.specs.declared.refusal.Refusal.TheVariants.{DatabaseBad, NoDatabase, NotInstalled, ResultTooLarge}
use Rattle.outcome.specs.v2_core.declared.read.V2Fault.TheVariants.{Bad, TooLarge}
use Rattle.refusal_laws.specs.InputFaults.{IsDatabaseAbsentAndInitdbNotGiven, IsDatabaseContainerBad, IsTextDatabaseRefused}

-- ---- the database

-- a refusal of the database is true: there is none, or it fails a test, or the text database is too large
abbrev pub IsFaultOfDatabase : CommandLine → Reads → Refusal → Type 0
IsFaultOfDatabase command read NoDatabase = IsDatabaseAbsentAndInitdbNotGiven command read
IsFaultOfDatabase command read (DatabaseBad cause) =
    IsDatabaseContainerBad read cause ⊎ IsTextDatabaseRefused read (Bad cause)
IsFaultOfDatabase command read (ResultTooLarge bytes values) =
    IsTextDatabaseRefused read (TooLarge bytes values)
IsFaultOfDatabase command read other = ⊥

-- ---- the operands

-- a text asks for this package: with `--who-owns` (true) the package lists the path, of which one leading `/` is
-- dropped; otherwise it has the name
abbrev pub IsPackageAskedFor : Bool → List ℕ → Plain → Type 0
IsPackageAskedFor true path pkg = IsIn (without_leading_slash path) (paths_of_package_files pkg)
IsPackageAskedFor false name pkg = package_name pkg ≡ name

-- what the text of an operand asks for is among these installed packages
abbrev pub IsFoundInstalled : CommandLine → List Plain → List ℕ → Type 0
IsFoundInstalled command packages text =
    (pkg : Plain) × IsIn pkg packages × IsPackageAskedFor command.flags.who_owns text pkg

-- what each of these operands asks for is among these installed packages
abbrev pub AreFoundInstalled : CommandLine → List Plain → List Operand → Type 0
AreFoundInstalled command packages operands =
    (o : Operand) → IsIn o operands → IsFoundInstalled command packages o.text

-- a refusal is *NotInstalled* with the place of the command's first operand that asks for what is not installed
pub record IsFirstNotInstalled (command : CommandLine) (packages : List Plain)
    (refusal : Refusal) : Type 0 where
  -- the operands of the command: those before the refused one, this one, and those after it
  pub before : List Operand
  pub operand : Operand
  pub after : List Operand
  pub are : command.operands ≡ before ++ operand ∷ after
  -- what each operand before the refused one asks for is installed
  pub installed : AreFoundInstalled command packages before
  -- what the refused operand asks for is not installed
  pub missing : ¬ IsFoundInstalled command packages operand.text
  -- the refusal reports the place of the refused operand
  pub told : refusal ≡ NotInstalled operand.place

-- ---- a refusal

-- the database is read, and the refusal is that of an operand which asks for what the database does not have
pub record IsFaultOfFirstOperandNotFoundInstalled (command : CommandLine) (read : Reads)
    (refusal : Refusal) : Type 0 where
  -- the database that the command reads
  pub database : Database
  pub is_database : database_for command read ≡ Ok database
  -- the refusal is that of the first operand that asks for what is not installed
  pub first : IsFirstNotInstalled command database.packages refusal

-- a refusal of `info` is true: of the database; or, if the database is read, of an operand
abbrev pub IsFaultOfInfo : CommandLine → Reads → Refusal → Type 0
IsFaultOfInfo command read refusal =
    IsFaultOfDatabase command read refusal ⊎ IsFaultOfFirstOperandNotFoundInstalled command read refusal

-- the database is read, and what each operand of the command asks for is in it
pub record AreOperandsFoundInstalled (command : CommandLine) (read : Reads) : Type 0 where
  -- the database that the command reads
  pub database : Database
  pub is_database : database_for command read ≡ Ok database
  -- what each operand asks for is among the packages of the database
  pub installed : AreFoundInstalled command database.packages command.operands
