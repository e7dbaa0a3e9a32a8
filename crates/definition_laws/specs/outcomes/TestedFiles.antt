-- Which files `verify` accepts. The rules are in `docs/commands.md`, "`verify FILE..`", and the tests
-- in `docs/formats.md`, "Tests of a container". Serves the laws of `src/verify.rt`.
use Rattle.std.specs.Prelude.{◌≡◌, ◌<◌, ℕ, List, Option, Some, None, slice_get}
use Rattle.base_core.specs.declared.cause.Cause.{Cause}
use Rattle.command_core.specs.Files.{without_one_leading_dot_slash}
use Rattle.command_core.specs.declared.operands.Operand.{Operand}
use Rattle.definition_laws.specs.containers.TestsInOrder.{IsContainerFault, PassesEveryContainerTest}
use Rattle.outcome.specs.make_info.Reads.{Reads}
use Rattle.report_core.specs.declared.refusal.Refusal.{Refusal}
use Rattle.report_core.specs.declared.refusal.Refusal.TheVariants.{FileBad, FileMissing}

-- a file was found, and passes every test of a container
pub record IsFoundSound (found : Option (List ℕ)) : Type 0 where
  -- the bytes of the file
  pub file : List ℕ
  -- the file was found with these bytes
  pub is : found ≡ Some file
  -- the bytes pass every test of a container
  pub passes : PassesEveryContainerTest file

-- if there is an operand with index i, counted from 0, read number i finds under its name a file that passes every test
abbrev pub IsOperandSound : Reads → List Operand → ℕ → Type 0
IsOperandSound read operands i =
    (o : Operand) → slice_get operands i ≡ Some o
    → IsFoundSound (read i (without_one_leading_dot_slash o.text))

-- the files of all operands pass every test
abbrev pub AreFilesSound : Reads → List Operand → Type 0
AreFilesSound read operands = (i : ℕ) → IsOperandSound read operands i

-- the refusal of what was found for the operand at this place of the command line: the file is absent, or fails a test,
-- whose cause is reported
abbrev pub IsFileRefusal : Option (List ℕ) → ℕ → Refusal → Type 0
IsFileRefusal None place refusal = refusal ≡ FileMissing place
IsFileRefusal (Some file) place refusal =
    (cause : Cause) × IsContainerFault file cause × (refusal ≡ FileBad place cause)

-- the refusal is that of the file of one operand, and the files before it pass every test
pub record IsRefusalOfFirstUnsoundFile (read : Reads) (operands : List Operand)
    (refusal : Refusal) : Type 0 where
  -- the index of the operand, counted from 0
  pub number : ℕ
  -- the operand with this index
  pub operand : Operand
  -- the operand has this index among all operands
  pub at : slice_get operands number ≡ Some operand
  -- the refusal is that of the file under this operand
  pub refused : IsFileRefusal
      (read number (without_one_leading_dot_slash operand.text)) operand.place refusal
  -- the file of each operand before it passes every test
  pub earlier : (i : ℕ) → i < number → IsOperandSound read operands i
