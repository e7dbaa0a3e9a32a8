-- `verify` tests containers. The rules are in `docs/commands.md`, "`verify FILE..`", and the tests in
-- `docs/formats.md`, "Tests of a container".
use Rattle.std.specs.Prelude.{ℕ, ◌+◌, List, [], ◌∷◌, ◌++◌, codes, Option, Some, None}
use Rattle.std.specs.Option.{option_or}
use Rattle.base_core.specs.Files.{Files}
use Rattle.base_core.specs.declared.cause.Cause.{Cause}
use Rattle.make_core.specs.make_info.Reads.{Reads}
use Rattle.report_core.specs.declared.refusal.Refusal.{Refusal}
use Rattle.report_core.specs.declared.refusal.Refusal.TheVariants.{FileMissing, FileBad}
use Rattle.command_core.specs.Files.{without_one_leading_dot_slash}
use Rattle.command_core.specs.declared.operands.Operand.{Operand}
use Rattle.make_core.specs.pkg_core.Whole.{container_fault}
use Rattle.outcome.specs.Outcome.{Outcome, just_report_unless_refusal}

-- the refusal of the file at this place of the command line, if it fails a test with a cause
abbrev pub refusal_if_file_bad : ℕ → Option Cause → Option Refusal
refusal_if_file_bad place None = None
refusal_if_file_bad place (Some cause) = Some (FileBad place cause)

-- the refusal of what a read finds for the argument at this place, if it is absent or no sound container
abbrev pub file_refusal : ℕ → Option (List ℕ) → Option Refusal
file_refusal place None = Some (FileMissing place)
file_refusal place (Some bytes) = refusal_if_file_bad place (container_fault bytes)

-- the refusal of the first missing or bad file, operand by operand; the file of the first operand is read number `n`
abbrev pub verify_refusal_from_read_number : Reads → ℕ → List Operand → Option Refusal
verify_refusal_from_read_number read n [] = None
verify_refusal_from_read_number read n (o ∷ operands) =
    option_or (file_refusal o.place (read n (without_one_leading_dot_slash o.text)))
    (verify_refusal_from_read_number read (n + 1) operands)

-- the line `FILE: OK` that is printed for a sound file with this name
abbrev pub sound_line : List ℕ → List ℕ
sound_line file = file ++ codes ": OK\n"

-- the report if all files are sound: a line for each operand
abbrev pub sound_lines : List Operand → List ℕ
sound_lines [] = []
sound_lines (o ∷ operands) = sound_line (without_one_leading_dot_slash o.text) ++ sound_lines operands

-- the outcome of `verify`: a line for each file, unless one is refused
abbrev pub verify : Reads → Files → List Operand → Outcome
verify read files operands =
    just_report_unless_refusal files (verify_refusal_from_read_number read 0 operands)
    (sound_lines operands)
