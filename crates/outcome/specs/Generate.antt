-- `adbgen`: a dump text is turned into a container. The rules are in `docs/commands.md`,
-- "`adbgen FILE`", and in `docs/formats.md`, "Dump text".
use Rattle.std.specs.Prelude.{ℕ, List, [], ◌∷◌, Option, Some, None, Result, Ok, Err}
use Rattle.base_core.specs.Files.{Files}
use Rattle.command_core.specs.Files.{without_one_leading_dot_slash}
use Rattle.command_core.specs.declared.operands.Operand.{Operand}
use Rattle.gen_core.specs.Generated.{generated_file}
use Rattle.gen_core.specs.declared.generate.GenFault.{GenFault}
use Rattle.gen_core.specs.declared.generate.GenFault.TheVariants.{Bad, TooLarge, Memory}
use Rattle.make_core.specs.make_info.Reads.{Reads}
use Rattle.report_core.specs.declared.refusal.Refusal.TheVariants.{FileMissing, ResultTooLarge, TextBad}
use Rattle.outcome.specs.Outcome.{Outcome, just_refusal, just_report}

-- the outcome with the generated container as its report, or with a refusal: of the operand at this place, for the
-- first bad line of its text; or of a container that is too large, with its counts of bytes and values
abbrev pub container_outcome : Files → ℕ → Result (List ℕ) GenFault → Outcome
container_outcome files place (Ok file) = just_report files file
container_outcome files place (Err (Bad line)) = just_refusal files (TextBad place line)
container_outcome files place (Err (TooLarge bytes values)) =
    just_refusal files (ResultTooLarge bytes values)
-- never the case: *generated_file* never runs out of memory
container_outcome files place (Err Memory) = just_report files []

-- the outcome of `adbgen`, given the file that a read finds for the argument at this place of the command line, or None
abbrev pub generate_outcome : Files → ℕ → Option (List ℕ) → Outcome
generate_outcome files place None = just_refusal files (FileMissing place)
generate_outcome files place (Some text) = container_outcome files place (generated_file text)

-- the outcome of `adbgen`: the container of the first operand's text; the grammar allows exactly one operand
abbrev pub adbgen : Reads → Files → List Operand → Outcome
adbgen read files [] = just_report files []
adbgen read files (o ∷ operands) =
    generate_outcome files o.place (read 0 (without_one_leading_dot_slash o.text))
