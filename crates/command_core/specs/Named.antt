-- The names of operands and values that are files. The rule is in `docs/commands.md`, "Words", the last
-- paragraph. Serves the law `file_operands_are_files` and the functions that return a name
-- (`Operands::file`, `Values::first_file`, `Values::script_file`).
use Rattle.std.specs.Prelude.{ℕ, ◌==◌, Bool, List, Option, Some, None, if◌then◌else◌}
use Rattle.std.specs.List.{list_all}
use Rattle.command_core.specs.declared.operands.Operand.{Operand}
use Rattle.command_core.specs.declared.values.OptionValue.{OptionValue}
use Rattle.command_core.specs.declared.values.TheConstants.{SCRIPT}
use Rattle.command_core.specs.Files.{is_file_argument, without_one_leading_dot_slash}
use Rattle.command_core.specs.Values.{script_file}

-- the name of the file that a text names, without one leading `./`; None if the text can name no file
abbrev pub file_name : List ℕ → Option (List ℕ)
file_name text = if is_file_argument text then Some (without_one_leading_dot_slash text) else None

-- the name of the file that an operand names: its text without one leading `./`
abbrev pub operand_file : Operand → List ℕ
operand_file operand = without_one_leading_dot_slash operand.text

-- whether each operand can name a file
abbrev pub are_files : List Operand → Bool
are_files operands = list_all (λ (o : Operand). is_file_argument o.text) operands

-- the part of an option's value that may name a file, by the letter of the option: in a value TYPE:FILE of `--script`
-- the part after the first `:`, in a value of another option the whole text
abbrev pub file_part_of_value : ℕ → List ℕ → List ℕ
file_part_of_value letter text = if letter == SCRIPT then script_file text else text

-- the name of the file in an option's value; None if the value can name no file
abbrev pub file_in : OptionValue → Option (List ℕ)
file_in v = file_name (file_part_of_value v.letter v.text)
