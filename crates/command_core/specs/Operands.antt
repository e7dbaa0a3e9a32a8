-- Operands: of which kind a text is, and which operands a rule takes. The rules are in
-- `docs/commands.md`, "Words", and for each applet in the section with its name; for a number in "`demo
-- N`".
use Rattle.std.specs.Prelude.{ℕ, ◌+◌, ◌==◌, nat_lt, nat_le, Bool, true, false, not, ◌&&◌, List, [], ◌∷◌, length, Option, Some, None, is_some, if◌then◌else◌}
use Rattle.std.specs.Char.{is_ascii_digit, is_ascii_graphic}
use Rattle.std.specs.List.{list_all}
use Rattle.std.specs.Str.Parse.{digits_value}
use Rattle.dep_core.specs.Dependency.{is_dependency_name_by_bytes_and_length, is_package_name}
use Rattle.dep_core.specs.Reading.{dependency_of}
use Rattle.command_core.specs.declared.operands.Operand.{Operand}
use Rattle.command_core.specs.declared.operands.OperandKind.{OperandKind}
use Rattle.command_core.specs.declared.operands.OperandKind.TheVariants.{File, Any, Dependency, DependencyName, PackageName, Path, Number, Pattern}
use Rattle.command_core.specs.declared.operands.OperandRule.{OperandRule}
use Rattle.command_core.specs.Files.{is_file_argument, is_name_with_optional_leading_slash}

-- the operand that a word at a place is; places count from 1
abbrev pub operand_at : ℕ → List ℕ → Operand
operand_at place word = record { place = place; text = word }

-- ---- kinds

-- whether a text begins with a zero (the byte 48) and goes on after it
abbrev pub has_superfluous_leading_zero : List ℕ → Bool
has_superfluous_leading_zero [] = false
has_superfluous_leading_zero (d ∷ ds) = (d == 48) && nat_lt 0 (length ds)

-- whether a text is a decimal number without leading zeros
abbrev pub is_decimal_without_leading_zeros : List ℕ → Bool
is_decimal_without_leading_zeros text =
    nat_lt 0 (length text) && not (has_superfluous_leading_zero text) && list_all is_ascii_digit text

-- the largest number of packages of `demo`
abbrev pub most_demo_packages : ℕ
most_demo_packages = 20000

-- whether a text is a number of packages for `demo`
abbrev pub is_demo_number : List ℕ → Bool
is_demo_number text =
    is_decimal_without_leading_zeros text && nat_lt 0 (digits_value 10 text)
    && nat_le (digits_value 10 text) most_demo_packages

-- whether a text is a pattern: one byte or more, each a visible ASCII character (0x21 to 0x7e)
abbrev pub is_pattern : List ℕ → Bool
is_pattern text = nat_lt 0 (length text) && list_all is_ascii_graphic text

-- whether a text can be an operand of this kind
abbrev pub is_operand_of_kind : OperandKind → List ℕ → Bool
is_operand_of_kind File text = is_file_argument text
is_operand_of_kind Any text = true
is_operand_of_kind Dependency text = is_some (dependency_of text)
is_operand_of_kind DependencyName text = is_dependency_name_by_bytes_and_length text
is_operand_of_kind PackageName text = is_package_name text
is_operand_of_kind Path text = is_name_with_optional_leading_slash text
is_operand_of_kind Number text = is_demo_number text
is_operand_of_kind Pattern text = is_pattern text

-- ---- rules

-- the rule that takes this number of operands of a kind, or more
abbrev pub at_least : ℕ → OperandKind → OperandRule
at_least least kind = record { kind = kind; least = least; most = None }

-- the rule that takes at most this number of operands of a kind
abbrev pub at_most : ℕ → OperandKind → OperandRule
at_most most kind = record { kind = kind; least = 0; most = Some most }

-- the rule that takes exactly this number of operands of a kind
abbrev pub exactly : ℕ → OperandKind → OperandRule
exactly count kind = record { kind = kind; least = count; most = Some count }

-- whether one more operand is allowed, by the limit (None: no limit) and the number of operands before it
abbrev pub allows_one_more_operand : Option ℕ → ℕ → Bool
allows_one_more_operand None before = true
allows_one_more_operand (Some most) before = nat_lt before most

-- whether a rule takes a text as an operand, if `before` operands precede it
abbrev pub takes : OperandRule → ℕ → List ℕ → Bool
takes rule before text = allows_one_more_operand rule.most before && is_operand_of_kind rule.kind text

-- the place of the first of these operands that a rule does not take; `before` operands precede the list. None if the
-- rule takes all of them
abbrev pub place_of_first_refused_operand : OperandRule → ℕ → List Operand → Option ℕ
place_of_first_refused_operand rule before [] = None
place_of_first_refused_operand rule before (operand ∷ operands) =
    if takes rule before operand.text then place_of_first_refused_operand rule (before + 1) operands else
    Some operand.place
