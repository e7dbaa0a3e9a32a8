-- The number of packages that `demo` makes. The rule is in `docs/commands.md`, "`demo N`".
use Rattle.std.specs.Prelude.{ℕ, List, [], ◌∷◌}
use Rattle.std.specs.Str.Parse.{digits_value}
use Rattle.command_core.specs.declared.operands.Operand.{Operand}

-- the number of the first operand; the grammar gives exactly one
abbrev pub demo_count : List Operand → ℕ
demo_count [] = 0
demo_count (o ∷ operands) = digits_value 10 o.text
