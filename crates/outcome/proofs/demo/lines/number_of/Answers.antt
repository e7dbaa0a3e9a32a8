use Rattle.std.proofs.Common.{◌≡◌, false, ◌∙◌}
use Rattle.std.proofs.lemmas.Bool.{false≢true}
use Rattle.std.proofs.lemmas.Str.{IsUtf8-from_ascii}
use Rattle.command_core.specs.Operands.{is_demo_number}
use Rattle.command_core.proofs.Numbers.{decimal_digits, digits_ascii, too_large}
use Rattle.outcome.proofs.DemoNumbers.{number_decimal}
use Rattle.outcome.proofs.demo.lines.number_of.Goals as goal

pub unreachable-requires : goal.unreachable-requires
unreachable-requires c =
    let none : false ≡ is_demo_number c.args.text.now = too_large c.args.text.now c.in-Err-parse.field-0 (number_decimal c.args.text.now c.requires) (rw c.in-Ok.ensures.cases.0 at c.in-Err-parse.ensures.value.0) in
    false≢true (none ∙ c.requires)

pub unreachable-requires-in-Err : goal.unreachable-requires-in-Err
unreachable-requires-in-Err c = c.in-Err.ensures.cases.0 (IsUtf8-from_ascii c.args.text.now (digits_ascii c.args.text.now (decimal_digits c.args.text.now (number_decimal c.args.text.now c.requires))))
