use Rattle.std.proofs.Common.{◌≡◌, true, sym}
use Rattle.std.proofs.lemmas.Str.{IsUtf8-from_ascii}
use Rattle.command_core.specs.Operands.{is_decimal_without_leading_zeros}
use Rattle.command_core.proofs.Numbers.{decimal_digits, digits_ascii, too_large}
use Rattle.command_core.proofs.texts.is_demo_number.Goals as goal

pub returns-in-Err-parse : goal.returns-in-Err-parse
returns-in-Err-parse c =
    let good : is_decimal_without_leading_zeros c.args.text.now ≡ true = sym c.if-not-is_decimal_without_leading_zeros.ensures in
    too_large c.args.text.now c.in-Err-parse.field-0 good (rw c.in-Ok.ensures.cases.0 at c.in-Err-parse.ensures.value.0)

pub returns-in-Err : goal.returns-in-Err
returns-in-Err c =
    let good : is_decimal_without_leading_zeros c.args.text.now ≡ true = sym c.if-not-is_decimal_without_leading_zeros.ensures in
    absurd (c.in-Err.ensures.cases.0 (IsUtf8-from_ascii c.args.text.now (digits_ascii c.args.text.now (decimal_digits c.args.text.now good))))
