use Rattle.std.proofs.Common.{◌≡◌, true, sym, ◌∙◌}
use Rattle.std.proofs.lemmas.Str.{IsUtf8-from_ascii}
use Rattle.command_core.specs.Operands.{is_decimal_without_leading_zeros}
use Rattle.command_core.proofs.Numbers.{decimal_digits, digits_ascii}
use Rattle.make_info.proofs.Numbers.{parsed_number}
use Rattle.make_info.proofs.field.read_number.Goals as goal

pub returns-in-Ok : goal.returns-in-Ok
returns-in-Ok c =
    let good : is_decimal_without_leading_zeros c.args.digits.now ≡ true = sym c.if-not-is_decimal_without_leading_zeros.ensures in
    c.ok.ensures.value
    ∙ parsed_number c.args.digits.now c.parse.result good (rw c.in-Ok.ensures.cases.0 at c.parse.ensures.value.0)

pub returns-in-Err : goal.returns-in-Err
returns-in-Err c =
    let good : is_decimal_without_leading_zeros c.args.digits.now ≡ true = sym c.if-not-is_decimal_without_leading_zeros.ensures in
    absurd (c.in-Err.ensures.cases.0 (IsUtf8-from_ascii c.args.digits.now (digits_ascii c.args.digits.now (decimal_digits c.args.digits.now good))))
