use Rattle.std.proofs.Common.{◌≡◌, true, sym, ◌∙◌}
use Rattle.std.proofs.lemmas.Str.{IsUtf8-from_ascii}
use Rattle.v2_core.specs.Accesses.{is_octal}
use Rattle.v2_core.proofs.Octal.{octal_ascii, octal_digits, parsed_octal}
use Rattle.v2_core.proofs.access.read_octal.Goals as goal

pub returns-in-Ok : goal.returns-in-Ok
returns-in-Ok c =
    let good : is_octal c.args.digits.now ≡ true = sym c.if-not-is_octal.ensures in
    c.ok.ensures.value
    ∙ parsed_octal c.args.digits.now c.from_str_radix.result good (rw c.in-Ok.ensures.cases.0 at c.from_str_radix.ensures.value)

pub returns-in-Err : goal.returns-in-Err
returns-in-Err c =
    let good : is_octal c.args.digits.now ≡ true = sym c.if-not-is_octal.ensures in
    absurd (c.in-Err.ensures.cases.0 (IsUtf8-from_ascii c.args.digits.now (octal_ascii c.args.digits.now (octal_digits c.args.digits.now good))))
