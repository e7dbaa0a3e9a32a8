-- At most seventeen digits precede the one that is added, so that nothing wraps.
use Rattle.std.proofs.Common.{get_or, arith}
use Rattle.std.proofs.lemmas.Int.Digits.{digits_value_more, digits_more}
use Rattle.version_core.proofs.Digits.{digit_bounds, digit_value-digit, few_digits}
use Rattle.version_core.proofs.lexeme.value_of.Goals as goal

pub overflow_mul-number : goal.overflow_mul-number
overflow_mul-number c =
    let few = few_digits c.args.digits.now c.loop-digit.digit-index c.requires.few c.loop-digit-test.true c.loop-digit.invariant.all in
    omega (arith, few, c.loop-digit.invariant.value)

pub overflow_add-number : goal.overflow_add-number
overflow_add-number c =
    let few = few_digits c.args.digits.now c.loop-digit.digit-index c.requires.few c.loop-digit-test.true c.loop-digit.invariant.all in
    let digit = digit_bounds (get_or c.args.digits.now c.loop-digit.digit-index 0) (c.requires.digits c.loop-digit.digit-index c.loop-digit-test.true) in
    omega (arith, few, digit, c.loop-digit.invariant.value, c.from.ensures)

pub loop-digit-preserved : goal.loop-digit-preserved
loop-digit-preserved c =
    let digit = digit_bounds (get_or c.args.digits.now c.loop-digit.digit-index 0) (c.requires.digits c.loop-digit.digit-index c.loop-digit-test.true) in
    let value = digit_value-digit (get_or c.args.digits.now c.loop-digit.digit-index 0) digit.0 digit.1 in
    let more = digits_value_more 10 c.args.digits.now c.loop-digit.digit-index c.loop-digit-test.true in
    record {
      value = omega (arith, value, more, c.loop-digit.invariant.value, c.from.ensures);
      all = digits_more 10 c.args.digits.now c.loop-digit.digit-index c.loop-digit-test.true c.loop-digit.invariant.all (omega (arith, value, digit));
    }
