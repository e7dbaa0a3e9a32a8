use Rattle.std.proofs.Common.{arith}
use Rattle.version_core.proofs.HashDigits.{comes_on, no_digit_on}
use Rattle.version_core.proofs.overlapping.place_after_lexeme.Goals as goal

pub returns-then-digits-gt0-clause-some : goal.returns-then-digits-gt0-clause-some
returns-then-digits-gt0-clause-some c =
    comes_on c.args.bytes.now c.args.place c.args.end c.min-len.result c.unread_digits-digits.result (omega (arith, c.requires.order, c.min-len.ensures)) c.unread_digits-digits.ensures (omega (arith, c.if-digits-gt0.true))

pub place_after_token-requires-clause-none : goal.place_after_token-requires-clause-none
place_after_token-requires-clause-none c =
    no_digit_on c.args.bytes.now c.args.place c.args.end c.min-len.result c.unread_digits-digits.result (omega (arith, c.requires.order, c.min-len.ensures)) c.unread_digits-digits.ensures (omega (arith, c.if-digits-gt0.false))
