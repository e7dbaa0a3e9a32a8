-- Each byte of the run is a digit.
use Rattle.std.proofs.Common.{subst, sym}
use Rattle.version_core.specs.Reading.{AreDigits}
use Rattle.version_core.proofs.Runs.{digits_are_digits}
use Rattle.version_core.proofs.lexeme.leading_digits.Goals as goal

pub returns-clause-digits : goal.returns-clause-digits
returns-clause-digits c = subst AreDigits (sym c.leading_run.ensures) (digits_are_digits c.args.text.now)
