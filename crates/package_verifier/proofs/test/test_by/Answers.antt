-- No other test of a package is that of its schema.
use Rattle.package_verifier.proofs.WholeTested.{said_bad}
use Rattle.package_verifier.proofs.test.test_by.Goals as goal

pub returns-in_default : goal.returns-in_default
returns-in_default c = λ file first. said_bad c.args.cause file (λ found is. c.in_default.not-WrongSchema found is) first
