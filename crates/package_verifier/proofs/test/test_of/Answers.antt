-- By what was read.
use Rattle.std.proofs.Common.{subst}
use Rattle.package_verifier.specs.Tested.{IsPackageReadResult}
use Rattle.package_verifier.proofs.WholeTested.{said_by, said_sound}
use Rattle.package_verifier.proofs.test.test_of.Goals as goal

pub returns-in-Sound : goal.returns-in-Sound
returns-in-Sound c = λ name found is. said_sound c.in-Sound.field-0 name found (subst (IsPackageReadResult name found) c.in-Sound.is is)

pub returns-in-Bad : goal.returns-in-Bad
returns-in-Bad c = λ name found is. said_by c.in-Bad.cause c.test_by.result name found c.test_by.ensures (subst (IsPackageReadResult name found) c.in-Bad.is is)
