-- A package that is read is of the file.
use Rattle.std.proofs.Common.{refl}
use Rattle.package_verifier.proofs.WholeTested.{is_tested}
use Rattle.package_verifier.proofs.read.read_by.Goals as goal

pub returns-in-Sound : goal.returns-in-Sound
returns-in-Sound c = λ pkg of whole. is_tested c.args.name pkg c.args.front _ c.args.test refl refl c.in-Sound.is of whole
