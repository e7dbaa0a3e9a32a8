-- If a test fails, the read has returned this fault.
use Rattle.std.proofs.Common.{Err, subst}
use Rattle.package_reader.specs.FileReading.{IsTestedReturn}
use Rattle.package_reader.specs.declared.piece.PieceFault.{PieceFault}
use Rattle.package_reader.proofs.one_file.FilePieces.next_piece.Goals as goal

pub returns-in-Err-Bad-clause-tested : goal.returns-in-Err-Bad-clause-tested
returns-in-Err-Bad-clause-tested g c = λ so_far returned.
    subst (λ (f : PieceFault). IsTestedReturn c.args.self.now so_far c.read_next.new.piece (Err f) c.read_next.new.self) c.in-Err-Bad.field-0-is (c.in-Err-Bad.ensures.tested so_far returned)

pub returns-in-Err-Bad-clause-left : goal.returns-in-Err-Bad-clause-left
returns-in-Err-Bad-clause-left g c = tt
