-- The file that is open is the next one.
use Rattle.std.proofs.Common.{ap, sym, ◌∙◌}
use Rattle.package_reader.specs.Readers.{files_to_read_in}
use Rattle.package_reader.proofs.FileOpened.{opens_end, opens_file, opens_none}
use Rattle.package_reader.proofs.FileRead.{ends_within}
use Rattle.pkg_core.proofs.ReadCalls.{nothing_read}
use Rattle.pkg_core.proofs.SeenBytes.{reads_err, reads_ok}
use Rattle.package_reader.specs.declared.piece.PieceFault.TheVariants.{Disk as DiskFault}
use Rattle.package_reader.proofs.BlockSeen.{not_ok}
use Rattle.package_reader.proofs.Readings.{open_already, start_found, start_kept}
use Rattle.package_reader.proofs.reader.PieceReader.open_next.Goals as goal

pub returns-in-Some-clause-file : goal.returns-in-Some-clause-file
returns-in-Some-clause-file g c = open_already (g.T.Tree.history c.args.tree.now) c.args.self.now c.in-Some.file (sym c.take.ensures.value ∙ c.in-Some.is)

pub returns-in-Some-clause-opens : goal.returns-in-Some-clause-opens
returns-in-Some-clause-opens g c = ap (files_to_read_in c.args.self.now.place) (sym c.take.ensures.value ∙ c.in-Some.is)

pub returns-in-Some-clause-room : goal.returns-in-Some-clause-room
returns-in-Some-clause-room g c =
    let opened = sym c.take.ensures.value ∙ c.in-Some.is in
    ends_within c.args.self.now.opened c.in-Some.file c.args.self.now.place.at opened c.args.self.now.behind

pub returns-in-Some-clause-start : goal.returns-in-Some-clause-start
returns-in-Some-clause-start g c = start_kept c.args.self.now c.in-Some.file (sym c.take.ensures.value ∙ c.in-Some.is)

pub returns-in_err-found-clause-opens : goal.returns-in_err-found-clause-opens
returns-in_err-found-clause-opens g c = not_ok _ _ c.in_err-found.field-0.0 c.from_residual.ensures.1

pub returns-in_err-found-clause-room : goal.returns-in_err-found-clause-room
returns-in_err-found-clause-room g c = not_ok _ _ c.in_err-found.field-0.0 c.from_residual.ensures.1

pub returns-in_err-found-clause-start : goal.returns-in_err-found-clause-start
returns-in_err-found-clause-start g c = not_ok _ _ c.in_err-found.field-0.0 c.from_residual.ensures.1

pub returns-in_err-found-clause-tree : goal.returns-in_err-found-clause-tree
returns-in_err-found-clause-tree g c = reads_err _ _ DiskFault _ _ _ _ c.in_err-found.field-0.0 _ c.from_residual.ensures.1 c.in_err-found.ensures.tree

pub returns-clause-start : goal.returns-clause-start
returns-clause-start g c = start_found c.args.self.now c.in-Some-2.found (sym c.take.ensures.value ∙ c.in_default.is)

pub returns-in_err-found-clause-file : goal.returns-in_err-found-clause-file
returns-in_err-found-clause-file g c = opens_none _ c.args.self.now _ _ c.from_residual.result c.from_residual.ensures.1 (sym c.take.ensures.value ∙ c.in_default.is) c.in_err-found.ensures.file

pub returns-in-Some-clause-tree : goal.returns-in-Some-clause-tree
returns-in-Some-clause-tree g c = nothing_read _ _ DiskFault _ _ _

pub returns-in_default-2-clause-file : goal.returns-in_default-2-clause-file
returns-in_default-2-clause-file g c = opens_end _ c.args.self.now c.next_file.new.place (sym c.take.ensures.value ∙ c.in_default.is) (rw c.in_default-2.is at c.in_ok-found.ensures.file)

pub returns-in_default-2-clause-opens : goal.returns-in_default-2-clause-opens
returns-in_default-2-clause-opens g c = ap (files_to_read_in c.args.self.now.place) (sym c.take.ensures.value ∙ c.in_default.is) ∙ (rw c.in_default-2.is at c.in_ok-found.ensures.walk)

pub returns-in_default-2-clause-tree : goal.returns-in_default-2-clause-tree
returns-in_default-2-clause-tree g c = reads_ok _ _ DiskFault _ _ _ _ _ _ c.in_ok-found.ensures.tree

pub returns-clause-file : goal.returns-clause-file
returns-clause-file g c = opens_file _ c.args.self.now c.next_file.new.place c.in-Some-2.found (sym c.take.ensures.value ∙ c.in_default.is) (rw c.in-Some-2.is at c.in_ok-found.ensures.file)

pub returns-clause-opens : goal.returns-clause-opens
returns-clause-opens g c = ap (files_to_read_in c.args.self.now.place) (sym c.take.ensures.value ∙ c.in_default.is) ∙ (rw c.in-Some-2.is at c.in_ok-found.ensures.walk)

pub returns-clause-room : goal.returns-clause-room
returns-clause-room g c = rw c.in-Some-2.is at c.in_ok-found.ensures.room

pub returns-clause-tree : goal.returns-clause-tree
returns-clause-tree g c = reads_ok _ _ DiskFault _ _ _ _ _ _ c.in_ok-found.ensures.tree
