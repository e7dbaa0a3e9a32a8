-- The next bytes of the file that is open.
use Rattle.std.proofs.Common.{◌≡◌, None, sym, ◌∙◌, arith}
use Rattle.package_reader.specs.Opened.{AreUnreadBytes}
use Rattle.package_reader.proofs.FileRead.{ends_within, gives_fault, gives_piece, tested_fault, tested_piece}
use Rattle.package_reader.specs.declared.piece.PieceFault.TheVariants.{Disk as DiskFault}
use Rattle.pkg_core.proofs.SeenBytes.{reads_err, reads_ok}
use Rattle.package_reader.proofs.one_file.FilePieces.read_next.Goals as goal

pub next_piece-requires : goal.next_piece-requires
next_piece-requires g c =
    let within = ends_within c.args.self.now.opened c.in-Some.file c.args.self.now.len (sym c.take.ensures.value ∙ c.in-Some.is) c.args.self.now.within in
    omega (arith, within)

pub returns-in_err-_part-clause-piece : goal.returns-in_err-_part-clause-piece
returns-in_err-_part-clause-piece g c =
    let opened = sym c.take.ensures.value ∙ c.in-Some.is in
    gives_fault _ c.args.self.now (λ pkg further. (c.args.self.now.refused ≡ None) × AreUnreadBytes c.take.new.self pkg further) c.in-Some.file c.next_piece.new.piece c.in_err-_part.field-0.0 _ opened (c.args.self.now.more c.in-Some.file opened) c.from_residual.ensures.1 c.in_err-_part.ensures.seen c.in_err-_part.ensures.piece

pub returns-clause-piece : goal.returns-clause-piece
returns-clause-piece g c =
    let opened = sym c.take.ensures.value ∙ c.in-Some.is in
    gives_piece _ c.args.self.now _ c.in-Some.file c.in_ok-_part.rest c.next_piece.new.piece c.in_ok-_part._part opened (c.args.self.now.more c.in-Some.file opened) (λ pkg further come. (c.requires, come)) (c.in_ok-_part.ensures.seen tt) c.in_ok-_part.ensures.piece c.in_ok-_part.ensures.all c.in_ok-_part.ensures.part c.in_ok-_part.ensures.room

pub returns-in_err-_part-clause-tested : goal.returns-in_err-_part-clause-tested
returns-in_err-_part-clause-tested g c = λ so_far returned.
    let opened = sym c.take.ensures.value ∙ c.in-Some.is in
    let old = c.args.self.now in
    tested_fault old _ c.in-Some.file so_far c.next_piece.new.piece c.in_err-_part.field-0.0 _ c.requires opened (old.same c.in-Some.file opened) (old.more c.in-Some.file opened) c.from_residual.ensures.1 c.in_err-_part.ensures.digest returned

pub returns-clause-tested : goal.returns-clause-tested
returns-clause-tested g c = λ so_far returned.
    let opened = sym c.take.ensures.value ∙ c.in-Some.is in
    let old = c.args.self.now in
    (c.requires, tested_piece old c.in-Some.file c.in_ok-_part.rest so_far c.next_piece.new.piece c.in_ok-_part._part c.requires opened (old.same c.in-Some.file opened) (old.more c.in-Some.file opened) c.in_ok-_part.ensures.digest returned)

pub returns-in_err-_part-clause-tree : goal.returns-in_err-_part-clause-tree
returns-in_err-_part-clause-tree g c =
    let within = ends_within c.args.self.now.opened c.in-Some.file c.args.self.now.len (sym c.take.ensures.value ∙ c.in-Some.is) c.args.self.now.within in
    reads_err _ _ DiskFault _ _ _ _ c.in_err-_part.field-0.0 _ c.from_residual.ensures.1 (c.in_err-_part.ensures.tree c.args.self.now.len within)

pub returns-clause-tree : goal.returns-clause-tree
returns-clause-tree g c =
    let within = ends_within c.args.self.now.opened c.in-Some.file c.args.self.now.len (sym c.take.ensures.value ∙ c.in-Some.is) c.args.self.now.within in
    reads_ok _ _ DiskFault _ _ _ _ _ _ (c.in_ok-_part.ensures.tree c.args.self.now.len within)
