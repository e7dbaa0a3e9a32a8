-- Piece by piece.
use Rattle.std.proofs.Common.{◌≡◌, ◌+◌, ◌≤◌, ap, refl, sym, subst, ◌∙◌, Some, None, Ok, Err, List, ℕ, arith}
use Rattle.base_core.specs.declared.cause.Cause.{Cause}
use Rattle.base_core.specs.declared.tree.TreeFault.TheVariants.{Disk as DiskFault, Memory}
use Rattle.adb_block.specs.Reading.{block_stream_from}
use Rattle.package_reader.specs.pkg_core.Contents.{expected_files_of_package, files_read_from_blocks}
use Rattle.package_reader.specs.pkg_core.Pieces.{pieces_read_from_blocks}
use Rattle.package_reader.specs.pkg_core.Front.{position_after_front}
use Rattle.package_reader.specs.pkg_core.Values.{value_of_contents}
use Rattle.package_reader.proofs.pkg_core.SeenBytes.{reads_bad, reads_in_a_row}
use Rattle.package_reader.proofs.Readings.{renamed}
use Rattle.package_reader.specs.Readers.{returned_len_from, name_in_tree, package_len, start_of_file}
use Rattle.package_reader.specs.declared.piece.PieceFault.{PieceFault}
use Rattle.package_reader.specs.declared.piece.PieceFault.TheVariants.{Bad, Disk as PieceDisk}
use Rattle.package_verifier.specs.Places.{AreFilesTested}
use Rattle.package_verifier.specs.declared.files.FilesTest.TheVariants as Tests
use Rattle.package_verifier.specs.declared.places.FilePlace.{FilePlace}
use Rattle.package_verifier.proofs.FullPieces.{full_pieces}
use Rattle.package_verifier.proofs.PiecesPassed.{IsPassedTo, IsReadBy, all_stand, kept_places, nearer, none_passed, one_fails, one_passed, reads_as, reads_nothing, reads_refused, told_from}
use Rattle.package_verifier.proofs.files.read_files.Goals as goal

pub pieces-init : goal.pieces-init
pieces-init g c =
    let reader = c.new-reader.result in
    let offset = c.new-reader.ensures.offset in
    let len = c.new-reader.ensures.len in
    let within = c.args.front.now.within in
    record {
      name = refl;
      len = refl;
      passed = none_passed _ (name_in_tree reader) (package_len reader) reader c.new-places.result.items (omega (arith, offset, len, within)) (ap (returned_len_from reader.start) c.new-reader.ensures.start.1) c.new-places.ensures.items;
      tree = reads_nothing _ _ _ _;
    }

pub pieces-smaller : goal.pieces-smaller
pieces-smaller g c =
    let inv = c.pieces.invariant in
    nearer _ _ _ _ c.new-reader.result c.pieces.reader c.next_piece.new.self c.pieces.places.items c.next_piece.new.piece c.in-Ok-Some.part inv.tree.same inv.name inv.len c.next_piece.ensures.len inv.passed (rw c.in-Ok-Some.field-0-is at c.in-Ok-Some.ensures.piece)
    (λ pkg. (pieces_read_from_blocks (expected_files_of_package (value_of_contents c.args.contents.now)) (block_stream_from (position_after_front c.args.front.now pkg)), c.new-reader.ensures.pieces pkg, full_pieces _ _))
    (rw c.in-Ok-Some.field-0-is at c.in-Ok-Some.ensures.order) (rw c.in-Ok-Some.field-0-is at c.in-Ok-Some.ensures.bytes)

pub pieces-preserved : goal.pieces-preserved
pieces-preserved g c =
    let inv = c.pieces.invariant in
    let reader = c.new-reader.result in
    let new = c.next_piece.new.self in
    let part = c.in-Ok-Some.part in
    let places = c.pieces.places.items in
    let kept : c.keep_place.new.places.items ≡ kept_places part (start_of_file new) places = c.in_ok-keep_place-in-Ok-Some.ensures ∙ ap (λ (n : ℕ). kept_places part n places) c.file_start.ensures in
    record {
      name = c.next_piece.ensures.name ∙ inv.name;
      len = c.next_piece.ensures.len ∙ inv.len;
      passed = subst (λ (ps : List FilePlace). IsPassedTo (g.T.Tree.history c.args.tree.now) (name_in_tree reader) (package_len reader) reader new ps) (sym kept)
          (one_passed _ _ _ _ reader c.pieces.reader new places c.next_piece.new.piece part inv.tree.same inv.name inv.len inv.passed (rw c.in-Ok-Some.field-0-is at c.in-Ok-Some.ensures.piece) (rw c.in-Ok-Some.field-0-is at c.in-Ok-Some.ensures.start));
      tree = reads_in_a_row _ _ DiskFault DiskFault _ _ _ _ _ _ tt _ inv.tree (reads_as _ _ PieceDisk DiskFault _ _ _ _ _ tt (rw inv.len at (renamed _ _ _ _ _ _ _ _ _ inv.name c.in-Ok-Some.ensures.tree)));
    }

pub returns-in_err-keep_place-in-Ok-Some-clause-tree : goal.returns-in_err-keep_place-in-Ok-Some-clause-tree
returns-in_err-keep_place-in-Ok-Some-clause-tree g c =
    let inv = c.pieces.invariant in
    rw c.new-reader.ensures.len at (renamed _ _ _ _ _ _ _ _ _ c.new-reader.ensures.name (reads_in_a_row _ _ DiskFault DiskFault _ _ _ _ _ _ tt _ inv.tree (reads_bad _ _ PieceDisk DiskFault _ _ _ _ _ Memory _ c.from_residual.ensures.1 (λ e. (cc)) (rw inv.len at (renamed _ _ _ _ _ _ _ _ _ inv.name c.in-Ok-Some.ensures.tree)))))

pub returns-in-Ok-None-clause-files : goal.returns-in-Ok-None-clause-files
returns-in-Ok-None-clause-files g c =
    let inv = c.pieces.invariant in
    let es = expected_files_of_package (value_of_contents c.args.contents.now) in
    told_from _ _ _ _ _ c.new-reader.result c.pieces.reader c.next_piece.new.self c.pieces.places.items c.next_piece.new.piece (Ok None) (λ pkg. pieces_read_from_blocks es (block_stream_from (position_after_front c.args.front.now pkg))) (λ pkg. AreFilesTested (files_read_from_blocks es (block_stream_from (position_after_front c.args.front.now pkg))) pkg (Tests.Sound c.pieces.places)) inv.tree.same c.new-reader.ensures.name c.new-reader.ensures.len c.new-reader.ensures.offset inv.name inv.len inv.passed (rw c.in-Ok-None.field-0-is at c.in-Ok-None.ensures.piece)
    (λ pkg l answer. all_stand c.pieces.reader c.pieces.places.items pkg _ _ l (c.the_pieces_of_each_file_joined_are_its_contents.ensures es (block_stream_from (position_after_front c.args.front.now pkg))) answer.0)
    c.new-reader.ensures.pieces

pub returns-in-Ok-None-clause-tree : goal.returns-in-Ok-None-clause-tree
returns-in-Ok-None-clause-tree g c =
    let inv = c.pieces.invariant in
    rw c.new-reader.ensures.len at (renamed _ _ _ _ _ _ _ _ _ c.new-reader.ensures.name (reads_in_a_row _ _ DiskFault DiskFault _ _ _ _ _ _ tt _ inv.tree (reads_as _ _ PieceDisk DiskFault _ _ _ _ _ (Tests.Sound c.pieces.places) (rw inv.len at (renamed _ _ _ _ _ _ _ _ _ inv.name c.in-Ok-None.ensures.tree)))))

pub returns-in-Err-Bad-clause-files : goal.returns-in-Err-Bad-clause-files
returns-in-Err-Bad-clause-files g c =
    let inv = c.pieces.invariant in
    let es = expected_files_of_package (value_of_contents c.args.contents.now) in
    told_from _ _ _ _ _ c.new-reader.result c.pieces.reader c.next_piece.new.self c.pieces.places.items c.next_piece.new.piece (Err (Bad c.in-Err-Bad.cause)) (λ pkg. pieces_read_from_blocks es (block_stream_from (position_after_front c.args.front.now pkg))) (λ pkg. AreFilesTested (files_read_from_blocks es (block_stream_from (position_after_front c.args.front.now pkg))) pkg (Tests.Bad _)) inv.tree.same c.new-reader.ensures.name c.new-reader.ensures.len c.new-reader.ensures.offset inv.name inv.len inv.passed (subst (λ (f : PieceFault). IsReadBy (g.T.Tree.history c.pieces.tree) c.pieces.reader c.next_piece.new.piece (Err f) c.next_piece.new.self) c.in-Err-Bad.field-0-is c.in-Err-Bad.ensures.piece)
    (λ pkg l answer. one_fails c.pieces.reader c.pieces.places.items pkg _ c.in-Err-Bad.cause _ l (c.the_pieces_are_refused_for_the_first_fault_of_the_blocks.ensures es (block_stream_from (position_after_front c.args.front.now pkg))) answer.0 ∙ ap (λ (x : Cause). Some x) (sym c.in-Err-Bad.cause-is))
    c.new-reader.ensures.pieces

pub returns-in-Err-Bad-clause-tree : goal.returns-in-Err-Bad-clause-tree
returns-in-Err-Bad-clause-tree g c =
    let inv = c.pieces.invariant in
    reads_as _ _ DiskFault DiskFault _ _ _ _ (Tests.Bad c.in-Err-Bad.cause) _
    (rw c.new-reader.ensures.len at (renamed _ _ _ _ _ _ _ _ _ c.new-reader.ensures.name (reads_in_a_row _ _ DiskFault DiskFault _ _ _ _ _ _ tt _ inv.tree (reads_refused _ _ _ _ _ _ _ _ (Tests.Bad c.in-Err-Bad.cause) c.in-Err-Bad.field-0-is (rw inv.len at (renamed _ _ _ _ _ _ _ _ _ inv.name c.in-Err-Bad.ensures.tree))))))
