-- Block by block.
use Rattle.std.proofs.Common.{◌∙◌, arith}
use Rattle.package_reader.specs.declared.piece.PieceFault.TheVariants.{Disk as DiskFault}
use Rattle.pkg_core.proofs.SeenBytes.{reads_in_a_row, reads_ok, reads_err}
use Rattle.package_reader.proofs.FilesFound.{found_end, found_err, found_file, one_passed}
use Rattle.package_reader.proofs.BlockSeen.{not_ok}
use Rattle.package_reader.proofs.block.next_file.Goals as goal

pub returns-in_err-next_block-clause-file : goal.returns-in_err-next_block-clause-file
returns-in_err-next_block-clause-file g c =
    let inv = c.more.invariant in
    let b = c.in_err-next_block.ensures.block in
    found_err _ _ _ _ c.args.place.now c.more.place c.next_block.new.place b.0 c.in_err-next_block.field-0.0 c.from_residual.result inv.tree.same inv.len c.from_residual.ensures.1 inv.passed b.1 b.3

pub returns-in-End-clause-file : goal.returns-in-End-clause-file
returns-in-End-clause-file g c =
    let inv = c.more.invariant in
    let b = rw c.in-End.is at c.in_ok-next_block.ensures.block in
    found_end _ _ _ _ c.args.place.now c.more.place c.next_block.new.place b.0 inv.tree.same inv.len inv.passed b.1 b.3

pub more-preserved : goal.more-preserved
more-preserved g c =
    let inv = c.more.invariant in
    let b = rw c.in-Passed.is at c.in_ok-next_block.ensures.block in
    let further = rw c.in-Passed.is at c.in_ok-next_block.ensures.further in
    let walk = rw c.in-Passed.is at c.in_ok-next_block.ensures.walk in
    let len = c.next_block.ensures.len in
    record {
      within = c.next_block.ensures.within;
      len = len ∙ inv.len;
      walk = walk ∙ inv.walk;
      passed = one_passed _ _ _ _ c.args.place.now c.more.place c.next_block.new.place b.0 inv.tree.same inv.len (omega (arith, further, len, inv.len)) inv.passed b.1 b.2 b.3;
      tree = reads_in_a_row _ _ DiskFault DiskFault _ _ _ _ _ _ tt _ inv.tree (reads_ok _ _ DiskFault _ _ _ _ c.in_ok-next_block.field-0 tt (rw inv.len at c.in_ok-next_block.ensures.tree));
    }

pub returns-in-Opened-clause-file : goal.returns-in-Opened-clause-file
returns-in-Opened-clause-file g c =
    let inv = c.more.invariant in
    let b = rw c.in-Opened.is at c.in_ok-next_block.ensures.block in
    let further = rw c.in-Opened.is at c.in_ok-next_block.ensures.further in
    let len = c.next_block.ensures.len in
    found_file _ _ _ _ c.args.place.now c.more.place c.next_block.new.place b.0 c.in-Opened.file inv.tree.same inv.len (omega (arith, further, len, inv.len)) inv.passed b.1 b.2 b.3

pub returns-in_err-next_block-clause-walk : goal.returns-in_err-next_block-clause-walk
returns-in_err-next_block-clause-walk g c = not_ok _ _ c.in_err-next_block.field-0.0 c.from_residual.ensures.1

pub returns-in_err-next_block-clause-room : goal.returns-in_err-next_block-clause-room
returns-in_err-next_block-clause-room g c = not_ok _ _ c.in_err-next_block.field-0.0 c.from_residual.ensures.1

pub returns-in_err-next_block-clause-tree : goal.returns-in_err-next_block-clause-tree
returns-in_err-next_block-clause-tree g c =
    let inv = c.more.invariant in
    reads_in_a_row _ _ DiskFault DiskFault _ _ _ _ _ _ tt _ inv.tree (reads_err _ _ DiskFault _ _ _ _ c.in_err-next_block.field-0.0 _ c.from_residual.ensures.1 (rw inv.len at c.in_err-next_block.ensures.tree))

pub returns-in-End-clause-tree : goal.returns-in-End-clause-tree
returns-in-End-clause-tree g c =
    let inv = c.more.invariant in
    reads_in_a_row _ _ DiskFault DiskFault _ _ _ _ _ _ tt _ inv.tree (reads_ok _ _ DiskFault _ _ _ _ _ _ (rw inv.len at c.in_ok-next_block.ensures.tree))

pub returns-in-Opened-clause-tree : goal.returns-in-Opened-clause-tree
returns-in-Opened-clause-tree g c =
    let inv = c.more.invariant in
    reads_in_a_row _ _ DiskFault DiskFault _ _ _ _ _ _ tt _ inv.tree (reads_ok _ _ DiskFault _ _ _ _ _ _ (rw inv.len at c.in_ok-next_block.ensures.tree))
