-- What was read behind the front of the block is the file.
use Rattle.std.proofs.Common.{rules}
use Rattle.base_core.proofs.ReadAfter.{reading_as, reading_off, sized_here, sized_then}
use Rattle.base_core.specs.declared.tree.TreeFault.TheVariants.{Disk as DiskFault}
use Rattle.package_files.proofs.PlacedBlocks.{file_placed, front_placed}
use Rattle.package_files.proofs.packing.read_in_block.Goals as goal

pub append_file_to-requires : goal.append_file_to-requires
append_file_to-requires g c = sized_here _ _ c.args.name.now _ c.in-Some.size c.in_ok-size.ensures.value c.in-Some.is c.in_ok-size.ensures.same

pub returns-in_err-append_file_to-clause-tree : goal.returns-in_err-append_file_to-clause-tree
returns-in_err-append_file_to-clause-tree g c =
    sized_then DiskFault _ _ _ _ _ _ _ _ c.in_ok-size.ensures.same c.in_ok-size.ensures.counts
    (reading_off DiskFault _ _ _ _ c.in_err-append_file_to.field-0.0 _ c.from_residual-in_err-append_file_to.ensures.1 c.in_err-append_file_to.ensures.tree)

pub returns-clause-tree : goal.returns-clause-tree
returns-clause-tree g c =
    sized_then DiskFault _ _ _ _ _ _ _ _ c.in_ok-size.ensures.same c.in_ok-size.ensures.counts
    (reading_as DiskFault _ _ _ _ _ _ c.in_ok-append_file_to.ensures.tree)

pub returns-clause-begun : goal.returns-clause-begun
returns-clause-begun g c =
    front_placed _ _ c.args.position.0 c.args.position.1 c.in-Some.size c.len-at.result c.args.blocks.now.items c.begin_block.new.blocks.items c.append_file_to.new.bytes.items
    c.in_ok-begin_block.ensures (search rules) c.in_ok-append_file_to.ensures.added

pub returns-clause-answer : goal.returns-clause-answer
returns-clause-answer g c =
    file_placed _ _ c.args.name.now _ c.in-Some.size c.len-at.result c.begin_block.new.blocks.items c.append_file_to.new.bytes.items
    c.in_ok-size.ensures.value c.in-Some.is c.in_ok-size.ensures.same (search rules) c.in_ok-append_file_to.ensures.added
