-- The size that was told, and so many bytes behind none, are the file.
use Rattle.base_core.proofs.ReadAfter.{reading_as, reading_off, sized_here, sized_then, whole_file}
use Rattle.base_core.specs.declared.tree.TreeFault.TheVariants.{Disk as DiskFault}
use Rattle.base_core.proofs.tree.read_all.Goals as goal

pub append_file_to-requires : goal.append_file_to-requires
append_file_to-requires g c = sized_here _ _ c.args.name.now _ c.in-Some.size c.in_ok-size.ensures.value c.in-Some.is c.in_ok-size.ensures.same

pub returns-in_err-append_file_to-clause-tree : goal.returns-in_err-append_file_to-clause-tree
returns-in_err-append_file_to-clause-tree g c =
    sized_then DiskFault _ _ _ _ _ _ _ _ c.in_ok-size.ensures.same c.in_ok-size.ensures.counts
    (reading_off DiskFault _ _ _ _ c.in_err-append_file_to.field-0.0 _ c.from_residual-in_err-append_file_to.ensures.1 c.in_err-append_file_to.ensures.tree)

pub returns-clause-answer : goal.returns-clause-answer
returns-clause-answer g c =
    whole_file _ _ c.args.name.now _ c.in-Some.size c.in_ok-bytes.bytes.items c.append_file_to.new.bytes.items
    c.in_ok-size.ensures.value c.in-Some.is c.in_ok-size.ensures.same c.in_ok-bytes.ensures.items c.in_ok-append_file_to.ensures.added

pub returns-clause-tree : goal.returns-clause-tree
returns-clause-tree g c =
    sized_then DiskFault _ _ _ _ _ _ _ _ c.in_ok-size.ensures.same c.in_ok-size.ensures.counts
    (reading_as DiskFault _ _ _ _ _ _ c.in_ok-append_file_to.ensures.tree)
