-- What the call filled stands behind the bytes that stood there.
use Rattle.std.proofs.Common.{rules}
use Rattle.base_core.proofs.ReadAfter.{added_behind, can_read_so_many, reading_done, reading_failed}
use Rattle.base_core.specs.declared.tree.TreeFault.TheVariants.{Disk as DiskFault}
use Rattle.base_core.proofs.tree.read_some.Goals as goal

pub returns-in_err-read_at-clause-tree : goal.returns-in_err-read_at-clause-tree
returns-in_err-read_at-clause-tree g c =
    reading_failed DiskFault _ _ _ _ _ c.in_err-read_at.field-0.0 _ c.from_residual-in_err-read_at.ensures.1
    c.in_err-read_at.ensures.same c.in_err-read_at.ensures.counts (can_read_so_many _ _ _ c.args.len _ c.requires (search rules))

pub returns-clause-added : goal.returns-clause-added
returns-clause-added g c =
    added_behind _ c.args.name.now c.args.at c.args.len c.len-start.result c.in-Some.end _ c.resize.new.self.len
    c.args.bytes.now.items c.deref_mut.result.now _ c.read_at.new.into c.resize.new.self.items
    c.in_ok-resize.ensures.items (search rules) (search rules) (search rules) (search rules) (search rules)
    (search rules) (search rules) c.in_ok-read_at.ensures.value

pub returns-clause-tree : goal.returns-clause-tree
returns-clause-tree g c =
    reading_done DiskFault _ _ _ _ _ c.in_ok-read_at.field-0 _ c.in_ok-read_at.ensures.same c.in_ok-read_at.ensures.counts
    (can_read_so_many _ _ _ c.args.len _ c.requires (search rules))
