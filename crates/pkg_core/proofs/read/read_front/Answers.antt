-- By the file under the name, or some file.
use Rattle.std.proofs.Common.{rules}
use Rattle.base_core.proofs.ReadAfter.{reading_as, reading_off}
use Rattle.pkg_core.specs.declared.front.FrontFault.TheVariants.{Disk as DiskFault}
use Rattle.pkg_core.proofs.WholeReads.{disk_read, err_read, ok_read, ok_seen, sized_reads}
use Rattle.pkg_core.proofs.read.read_front.Goals as goal

pub returns-in_err-len-clause-front : goal.returns-in_err-len-clause-front
returns-in_err-len-clause-front g c = disk_read c.args.schema _ _ c.from_residual.result c.from_residual.ensures.1

pub returns-in_err-front-in-Some-clause-front : goal.returns-in_err-front-in-Some-clause-front
returns-in_err-front-in-Some-clause-front g c =
    let p = c.in_err-front-in-Some.ensures.front in
    err_read c.args.schema _ _ _ p.0 c.in-Some.len c.in_err-front-in-Some.field-0.0 c.from_residual-in_err-front-in-Some.result c.size.ensures.same (search rules) p.1 p.2 c.from_residual-in_err-front-in-Some.ensures.1

pub returns-in_ok-front-in-Some-clause-front : goal.returns-in_ok-front-in-Some-clause-front
returns-in_ok-front-in-Some-clause-front g c =
    let p = c.in_ok-front-in-Some.ensures.front in
    ok_read c.args.schema _ _ _ p.0 c.in-Some.len c.in_ok-front-in-Some.front c.size.ensures.same (search rules) p.1 p.2

pub returns-in_ok-front-in-Some-clause-seen : goal.returns-in_ok-front-in-Some-clause-seen
returns-in_ok-front-in-Some-clause-seen g c =
    let p = c.in_ok-front-in-Some.ensures.front in
    ok_seen c.args.schema _ _ _ p.0 c.in-Some.len c.in_ok-front-in-Some.front c.size.ensures.same (search rules) p.1 p.2 c.in_ok-front-in-Some.ensures.len

pub returns-in_err-front-in-Some-clause-tree : goal.returns-in_err-front-in-Some-clause-tree
returns-in_err-front-in-Some-clause-tree g c = reading_off DiskFault _ _ _ _ c.in_err-front-in-Some.field-0.0 _ c.from_residual-in_err-front-in-Some.ensures.1 (sized_reads c.args.name.now c.in-Some.len DiskFault _ _ _ _ _ _ _ c.size.ensures.same (search rules) (search rules) c.in_err-front-in-Some.ensures.tree)

pub returns-in_ok-front-in-Some-clause-tree : goal.returns-in_ok-front-in-Some-clause-tree
returns-in_ok-front-in-Some-clause-tree g c = reading_as DiskFault _ _ _ _ c.in_ok-front-in-Some.front _ (sized_reads c.args.name.now c.in-Some.len DiskFault _ _ _ _ _ _ _ c.size.ensures.same (search rules) (search rules) c.in_ok-front-in-Some.ensures.tree)
