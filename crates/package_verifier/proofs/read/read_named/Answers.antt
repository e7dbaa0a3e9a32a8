-- Of the file under the name, or of some file.
use Rattle.base_core.proofs.ReadAfter.{reading_as}
use Rattle.package_verifier.proofs.FrontReads.{front_failed, front_out_of_memory, front_read, front_refused, front_then, front_then_failed, no_value}
use Rattle.package_verifier.proofs.WholeTested.{absent_read, read_whole, refused}
use Rattle.package_verifier.proofs.read.read_named.Goals as goal

pub returns-in-Ok-Some-clause-read : goal.returns-in-Ok-Some-clause-read
returns-in-Ok-Some-clause-read g c = read_whole _ _ _ _ c.in-Ok-Some.front c.in_ok-test-in-Ok-Some.test c.read_by.result c.requires c.read_front.ensures.tree.same (rw c.in-Ok-Some.field-0-is at c.in-Ok-Some.ensures.front) (rw c.in-Ok-Some.field-0-is at c.in-Ok-Some.ensures.seen) c.in_ok-test-in-Ok-Some.ensures.whole c.read_by.ensures

pub returns-in-Err-Bad-clause-read : goal.returns-in-Err-Bad-clause-read
returns-in-Err-Bad-clause-read g c = refused _ _ _ _ _ c.in-Err-Bad.cause-is c.in-Err-Bad.field-0-is c.in-Err-Bad.ensures.front

pub returns-in_err-test-in-Ok-Some-clause-read : goal.returns-in_err-test-in-Ok-Some-clause-read
returns-in_err-test-in-Ok-Some-clause-read g c = no_value _ _ c.from_residual.result c.from_residual.ensures.1

pub returns-in_err-test-in-Ok-Some-clause-tree : goal.returns-in_err-test-in-Ok-Some-clause-tree
returns-in_err-test-in-Ok-Some-clause-tree g c =
    let e = rw c.in-Ok-Some.field-0-is at c.in-Ok-Some.ensures in
    front_then_failed c.args.name.now c.in-Ok-Some.front _ _ _ _ _ _ _ c.from_residual.result c.from_residual.ensures.1 e.front e.tree c.in_err-test-in-Ok-Some.ensures.tree

pub returns-in-Ok-Some-clause-tree : goal.returns-in-Ok-Some-clause-tree
returns-in-Ok-Some-clause-tree g c =
    let e = rw c.in-Ok-Some.field-0-is at c.in-Ok-Some.ensures in
    reading_as _ _ _ _ _ _ _ (front_then c.args.name.now c.in-Ok-Some.front _ _ _ _ _ _ _ e.front e.tree c.in_ok-test-in-Ok-Some.ensures.tree)

pub returns-in-Ok-None-clause-tree : goal.returns-in-Ok-None-clause-tree
returns-in-Ok-None-clause-tree g c = front_read _ _ _ _ _ _ c.in-Ok-None.ensures.tree

pub returns-in-Err-Bad-clause-tree : goal.returns-in-Err-Bad-clause-tree
returns-in-Err-Bad-clause-tree g c = front_refused _ _ _ _ _ _ _ c.in-Err-Bad.field-0-is c.in-Err-Bad.ensures.tree

pub returns-in-Err-Disk-clause-tree : goal.returns-in-Err-Disk-clause-tree
returns-in-Err-Disk-clause-tree g c = front_failed _ _ _ _ _ c.in-Err-Disk.field-0-is c.in-Err-Disk.ensures.tree

pub returns-clause-tree : goal.returns-clause-tree
returns-clause-tree g c = front_out_of_memory _ _ _ _ _ c.in-Err-Memory.field-0-is c.in-Err-Memory.ensures.tree

pub returns-in-Err-Disk-clause-read : goal.returns-in-Err-Disk-clause-read
returns-in-Err-Disk-clause-read g c = tt

pub returns-clause-read : goal.returns-clause-read
returns-clause-read g c = tt

pub read_by-requires : goal.read_by-requires
read_by-requires g c = c.in_ok-test-in-Ok-Some.ensures.payload

pub returns-in-Ok-None-clause-read : goal.returns-in-Ok-None-clause-read
returns-in-Ok-None-clause-read g c = absent_read _ c.args.name.now (rw c.in-Ok-None.field-0-is at c.in-Ok-None.ensures.front)
