use Rattle.std.proofs.Common.{Err, Ok}
use Rattle.base_core.proofs.ReadAfter.{reading_as, reading_off}
use Rattle.path_clashes.proofs.Below.{found_listed}
use Rattle.path_clashes.proofs.Observed.{observed_by}
use Rattle.path_clashes.proofs.OneName.{listed_alone}
use Rattle.path_clashes.proofs.Reading.{if_failed, list_reads, reads_then_memory}
use Rattle.path_clashes.proofs.near.first_below.Goals as goal

pub returns-clause-found : goal.returns-clause-found
returns-clause-found g c =
    observed_by _ _ _ (λ v list. found_listed (g.G.IsReleased.does_release c.args.let_go.now) v c.args.folder.now _ list _ c.in_ok-first.ensures) c.in_ok-names.ensures.value

pub returns-clause-may : goal.returns-clause-may
returns-clause-may g c = listed_alone (g.G.IsReleased.does_release c.args.let_go.now) c.args.folder.now _ c.in_ok-names.ensures.order _ c.in_ok-first.ensures

pub returns-in_err-names-clause-found : goal.returns-in_err-names-clause-found
returns-in_err-names-clause-found g c = if_failed c.from_residual.result _ _ c.from_residual.ensures.1

pub returns-in_err-names-clause-may : goal.returns-in_err-names-clause-may
returns-in_err-names-clause-may g c = if_failed c.from_residual.result _ _ c.from_residual.ensures.1

pub returns-in_err-first-clause-found : goal.returns-in_err-first-clause-found
returns-in_err-first-clause-found g c = if_failed c.from_residual-in_err-first.result _ _ c.from_residual-in_err-first.ensures.1

pub returns-in_err-first-clause-may : goal.returns-in_err-first-clause-may
returns-in_err-first-clause-may g c = if_failed c.from_residual-in_err-first.result _ _ c.from_residual-in_err-first.ensures.1

pub returns-in_err-names-clause-tree : goal.returns-in_err-names-clause-tree
returns-in_err-names-clause-tree g c =
    let list = c.in_err-names.ensures in
    reading_off _ _ _ _ _ _ c.from_residual.result c.from_residual.ensures.1 (list_reads _ _ _ _ (Err c.in_err-names.field-0.0) list.same list.goes_on list.disk list.kept list.memory list.proper)

pub returns-in_err-first-clause-tree : goal.returns-in_err-first-clause-tree
returns-in_err-first-clause-tree g c =
    let list = c.in_ok-names.ensures in
    reads_then_memory _ _ _ _ _ c.from_residual-in_err-first.result c.from_residual-in_err-first.ensures.1 (list_reads _ _ _ _ (Ok c.in_ok-names.names) list.same list.goes_on list.disk list.kept list.memory list.proper)

pub returns-clause-tree : goal.returns-clause-tree
returns-clause-tree g c =
    let list = c.in_ok-names.ensures in
    reading_as _ _ _ _ _ _ _ (list_reads _ _ _ _ (Ok c.in_ok-names.names) list.same list.goes_on list.disk list.kept list.memory list.proper)
