use Rattle.std.proofs.Common.{false}
use Rattle.base_core.specs.Tree.{IsAlwaysAllowed, files_of}
use Rattle.base_core.specs.declared.tree.TreeFault.TheVariants.{Disk as DiskFault}
use Rattle.base_core.proofs.Counting.{readings_none}
use Rattle.base_core.proofs.ReadAfter.{reading_done, reading_failed}
use Rattle.path_clashes.proofs.Observed.{observed_by, observed_each}
use Rattle.path_clashes.proofs.Present.{released_absent, sized_present, told_of_name}
use Rattle.path_clashes.proofs.Reading.{if_failed}
use Rattle.path_clashes.proofs.near.is_name_present.Goals as goal

pub returns-then-does_release-clause-answer : goal.returns-then-does_release-clause-answer
returns-then-does_release-clause-answer g c =
    observed_each _ _ (λ v. released_absent (g.G.IsReleased.does_release c.args.let_go.now) c.args.name.now _ _ c.does_release.ensures c.as_bytes.ensures.value (files_of v) c.if-does_release.true)

pub returns-then-does_release-clause-stays : goal.returns-then-does_release-clause-stays
returns-then-does_release-clause-stays g c = λ some. absurd (cc)

pub returns-then-does_release-clause-tree : goal.returns-then-does_release-clause-tree
returns-then-does_release-clause-tree g c = readings_none _ _ _ false

pub returns-in_err-size-clause-answer : goal.returns-in_err-size-clause-answer
returns-in_err-size-clause-answer g c = if_failed c.from_residual.result _ _ c.from_residual.ensures.1

pub returns-in_err-size-clause-stays : goal.returns-in_err-size-clause-stays
returns-in_err-size-clause-stays g c = if_failed c.from_residual.result _ _ c.from_residual.ensures.1

pub returns-in_err-size-clause-tree : goal.returns-in_err-size-clause-tree
returns-in_err-size-clause-tree g c =
    reading_failed DiskFault IsAlwaysAllowed _ _ _ _ _ c.from_residual.result c.from_residual.ensures.1 c.in_err-size.ensures.same c.in_err-size.ensures.counts (observed_each _ IsAlwaysAllowed (λ v. tt))

pub returns-clause-answer : goal.returns-clause-answer
returns-clause-answer g c =
    observed_by _ _ _ (λ v long. sized_present (g.G.IsReleased.does_release c.args.let_go.now) c.args.name.now _ _ c.does_release.ensures c.as_bytes.ensures.value (files_of v) _ _ c.if-does_release.false long c.is_some.ensures)
    c.in_ok-size.ensures.value

pub returns-clause-stays : goal.returns-clause-stays
returns-clause-stays g c = λ some. told_of_name (g.G.IsReleased.does_release c.args.let_go.now) c.args.name.now _ _ c.does_release.ensures c.as_bytes.ensures.value false c.if-does_release.false

pub returns-clause-tree : goal.returns-clause-tree
returns-clause-tree g c = reading_done DiskFault IsAlwaysAllowed _ _ _ _ _ _ c.in_ok-size.ensures.same c.in_ok-size.ensures.counts (observed_each _ IsAlwaysAllowed (λ v. tt))
