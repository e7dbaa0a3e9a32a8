use Rattle.std.proofs.Common.{◌∙◌, length, sym, ap}
use Rattle.std.proofs.lemmas.Bool.{eq-eqb, eqb-true, false≢true}
use Rattle.base_core.specs.declared.tree.TreeFault.TheVariants.{Disk}
use Rattle.base_core.proofs.ReadAfter.{reading_as, reading_off}
use Rattle.hint_core.specs.Warnings.{empty_folder_line}
use Rattle.hint_core.proofs.WarningSteps.{silent_below, warned_below}
use Rattle.hint_core.proofs.ReadSteps.{listing_reads, no_value, out_of_memory}
use Rattle.hint_core.proofs.warning.warning_below.Goals as goal

pub returns-in_err-names-clause-lines : goal.returns-in_err-names-clause-lines
returns-in_err-names-clause-lines g c = no_value _ _ c.from_residual.result c.from_residual.ensures.1

pub returns-in_err-names-clause-tree : goal.returns-in_err-names-clause-tree
returns-in_err-names-clause-tree g c =
    let listed = c.list.ensures in
    reading_off Disk _ _ _ _ _ c.from_residual.result c.from_residual.ensures.1 (rw c.in_err-names.was at (listing_reads _ _ _ _ c.list.result listed.same listed.goes_on listed.disk listed.kept listed.memory listed.proper))

pub returns-then-not-is_empty-clause-lines : goal.returns-then-not-is_empty-clause-lines
returns-then-not-is_empty-clause-lines g c =
    silent_below _ c.args.folder.now c.new.result.items c.in_ok-names.names c.in_ok-names.ensures.value
    (λ none. false≢true (c.if-not-is_empty.ensures ∙ eq-eqb (length c.in_ok-names.names) 0 none)) c.new.ensures.items

pub returns-then-not-is_empty-clause-tree : goal.returns-then-not-is_empty-clause-tree
returns-then-not-is_empty-clause-tree g c =
    let listed = c.list.ensures in
    reading_as Disk _ _ _ _ _ _ (rw c.in_ok-names.was at (listing_reads _ _ _ _ c.list.result listed.same listed.goes_on listed.disk listed.kept listed.memory listed.proper))

pub returns-in_err-line-clause-lines : goal.returns-in_err-line-clause-lines
returns-in_err-line-clause-lines g c = no_value _ _ c.from_residual-in_err-line.result c.from_residual-in_err-line.ensures.1

pub returns-in_err-line-clause-tree : goal.returns-in_err-line-clause-tree
returns-in_err-line-clause-tree g c =
    let listed = c.list.ensures in
    out_of_memory _ _ _ _ _ c.from_residual-in_err-line.result c.from_residual-in_err-line.ensures.1 (rw c.in_ok-names.was at (listing_reads _ _ _ _ c.list.result listed.same listed.goes_on listed.disk listed.kept listed.memory listed.proper))

pub returns-clause-lines : goal.returns-clause-lines
returns-clause-lines g c =
    warned_below _ c.args.folder.now c.in_ok-line.line.items c.in_ok-names.names c.in_ok-names.ensures.value
    (eqb-true (length c.in_ok-names.names) 0 (sym c.if-not-is_empty.ensures)) (c.in_ok-line.ensures ∙ ap empty_folder_line c.as_bytes.ensures.value)

pub returns-clause-tree : goal.returns-clause-tree
returns-clause-tree g c =
    let listed = c.list.ensures in
    reading_as Disk _ _ _ _ _ _ (rw c.in_ok-names.was at (listing_reads _ _ _ _ c.list.result listed.same listed.goes_on listed.disk listed.kept listed.memory listed.proper))
