use Rattle.std.proofs.Common.{refl, inl, inr, []}
use Rattle.std.proofs.lemmas.Result.{err_from_is_err_and}
use Rattle.hint_core.proofs.Steps.{behind_reading, tells_nothing, tells_same}
use Rattle.hint_core.proofs.WarningSteps.{on_ok}
use Rattle.hint_core.proofs.ReadSteps.{hint_read_failed}
use Rattle.hint_core.proofs.warning.warn.Goals as goal

pub returns-in_err-lines-clause-told : goal.returns-in_err-lines-clause-told
returns-in_err-lines-clause-told g c =
    let p = err_from_is_err_and c.from_residual.result c.from_residual.ensures.1 in
    ([], inl refl, rw p.1 tt, rw p.1 (tells_nothing _ _ _ _ _))

pub returns-in_err-lines-clause-tree : goal.returns-in_err-lines-clause-tree
returns-in_err-lines-clause-tree g c = hint_read_failed _ _ _ _ _ c.from_residual.result c.from_residual.ensures.1 c.in_err-lines.ensures.tree

pub returns-clause-told : goal.returns-clause-told
returns-clause-told g c =
    (c.in_ok-lines.lines.items, inr c.in_ok-lines.ensures.lines, on_ok _ c.in_ok-lines.ensures.lines, tells_same _ _ _ _ c.deref.ensures.value c.write_lines.ensures.told)

pub returns-clause-tree : goal.returns-clause-tree
returns-clause-tree g c = behind_reading _ _ _ _ _ _ c.write_lines.ensures.failed c.in_ok-lines.ensures.tree
