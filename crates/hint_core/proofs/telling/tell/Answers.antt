use Rattle.std.proofs.Common.{◌∙◌, ap, subst}
use Rattle.std.proofs.lemmas.Result.{err_from_is_err_and}
use Rattle.base_core.specs.Sink.{AddsBytesToSink}
use Rattle.hint_core.specs.Lines.{hint_lines}
use Rattle.hint_core.proofs.Steps.{tells_nothing}
use Rattle.hint_core.proofs.telling.tell.Goals as goal

pub returns-in_err-lines-clause-told : goal.returns-in_err-lines-clause-told
returns-in_err-lines-clause-told g c =
    let p = err_from_is_err_and c.from_residual-in_err-lines.result c.from_residual-in_err-lines.ensures.1 in
    rw p.1 (tells_nothing _ _ _ _ _)

pub returns-clause-told : goal.returns-clause-told
returns-clause-told g c = record {
  ok = subst (AddsBytesToSink _ _) (c.deref.ensures.value ∙ (c.in_ok-lines.ensures ∙ ap hint_lines c.in_ok-hints.ensures)) c.in_ok-write_all.ensures.ok;
  err = tt;
}
