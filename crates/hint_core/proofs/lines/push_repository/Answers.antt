use Rattle.hint_core.proofs.ReadSteps.{no_value}
use Rattle.hint_core.proofs.lines.push_repository.Goals as goal

pub returns-in_err-shown : goal.returns-in_err-shown
returns-in_err-shown c = no_value _ _ c.from_residual.result c.from_residual.ensures.1

pub returns : goal.returns
returns c =
    rw (c.as_bytes.ensures.value, c.format.ensures.text, c.deref.ensures.value, c.in_ok-shown.ensures, c.as_bytes-2.ensures.value, c.format-2.ensures.text) at c.push_texts.ensures
