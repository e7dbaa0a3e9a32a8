use Rattle.std.proofs.Common.{◌∙◌, ap}
use Rattle.adb_view.specs.Values.{entry_at_index, text_in}
use Rattle.tell_core.proofs.LineSteps.{one_line}
use Rattle.tell_core.proofs.info.package.push_description.Goals as goal

pub returns : goal.returns
returns c =
    one_line _ _ _ _ _ _ _ c.in_ok-push_heading.ensures c.in_ok-push_line.ensures
    (c.description.ensures ∙ ap (λ v. text_in (entry_at_index v 3)) c.info.ensures) c.in_ok-push.ensures.items
