use Rattle.std.proofs.Common.{ap, ◌∙◌, sym}
use Rattle.std.specs.Prelude.{not}
use Rattle.command_core.specs.Values.{is_required_value_missing}
use Rattle.command_core.proofs.Parts.{has_parts, needed_given}
use Rattle.command_core.proofs.operands.a_command_has_what_its_applet_may_have.Goals as goal

pub returns-clause-operands : goal.returns-clause-operands
returns-clause-operands _ c h = (has_parts c h).operands

pub returns-clause-values : goal.returns-clause-values
returns-clause-values _ c h = (has_parts c h).values

pub returns-clause-needed : goal.returns-clause-needed
returns-clause-needed _ c letter h n =
    needed_given letter c.values (ap (λ o. not (is_required_value_missing o c.values)) (sym n) ∙ (has_parts c h).needed)
