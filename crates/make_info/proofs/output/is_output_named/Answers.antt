use Rattle.std.proofs.Common.{◌∙◌}
use Rattle.command_core.specs.Values.{first_value_with_letter}
use Rattle.command_core.specs.declared.values.TheConstants.{OUTPUT}
use Rattle.make_info.proofs.Outputs.{named_some}
use Rattle.make_info.proofs.output.is_output_named.Goals as goal

pub returns : goal.returns
returns c = c.is_some.ensures ∙ named_some c.first.result (first_value_with_letter OUTPUT c.args.values.now) c.first.ensures
