use Rattle.make_info.proofs.Outputs.{output_is_file}
use Rattle.make_info.proofs.output.named_output.Goals as goal

pub first_file-requires-clause-file : goal.first_file-requires-clause-file
first_file-requires-clause-file c = output_is_file c.values_are_of_their_kind.ensures.output c.args.command.now _ c.values.ensures.command c.values.ensures.value
