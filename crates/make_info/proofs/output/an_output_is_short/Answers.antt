use Rattle.make_info.proofs.OutputFacts.{output_short}
use Rattle.make_info.proofs.output.an_output_is_short.Goals as goal

pub returns : goal.returns
returns c = output_short c.values_are_of_their_kind.ensures.output
