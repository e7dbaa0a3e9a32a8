use Rattle.make_info.proofs.OutputFacts.{index_output_there}
use Rattle.make_info.proofs.output.an_index_has_an_output.Goals as goal

pub returns : goal.returns
returns c = index_output_there c.a_command_has_what_its_applet_may_have.ensures.needed
