use Rattle.definition_laws.proofs.outcomes.MadeFiles.{written}
use Rattle.definition_laws.proofs.outcomes.make.a_made_container_is_written_to_its_output.Goals as goal

pub returns : goal.returns
returns c = written
