use Rattle.definition_laws.proofs.outcomes.Dumped.{text_printed}
use Rattle.definition_laws.proofs.outcomes.dump.adbdump_prints_the_text_of_the_value.Goals as goal

pub returns : goal.returns
returns c = text_printed
