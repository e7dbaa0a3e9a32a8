use Rattle.definition_laws.proofs.making.OptionTexts.{script_parts}
use Rattle.definition_laws.proofs.making.values.a_script_is_given_as_its_type_and_its_file.Goals as goal

pub returns : goal.returns
returns c = script_parts
