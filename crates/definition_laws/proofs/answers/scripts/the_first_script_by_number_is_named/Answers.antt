use Rattle.definition_laws.proofs.answers.FirstNumbers.{first_named, none_named}
use Rattle.definition_laws.proofs.answers.scripts.the_first_script_by_number_is_named.Goals as goal

pub returns : goal.returns
returns c = record { named = first_named; none = none_named }
