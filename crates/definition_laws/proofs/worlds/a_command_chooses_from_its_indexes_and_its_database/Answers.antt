use Rattle.definition_laws.proofs.worlds.CommandSelections.{pool_chosen}
use Rattle.definition_laws.proofs.worlds.a_command_chooses_from_its_indexes_and_its_database.Goals as goal

pub returns : goal.returns
returns c = pool_chosen
