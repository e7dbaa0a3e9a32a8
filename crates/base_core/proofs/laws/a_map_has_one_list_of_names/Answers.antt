use Rattle.base_core.proofs.OneList.{names_exist, names_one}
use Rattle.base_core.proofs.laws.a_map_has_one_list_of_names.Goals as goal

pub returns-clause-exists : goal.returns-clause-exists
returns-clause-exists c = names_exist

pub returns-clause-one : goal.returns-clause-one
returns-clause-one c = names_one
