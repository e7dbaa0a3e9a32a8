use Rattle.base_core.proofs.OneList.{list_exists, list_one}
use Rattle.base_core.proofs.laws.a_folder_has_one_listing.Goals as goal

pub returns-clause-exists : goal.returns-clause-exists
returns-clause-exists c = list_exists

pub returns-clause-one : goal.returns-clause-one
returns-clause-one c = list_one
