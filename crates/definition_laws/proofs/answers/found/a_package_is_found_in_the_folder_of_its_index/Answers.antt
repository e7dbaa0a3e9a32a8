use Rattle.definition_laws.proofs.answers.Places.{below, top}
use Rattle.definition_laws.proofs.answers.found.a_package_is_found_in_the_folder_of_its_index.Goals as goal

pub returns : goal.returns
returns c = record { below = below; top = top }
