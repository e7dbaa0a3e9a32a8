use Rattle.definition_laws.proofs.answers.Replacing.{named_in, own}
use Rattle.definition_laws.proofs.answers.replaces.a_package_is_replaced_by_its_own_name_and_version.Goals as goal

pub returns : goal.returns
returns c = record { named = named_in; own = own }
