use Rattle.definition_laws.proofs.worlds.CommandSelections.{each_needed, satisfies}
use Rattle.definition_laws.proofs.worlds.the_selected_packages_satisfy_the_new_world.Goals as goal

pub returns-clause-satisfied : goal.returns-clause-satisfied
returns-clause-satisfied c = satisfies

pub returns-clause-needed : goal.returns-clause-needed
returns-clause-needed c = each_needed
