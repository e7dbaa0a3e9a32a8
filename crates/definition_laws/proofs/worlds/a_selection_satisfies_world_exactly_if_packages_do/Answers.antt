use Rattle.definition_laws.proofs.worlds.SatisfiedWorlds.{satisfied}
use Rattle.definition_laws.proofs.worlds.SatisfyingPlaces.{selection_of}
use Rattle.definition_laws.proofs.worlds.UnsatisfiedCommands.{none_for, refused, refuses}
use Rattle.definition_laws.proofs.worlds.a_selection_satisfies_world_exactly_if_packages_do.Goals as goal

pub returns-clause-satisfied : goal.returns-clause-satisfied
returns-clause-satisfied c = satisfied

pub returns-clause-found : goal.returns-clause-found
returns-clause-found c = selection_of

pub returns-clause-none : goal.returns-clause-none
returns-clause-none c = none_for

pub returns-clause-refused : goal.returns-clause-refused
returns-clause-refused c = refused

pub returns-clause-refuses : goal.returns-clause-refuses
returns-clause-refuses c = refuses
