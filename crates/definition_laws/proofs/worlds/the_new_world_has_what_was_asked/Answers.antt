use Rattle.definition_laws.proofs.worlds.NewWorlds.{holds_asked}
use Rattle.definition_laws.proofs.worlds.OneWorld.{one_world}
use Rattle.definition_laws.proofs.worlds.ReadWorlds.{of_inputs}
use Rattle.definition_laws.proofs.worlds.the_new_world_has_what_was_asked.Goals as goal

pub returns-clause-world : goal.returns-clause-world
returns-clause-world c = holds_asked

pub returns-clause-read : goal.returns-clause-read
returns-clause-read c = of_inputs

pub returns-clause-one : goal.returns-clause-one
returns-clause-one c = one_world
