use Rattle.own_core.proofs.RecordNames.{database_after, no_text_after, no_world_after, world_after}
use Rattle.own_core.proofs.laws.the_records_of_a_change_are_under_their_names.Goals as goal

pub returns-clause-database : goal.returns-clause-database
returns-clause-database c = database_after

pub returns-clause-world : goal.returns-clause-world
returns-clause-world c = world_after

pub returns-clause-no_world : goal.returns-clause-no_world
returns-clause-no_world c = no_world_after

pub returns-clause-text : goal.returns-clause-text
returns-clause-text c = no_text_after
