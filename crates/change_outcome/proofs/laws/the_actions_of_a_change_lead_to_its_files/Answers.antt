use Rattle.change_outcome.specs.ChangeOutcome.{intent_of_change, database_and_world_after_change}
use Rattle.package_changes.specs.own_core.FilesAfter.{files_after_change}
use Rattle.change_outcome.proofs.ChangeLeads.{leads}
use Rattle.change_outcome.proofs.Leading.{acted_is}
use Rattle.change_outcome.proofs.laws.the_actions_of_a_change_lead_to_its_files.Goals as goal

pub returns : goal.returns
returns c = λ inputs change bytes_of database files free root empty few.
    acted_is (intent_of_change inputs change files (database_and_world_after_change inputs database)).removals (intent_of_change inputs change files (database_and_world_after_change inputs database)).writes files
    (files_after_change change bytes_of (database_and_world_after_change inputs database) files) (leads inputs change bytes_of database files root free empty few)
