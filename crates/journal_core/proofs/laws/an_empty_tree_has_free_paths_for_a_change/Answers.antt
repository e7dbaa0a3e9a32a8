use Rattle.journal_core.proofs.Vacant.{room_for_file, room_to_stage}
use Rattle.journal_core.proofs.laws.an_empty_tree_has_free_paths_for_a_change.Goals as goal

pub returns-clause-stage : goal.returns-clause-stage
returns-clause-stage c = room_to_stage c.no_name_of_the_journal_is_a_folder_of_another.ensures

pub returns-clause-file : goal.returns-clause-file
returns-clause-file c = room_for_file
