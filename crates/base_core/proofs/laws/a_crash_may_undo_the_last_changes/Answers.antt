use Rattle.base_core.proofs.Undone.{crash_is_one, image_is_left, map_may_be_left}
use Rattle.base_core.proofs.laws.a_crash_may_undo_the_last_changes.Goals as goal

pub returns-clause-map : goal.returns-clause-map
returns-clause-map c = map_may_be_left

pub returns-clause-image : goal.returns-clause-image
returns-clause-image c = image_is_left

pub returns-clause-crash : goal.returns-clause-crash
returns-clause-crash c = crash_is_one
