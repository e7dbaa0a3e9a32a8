use Rattle.base_core.proofs.Left.{map_is_left, read_is_left}
use Rattle.base_core.proofs.laws.a_crash_may_leave_the_files_as_read.Goals as goal

pub returns-clause-read : goal.returns-clause-read
returns-clause-read c = read_is_left

pub returns-clause-by_map : goal.returns-clause-by_map
returns-clause-by_map c = map_is_left
