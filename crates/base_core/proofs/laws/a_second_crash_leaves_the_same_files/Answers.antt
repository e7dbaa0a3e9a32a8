use Rattle.base_core.proofs.Undone.{second_crash_same}
use Rattle.base_core.proofs.laws.a_second_crash_leaves_the_same_files.Goals as goal

pub returns : goal.returns
returns c = second_crash_same
