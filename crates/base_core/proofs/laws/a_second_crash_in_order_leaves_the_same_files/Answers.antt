use Rattle.base_core.proofs.Left.{crash_settles}
use Rattle.base_core.proofs.laws.a_second_crash_in_order_leaves_the_same_files.Goals as goal

pub returns : goal.returns
returns c = crash_settles
