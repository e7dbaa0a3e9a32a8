use Rattle.tree_memory.proofs.Undoing.{as_read_by_0}
use Rattle.tree_memory.proofs.image.no_change_is_undone_by_0.Goals as goal

pub returns : goal.returns
returns c = as_read_by_0
