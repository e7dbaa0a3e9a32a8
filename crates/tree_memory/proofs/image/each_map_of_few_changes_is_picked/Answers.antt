use Rattle.tree_memory.proofs.Undoing.{each_picked}
use Rattle.tree_memory.proofs.image.each_map_of_few_changes_is_picked.Goals as goal

pub returns : goal.returns
returns c = each_picked
