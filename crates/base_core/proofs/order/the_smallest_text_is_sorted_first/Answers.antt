use Rattle.base_core.proofs.Smallest.{smallest_first}
use Rattle.base_core.proofs.order.the_smallest_text_is_sorted_first.Goals as goal

pub returns : goal.returns
returns c = smallest_first
