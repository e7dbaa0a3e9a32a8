use Rattle.std.proofs.lemmas.Cmp.{nat_list_cmp_total}
use Rattle.base_core.specs.ByteOrder.{bytes_cmp}
use Rattle.base_core.proofs.Sorting.{sorted_same, sorted_up}
use Rattle.base_core.proofs.order.sorted_texts_are_in_order.Goals as goal

pub returns-clause-same : goal.returns-clause-same
returns-clause-same c = sorted_same bytes_cmp

pub returns-clause-sorted : goal.returns-clause-sorted
returns-clause-sorted c = sorted_up bytes_cmp nat_list_cmp_total
