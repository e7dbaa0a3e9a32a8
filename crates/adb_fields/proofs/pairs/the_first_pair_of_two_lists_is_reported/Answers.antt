use Rattle.adb_fields.specs.Repeated.{names_with_list_positions}
use Rattle.adb_fields.proofs.FirstPair.{least_pair_of_equal_names-first}
use Rattle.adb_fields.proofs.pairs.the_first_pair_of_two_lists_is_reported.Goals as goal

pub returns : goal.returns
returns c = λ lists. least_pair_of_equal_names-first (names_with_list_positions 1 lists)
