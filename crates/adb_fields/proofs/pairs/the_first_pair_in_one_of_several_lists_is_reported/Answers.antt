use Rattle.adb_fields.proofs.FirstKinds.{least_positions_of_name_twice_in_one_list-first}
use Rattle.adb_fields.proofs.pairs.the_first_pair_in_one_of_several_lists_is_reported.Goals as goal

pub returns : goal.returns
returns c = least_positions_of_name_twice_in_one_list-first
