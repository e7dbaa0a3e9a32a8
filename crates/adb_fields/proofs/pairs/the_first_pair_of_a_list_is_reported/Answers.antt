use Rattle.adb_fields.specs.Repeated.{numbered_from}
use Rattle.adb_fields.proofs.FirstPair.{least_pair_of_equal_names-first}
use Rattle.adb_fields.proofs.pairs.the_first_pair_of_a_list_is_reported.Goals as goal

pub returns : goal.returns
returns c = λ names. least_pair_of_equal_names-first (numbered_from 1 names)
