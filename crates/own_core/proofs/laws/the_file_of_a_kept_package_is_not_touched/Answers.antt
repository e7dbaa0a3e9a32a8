use Rattle.own_core.proofs.Untouched.{left_where_it_stays, stays_as_it_is, unwritten_where_it_stays}
use Rattle.own_core.proofs.laws.the_file_of_a_kept_package_is_not_touched.Goals as goal

pub returns-clause-plan : goal.returns-clause-plan
returns-clause-plan c = λ change files path l owner stays.
    (unwritten_where_it_stays change files path l owner stays, left_where_it_stays change files path l owner)

pub returns-clause-file : goal.returns-clause-file
returns-clause-file c = stays_as_it_is
