use Rattle.make_core.proofs.IndexPackages.{made_in_order}
use Rattle.make_core.proofs.OpenedPackage.{Values}
use Rattle.make_core.proofs.laws.a_made_index_has_its_packages_in_order.Goals as goal

pub returns : goal.returns
returns c =
    let values : Values = record { normal = c.values_are_normal.ensures; shapes = c.values_have_their_shape.ensures.word; faultless = c.values_of_few_visits_have_no_fault.ensures } in
    made_in_order c.an_index_is_in_order.ensures.same c.an_index_is_in_order.ensures.sorted c.what_a_container_is_made_of_is_read_back.ensures.value c.a_value_overflows_exactly_past_a_limit.ensures values
