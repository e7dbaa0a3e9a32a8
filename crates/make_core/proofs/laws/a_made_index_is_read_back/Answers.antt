use Rattle.make_core.proofs.SoundIndex.{made_back}
use Rattle.make_core.proofs.OpenedPackage.{Values}
use Rattle.make_core.proofs.laws.a_made_index_is_read_back.Goals as goal

pub returns : goal.returns
returns c =
    let values : Values = record { normal = c.values_are_normal.ensures; shapes = c.values_have_their_shape.ensures.word; faultless = c.values_of_few_visits_have_no_fault.ensures } in
    made_back c.what_a_container_is_made_of_is_read_back.ensures.value c.a_value_overflows_exactly_past_a_limit.ensures values
