use Rattle.adb_view.proofs.ShapeWalk.{fields_fault, fields_counted, fields_found}
use Rattle.adb_view.proofs.walk.a_walk_of_fields_reports_the_first_faulty_visit.Goals as goal

pub returns : goal.returns
returns c = record {
  fault = fields_fault;
  count = fields_counted;
  value = fields_found c.value_is_found_where_visits_are_sound.ensures.fields;
}
