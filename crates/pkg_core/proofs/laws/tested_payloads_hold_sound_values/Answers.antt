use Rattle.adb_schema.proofs.Sound.{Laws, normal_value, sound_value}
use Rattle.pkg_core.proofs.laws.tested_payloads_hold_sound_values.Goals as goal

pub returns : goal.returns
returns c =
    let laws : Laws = record {
      visited = c.values_of_few_visits_have_no_fault.ensures;
      shaped = c.values_have_their_shape.ensures.word;
      kept = c.no_text_is_bad_where_each_keeps_its_rule.ensures;
      once = c.no_repeated_name_is_reported_if_there_is_none.ensures;
    } in
    record {
      value = sound_value laws;
      normal = λ which payload passed bytes. normal_value laws which payload passed (c.values_are_normal.ensures payload bytes _ _);
    }
