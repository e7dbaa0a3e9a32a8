use Rattle.adb_schema.specs.Soundness.{payload_in}
use Rattle.adb_schema.proofs.Sound.{Laws, sound_payload, sound_value, normal_value}
use Rattle.adb_schema.proofs.read.sound_containers_hold_sound_values.Goals as goal

pub returns : goal.returns
returns c =
    let laws : Laws = record {
      visited = c.values_of_few_visits_have_no_fault.ensures;
      shaped = c.values_have_their_shape.ensures.word;
      kept = c.no_text_is_bad_where_each_keeps_its_rule.ensures;
      once = c.no_repeated_name_is_reported_if_there_is_none.ensures;
    } in
    record {
      value = λ which file sound. sound_value laws which (payload_in file) (sound_payload which file sound);
      normal = λ which file sound bytes. normal_value laws which (payload_in file) (sound_payload which file sound) (c.values_are_normal.ensures (payload_in file) bytes _ _);
    }
