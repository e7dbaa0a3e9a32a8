use Rattle.adb_sound.proofs.Lower.{Lower}
use Rattle.adb_sound.proofs.ReadBack.{package_back, value_back}
use Rattle.adb_sound.proofs.what_a_container_is_made_of_is_read_back.Goals as goal

pub returns : goal.returns
returns c =
    let laws : Lower = record {
      written = c.what_is_written_is_spelled.ensures;
      read = c.what_is_spelled_is_read.ensures;
      back = c.a_canonical_payload_is_read_back.ensures;
      visited = c.a_canonical_payload_is_visited_once.ensures;
      faultless = c.values_of_few_visits_have_no_fault.ensures;
    } in
    record { value = value_back laws; contents = package_back laws }
