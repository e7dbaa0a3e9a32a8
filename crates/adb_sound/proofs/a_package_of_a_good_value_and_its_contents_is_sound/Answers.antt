use Rattle.adb_sound.proofs.Lower.{Lower}
use Rattle.adb_sound.proofs.SoundFiles.{package_good}
use Rattle.adb_sound.proofs.a_package_of_a_good_value_and_its_contents_is_sound.Goals as goal

pub returns : goal.returns
returns c =
    let laws : Lower = record {
      written = c.what_is_written_is_spelled.ensures;
      read = c.what_is_spelled_is_read.ensures;
      back = c.a_canonical_payload_is_read_back.ensures;
      visited = c.a_canonical_payload_is_visited_once.ensures;
      faultless = c.values_of_few_visits_have_no_fault.ensures;
    } in
    package_good laws
