use Rattle.outcome.proofs.adb_sound.Lower.{Lower}
use Rattle.definition_laws.proofs.dumps.Generating.{Texts, generated_again, generated_value}
use Rattle.definition_laws.proofs.dumps.what_is_printed_is_generated_again.Goals as goal

pub returns : goal.returns
returns c =
    let laws : Lower = record {
      written = c.what_is_written_is_spelled.ensures;
      read = c.what_is_spelled_is_read.ensures;
      back = c.a_canonical_payload_is_read_back.ensures;
      visited = c.a_canonical_payload_is_visited_once.ensures;
      faultless = c.values_of_few_visits_have_no_fault.ensures;
    } in
    let texts : Texts = record {
      said = c.a_text_is_accepted_exactly_if_a_root_has_it.ensures.said;
      accepted = c.a_text_is_accepted_exactly_if_a_root_has_it.ensures.accepted;
    } in
    record {
      value = generated_value texts c.values_found_in_bytes_are_of_their_table.ensures;
      canonical = generated_again laws c.a_value_overflows_exactly_past_a_limit.ensures texts;
    }
