use Rattle.adb_write.proofs.RoundTrip.{root_value_with_shape-canonical}
use Rattle.adb_write.proofs.laws.a_canonical_payload_is_read_back.Goals as goal

pub returns : goal.returns
returns c = root_value_with_shape-canonical
