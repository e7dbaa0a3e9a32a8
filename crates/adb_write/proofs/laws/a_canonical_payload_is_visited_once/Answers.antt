use Rattle.adb_write.proofs.Visited.{canonical_visited}
use Rattle.adb_write.proofs.laws.a_canonical_payload_is_visited_once.Goals as goal

pub returns : goal.returns
returns c = canonical_visited
