use Rattle.adb_write.proofs.Overflow.{overflow_exact}
use Rattle.adb_write.proofs.laws.a_value_overflows_exactly_past_a_limit.Goals as goal

pub returns : goal.returns
returns c = overflow_exact
