use Rattle.adb_write.proofs.Overflow.{fits_written, larger_refused}
use Rattle.adb_write.proofs.laws.a_value_is_written_up_to_both_limits.Goals as goal

pub returns : goal.returns
returns c = record { written = fits_written; refused = larger_refused }
