use Rattle.std.proofs.Common.{refl, arith}
use Rattle.adb_write.proofs.laws.a_file_is_spelled.Goals as goal

pub returns : goal.returns
returns c schema payload small long short = c.what_is_written_is_spelled.ensures schema _ small (record { order = refl; long = long }, omega arith, tt)
