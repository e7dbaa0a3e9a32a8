use Rattle.std.proofs.Common.{[], refl}
use Rattle.adb_dump.proofs.text_out.line_len.Goals as goal

pub returns : goal.returns
returns c = c.in_ok-write_text.ensures [] [] refl
