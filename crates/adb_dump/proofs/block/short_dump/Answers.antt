use Rattle.std.proofs.Common.{◌∙◌, []}
use Rattle.adb_dump.proofs.block.short_dump.Goals as goal

pub returns : goal.returns
returns c = c.from_vec.ensures ∙ c.in_ok-write_dump.ensures [] c.in_ok-out.ensures
