use Rattle.std.proofs.Common.{[]}
use Rattle.adb_view.specs.Adb.{payload_of}
use Rattle.adb_view.specs.ShapedPayload.{adb_of}
use Rattle.adb_dump.proofs.block.dump_len.Goals as goal

pub returns : goal.returns
returns c = (c.in_ok-write_dump.ensures [] (c.new-count.ensures.none, c.new-count.ensures.lens (payload_of (adb_of c.args.shaped.now)))).0
