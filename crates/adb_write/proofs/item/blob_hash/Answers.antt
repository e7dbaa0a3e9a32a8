use Rattle.std.proofs.Common.{sym, arith}
use Rattle.std.proofs.lemmas.List.{length-take-le}
use Rattle.adb_write.specs.Keys.{END}
use Rattle.adb_write.proofs.item.blob_hash.Goals as goal

pub slice_bounds-write-end : goal.slice_bounds-write-end
slice_bounds-write-end c = sym (length-take-le END c.args.bytes.now (omega (arith, c.if-bytes.false)))
