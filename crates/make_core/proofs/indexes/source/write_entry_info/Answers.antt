use Rattle.adb_view.specs.Adb.{payload_of}
use Rattle.make_core.proofs.indexes.source.write_entry_info.Goals as goal

pub write_info-requires-clause-known : goal.write_info-requires-clause-known
write_info-requires-clause-known c = c.new-known.ensures (payload_of c.args.adb) c.args.draft.now
