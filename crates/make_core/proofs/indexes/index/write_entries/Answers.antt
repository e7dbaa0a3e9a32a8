use Rattle.std.proofs.Common.{arith, map}
use Rattle.adb_view.specs.Plain.{array_or_null}
use Rattle.adb_copy.proofs.adb_values.Lists.{closed}
use Rattle.make_info.specs.Values.{plains_of_list}
use Rattle.make_info.proofs.Mapped.{mapped_left, mapped_open}
use Rattle.make_core.specs.Views.{entry_view}
use Rattle.make_core.proofs.indexes.index.write_entries.Goals as goal

pub loop-entry-preserved : goal.loop-entry-preserved
loop-entry-preserved c =
    mapped_left entry_view c.args.entries.now c.loop-entry.entry-index _ _ _ _ _ c.loop-entry-test.true c.entry-item.is c.loop-entry.invariant c.in_ok-write.ensures

pub returns : goal.returns
returns c =
    closed array_or_null (plains_of_list (map entry_view c.args.entries.now)) c.args.draft.now _ _ c.close_array.result c.close_array.ensures.ok
    (mapped_open entry_view c.args.entries.now c.loop-entry.entry-index _ _ _ (omega arith) c.loop-entry.invariant c.in_ok-open_list.ensures.ok)
