use Rattle.std.proofs.Common.{map, refl}
use Rattle.adb_view.specs.Plain.{none, more, array_or_null, blob_or_null, trimmed_object_or_null}
use Rattle.adb_copy.proofs.adb_values.Lists.{closed}
use Rattle.make_info.specs.Values.{plains_of_list}
use Rattle.make_core.specs.Index.{value_of_index}
use Rattle.make_core.specs.Views.{entry_view}
use Rattle.make_core.proofs.indexes.index.write_index.Goals as goal

pub returns : goal.returns
unfolding value_of_index
returns c =
    closed trimmed_object_or_null (more (blob_or_null c.args.description.now) (more (array_or_null (plains_of_list (map entry_view c.args.entries.now))) none)) c.args.draft.now _ _ c.close_object.result c.close_object.ensures.ok
    (rw (c.in_ok-write_entries.ensures, c.in_ok-blob.ensures.ok, c.in_ok-open_list.ensures.ok) refl)
