use Rattle.std.proofs.Common.{refl}
use Rattle.adb_view.specs.Plain.{none, more, int, blob_or_null, trimmed_object_or_null}
use Rattle.make_info.proofs.adb_values.Lists.{closed}
use Rattle.v2_core.specs.Accesses.{access_view}
use Rattle.v2_core.proofs.writing.write_known_access.Goals as goal

pub returns : goal.returns
returns c =
    let a = access_view c.args.access.now in
    closed trimmed_object_or_null (more (int a.mode) (more (blob_or_null a.user) (more (blob_or_null a.group) none))) c.args.draft.now _ _ c.close_object.result c.close_object.ensures.ok
    (rw (c.in_ok-blob-2.ensures.ok, c.in_ok-blob.ensures.ok, c.in_ok-int.ensures.ok, c.in_ok-open_list.ensures.ok) refl)
