use Rattle.std.proofs.Common.{codes, refl}
use Rattle.adb_view.specs.Plain.{none, more, int, blob_or_null, trimmed_object_or_null}
use Rattle.package_files.proofs.adb_values.Lists.{closed}
use Rattle.make_core.proofs.packages.writing.write_acl.Goals as goal

pub returns : goal.returns
returns c =
    closed trimmed_object_or_null (more (int c.args.mode) (more (blob_or_null (codes "root")) (more (blob_or_null (codes "root")) none))) c.args.draft.now _ _ c.close_object.result c.close_object.ensures.ok
    (rw (c.in_ok-blob-2.ensures.ok, c.in_ok-blob.ensures.ok, c.in_ok-int.ensures.ok, c.in_ok-open_list.ensures.ok) refl)
