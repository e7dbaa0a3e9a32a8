use Rattle.std.proofs.Common.{OnOk, ◌≡◌, refl, subst}
use Rattle.adb_view.specs.Plain.{null, none, more, blob_or_null, trimmed_object_or_null}
use Rattle.make_info.specs.adb_values.Drafts.{draft_with}
use Rattle.make_info.proofs.adb_values.Lists.{closed}
use Rattle.v2_core.specs.Database.{listed_access_value, listed_file_value, listed_hash_value}
use Rattle.v2_core.specs.Views.{access_view_if_any, hash_view}
use Rattle.v2_core.proofs.writing.write_file.Goals as goal

pub returns : goal.returns
returns c =
    let file = c.file.inside in
    subst (λ f. OnOk c.close_object.result (c.close_object.new.self ≡ draft_with (listed_file_value f) c.args.draft.now)) c.file.view_is
    (closed trimmed_object_or_null (more (blob_or_null file.name.now) (more (listed_access_value (access_view_if_any file.access)) (more null (more null (more (listed_hash_value (hash_view file.hash)) none))))) c.args.draft.now _ _ c.close_object.result c.close_object.ensures.ok
    (rw (c.in_ok-write_hash.ensures, c.in_ok-null-2.ensures.ok, c.in_ok-null.ensures.ok, c.in_ok-write_access.ensures, c.in_ok-blob.ensures.ok, c.in_ok-open_list.ensures.ok) refl))
