use Rattle.std.proofs.Common.{List, ℕ, ap, refl, ◌∙◌}
use Rattle.adb_view.specs.Plain.{blob_or_null, trimmed_object_or_null}
use Rattle.package_files.specs.adb_values.Drafts.{draft_with}
use Rattle.package_files.proofs.adb_values.Lists.{closed}
use Rattle.package_files.specs.make_info.Values.{size_or_null_if_zero}
use Rattle.package_files.specs.Package.{file_fields}
use Rattle.make_core.proofs.packages.writing.write_file.Goals as goal

pub returns : goal.returns
returns c =
    let size = c.in_ok-write_size.ensures ∙ ap (λ (n : ℕ). draft_with (size_or_null_if_zero n) c.write_acl.new.draft) c.size.ensures in
    let hash = c.in_ok-blob-2.ensures.ok ∙ ap (λ (b : List ℕ). draft_with (blob_or_null b) c.null.new.self) c.hash.ensures in
    let target = c.in_ok-blob-3.ensures.ok ∙ ap (λ (b : List ℕ). draft_with (blob_or_null b) c.blob-2.new.self) c.target.ensures in
    closed trimmed_object_or_null (file_fields c.args.file.now.name.now c.args.file.now.kind) c.args.draft.now _ _ c.close_object.result c.close_object.ensures.ok
    (rw (target, hash, c.in_ok-null.ensures.ok, size, c.in_ok-write_acl.ensures, c.in_ok-blob.ensures.ok, c.in_ok-open_list.ensures.ok) refl)
