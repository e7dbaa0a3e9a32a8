use Rattle.std.proofs.Common.{◌≡◌, List, ℕ, ap, refl, ◌∙◌}
use Rattle.adb_view.specs.Plain.{blob_or_null, trimmed_object_or_null}
use Rattle.package_files.specs.adb_values.Drafts.{DraftState, draft_with}
use Rattle.package_files.proofs.adb_values.Lists.{closed}
use Rattle.package_files.specs.Package.{script_fields}
use Rattle.make_core.specs.Scripts.{scripts_view}
use Rattle.make_core.proofs.packages.writing.write_scripts.Goals as goal

-- a blob of what is found is one of what is wanted
found_as : (old new : DraftState) (found wanted : List ℕ) → new ≡ draft_with (blob_or_null found) old → found ≡ wanted → new ≡ draft_with (blob_or_null wanted) old
found_as old new found wanted one e = one ∙ ap (λ (b : List ℕ). draft_with (blob_or_null b) old) e

pub returns : goal.returns
returns c =
    closed trimmed_object_or_null (script_fields (scripts_view c.args.scripts.now)) c.args.draft.now _ _ c.close_object.result c.close_object.ensures.ok
    (rw (
      found_as _ _ _ _ c.in_ok-blob-7.ensures.ok c.script_of-7.ensures,
      found_as _ _ _ _ c.in_ok-blob-6.ensures.ok c.script_of-6.ensures,
      found_as _ _ _ _ c.in_ok-blob-5.ensures.ok c.script_of-5.ensures,
      found_as _ _ _ _ c.in_ok-blob-4.ensures.ok c.script_of-4.ensures,
      found_as _ _ _ _ c.in_ok-blob-3.ensures.ok c.script_of-3.ensures,
      found_as _ _ _ _ c.in_ok-blob-2.ensures.ok c.script_of-2.ensures,
      found_as _ _ _ _ c.in_ok-blob.ensures.ok c.script_of.ensures,
      c.in_ok-open_list.ensures.ok,
    ) refl)
