use Rattle.std.proofs.Common.{ap, refl, ◌∙◌}
use Rattle.adb_view.specs.Plain.{none, more, blob_or_null, trimmed_object_or_null}
use Rattle.adb_values.specs.Drafts.{draft_with}
use Rattle.adb_values.proofs.Lists.{closed}
use Rattle.dep_core.specs.Meets.{dependency}
use Rattle.dep_core.specs.Value.{dep_value}
use Rattle.make_info.specs.Values.{number_or_null}
use Rattle.make_info.proofs.writing.write_need.Goals as goal

pub returns : goal.returns
returns c =
    let v = dep_value (dependency c.args.dep.now) in
    let matching = c.in_ok-write_number.ensures ∙ ap (λ n. draft_with (number_or_null n) c.write_version.new.draft) c.match_number_of.ensures in
    closed trimmed_object_or_null (more (blob_or_null v.name) (more (blob_or_null v.version) (more (number_or_null v.matching) none))) c.args.draft.now _ _ c.close_object.result c.close_object.ensures.ok
    (rw (matching, c.in_ok-write_version.ensures, c.in_ok-blob.ensures.ok, c.in_ok-open_list.ensures.ok) refl)
