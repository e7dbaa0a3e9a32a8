use Rattle.std.proofs.Common.{◌≡◌, ◌∙◌, ◌+◌, ◌-◌, ap, arith}
use Rattle.path_clashes.specs.adb_fields.ListValue.{list_value}
use Rattle.path_clashes.specs.adb_fields.Paths.{path_of}
use Rattle.path_clashes.specs.adb_fields.Repeated.{name_of}
use Rattle.adb_view.specs.Values.{entry_at_index}
use Rattle.file_guard.specs.AsListed.{file_hash}
use Rattle.audit_core.proofs.ManifestSteps.{line_added}
use Rattle.audit_core.proofs.digests.push_file.Goals as goal

pub returns : goal.returns
returns c =
    let n : c.args.i + 1 - 1 ≡ c.args.i = omega arith in
    let file = c.get-file.ensures ∙ ap (entry_at_index (list_value c.args.files.now)) n in
    line_added _ _ _ c.push_path.new.report.items _ _ _ _ c.push_path.result c.in_ok-push_digest.ensures c.in_ok-extend_from_slice.ensures.items c.push_path.ensures
    (c.hashes.ensures ∙ ap file_hash file) (ap (path_of c.args.folder.now) (c.name.ensures ∙ ap name_of file))
