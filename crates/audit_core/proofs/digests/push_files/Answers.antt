use Rattle.std.proofs.Common.{◌∙◌, ◌++◌, map, ap, arith}
use Rattle.std.specs.List.{flat_map}
use Rattle.adb_view.specs.Plain.{Plain}
use Rattle.path_clashes.specs.adb_fields.ListValue.{list_value}
use Rattle.path_clashes.specs.adb_fields.Repeated.{list_of}
use Rattle.adb_view.specs.Values.{entries_in, nth}
use Rattle.db_core.proofs.Places.{nth_listed}
use Rattle.audit_core.specs.Manifest.{manifest_line}
use Rattle.audit_core.specs.Records.{PathAndEntry, file_record}
use Rattle.audit_core.proofs.RecordSteps.{added_more, all_values_taken, flat_map_taken}
use Rattle.audit_core.proofs.digests.push_files.Goals as goal

pub loop-i-preserved : goal.loop-i-preserved
loop-i-preserved c =
    let vs = entries_in (list_value c.args.files.now) in
    let record_of : Plain → PathAndEntry = file_record c.args.folder.now in
    added_more _ _ _ (manifest_line (record_of (nth vs c.loop-i.i))) _ _ c.in_ok-push_file.ensures c.loop-i.invariant
    (flat_map_taken manifest_line record_of (list_of vs) c.loop-i.i (nth vs c.loop-i.i) (nth_listed vs c.loop-i.i (omega (arith, c.len-i-end.ensures.value, c.loop-i-test.true))))

pub returns : goal.returns
returns c =
    let vs = entries_in (list_value c.args.files.now) in
    c.loop-i.invariant
    ∙ ap (λ xs. c.args.report.now.items ++ flat_map manifest_line (map (file_record c.args.folder.now) xs))
    (all_values_taken vs c.loop-i.i (omega (arith, c.len-i-end.ensures.value, c.loop-i-test.false, c.loop-i.auto.i-end)))
