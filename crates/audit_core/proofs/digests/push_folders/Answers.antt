use Rattle.std.proofs.Common.{◌∙◌, ◌++◌, ap, arith}
use Rattle.std.specs.List.{flat_map}
use Rattle.path_clashes.specs.adb_fields.ListValue.{list_value}
use Rattle.path_clashes.specs.adb_fields.Repeated.{list_of}
use Rattle.adb_view.specs.Values.{entries_in, nth}
use Rattle.db_core.proofs.Places.{nth_listed}
use Rattle.audit_core.specs.Manifest.{manifest_line}
use Rattle.audit_core.specs.Records.{folder_records}
use Rattle.audit_core.proofs.RecordSteps.{added_more, all_values_taken, flat_flat_taken}
use Rattle.audit_core.proofs.digests.push_folders.Goals as goal

pub loop-i-preserved : goal.loop-i-preserved
loop-i-preserved c =
    let vs = entries_in (list_value c.args.folders.now) in
    added_more _ _ _ (flat_map manifest_line (folder_records (nth vs c.loop-i.i))) _ _ c.in_ok-push_folder.ensures c.loop-i.invariant
    (flat_flat_taken manifest_line folder_records (list_of vs) c.loop-i.i (nth vs c.loop-i.i) (nth_listed vs c.loop-i.i (omega (arith, c.len-i-end.ensures.value, c.loop-i-test.true))))

pub returns : goal.returns
returns c =
    let vs = entries_in (list_value c.args.folders.now) in
    c.loop-i.invariant
    ∙ ap (λ xs. c.args.report.now.items ++ flat_map manifest_line (flat_map folder_records xs))
    (all_values_taken vs c.loop-i.i (omega (arith, c.len-i-end.ensures.value, c.loop-i-test.false, c.loop-i.auto.i-end)))
