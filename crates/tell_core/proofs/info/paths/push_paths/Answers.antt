use Rattle.std.proofs.Common.{◌+◌, drop, ap, arith}
use Rattle.std.specs.List.{flat_map}
use Rattle.candidate_core.specs.adb_fields.ListValue.{list_value}
use Rattle.candidate_core.specs.adb_fields.Repeated.{list_of, paths_of_folder_files}
use Rattle.candidate_core.proofs.adb_fields.Listed.{none_listed}
use Rattle.adb_view.specs.Values.{entries_in, nth}
use Rattle.report_core.specs.Reports.{report_lines}
use Rattle.tell_core.proofs.LineSteps.{all_told, folder_left, told}
use Rattle.tell_core.proofs.info.paths.push_paths.Goals as goal

pub loop-i-preserved : goal.loop-i-preserved
loop-i-preserved c =
    let vs = entries_in (list_value c.args.folders.now) in
    told _ _ (report_lines (paths_of_folder_files (nth vs c.loop-i.i))) _ (report_lines (flat_map paths_of_folder_files (drop (c.loop-i.i + 1) (list_of vs)))) _
    c.in_ok-push_folder.ensures (folder_left vs c.loop-i.i (omega (arith, c.len-i-end.ensures.value, c.loop-i-test.true))) c.loop-i.invariant

pub returns : goal.returns
returns c =
    let vs = entries_in (list_value c.args.folders.now) in
    all_told _ _ _ (ap (λ z. report_lines (flat_map paths_of_folder_files z)) (none_listed vs c.loop-i.i (omega (arith, c.len-i-end.ensures.value, c.loop-i-test.false, c.loop-i.auto.i-end)))) c.loop-i.invariant
