use Rattle.std.proofs.Common.{◌≡◌, ◌∙◌, ◌+◌, ◌-◌, ◌++◌, ℕ, List, map, drop, ap, arith}
use Rattle.adb_view.specs.Plain.{Plain}
use Rattle.candidate_core.specs.adb_fields.ListValue.{list_value}
use Rattle.candidate_core.specs.adb_fields.Paths.{path_of}
use Rattle.candidate_core.specs.adb_fields.Repeated.{list_of, name_of}
use Rattle.candidate_core.proofs.adb_fields.Listed.{next_listed, none_listed}
use Rattle.adb_view.specs.Values.{entries_in, entry_at_index, nth}
use Rattle.report_core.specs.Reports.{report_line, report_lines}
use Rattle.tell_core.proofs.LineSteps.{all_told, told}
use Rattle.tell_core.proofs.info.paths.push_files.Goals as goal

pub loop-i-preserved : goal.loop-i-preserved
loop-i-preserved c =
    let n : c.loop-i.i + 1 - 1 ≡ c.loop-i.i = omega arith in
    let vs = entries_in (list_value c.args.files.now) in
    let lines : List Plain → List ℕ = λ files. report_lines (map (λ file. path_of c.args.folder.now (name_of file)) files) in
    told _ _ (report_line (path_of c.args.folder.now (name_of (nth vs c.loop-i.i)))) (lines (drop c.loop-i.i (list_of vs))) (lines (drop (c.loop-i.i + 1) (list_of vs))) _
    (c.in_ok-push_path.ensures ∙ ap (λ t. c.loop-i.report.items ++ report_line (path_of c.args.folder.now t)) (c.name.ensures ∙ ap name_of (c.get.ensures ∙ ap (entry_at_index (list_value c.args.files.now)) n)))
    (ap lines (next_listed vs c.loop-i.i (omega (arith, c.len-i-end.ensures.value, c.loop-i-test.true))))
    c.loop-i.invariant

pub returns : goal.returns
returns c =
    let vs = entries_in (list_value c.args.files.now) in
    let lines : List Plain → List ℕ = λ files. report_lines (map (λ file. path_of c.args.folder.now (name_of file)) files) in
    all_told _ _ _ (ap lines (none_listed vs c.loop-i.i (omega (arith, c.len-i-end.ensures.value, c.loop-i-test.false, c.loop-i.auto.i-end)))) c.loop-i.invariant
