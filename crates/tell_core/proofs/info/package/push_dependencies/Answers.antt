use Rattle.std.proofs.Common.{◌≡◌, ◌∙◌, ◌+◌, ◌-◌, ◌++◌, [], map, drop, ap, arith}
use Rattle.std.specs.Option.{option_map_or}
use Rattle.candidate_core.specs.adb_fields.ListValue.{list_value}
use Rattle.candidate_core.specs.adb_fields.Repeated.{list_of}
use Rattle.candidate_core.proofs.adb_fields.Listed.{none_listed}
use Rattle.adb_view.specs.Values.{entries_in, entry_at_index, nth}
use Rattle.dep_core.specs.DependencyText.{dep_text}
use Rattle.candidate_core.specs.Candidates.{dependency_in}
use Rattle.report_core.specs.Reports.{report_line, report_lines}
use Rattle.tell_core.proofs.LineSteps.{all_told, dependencies_listed, dependency_left, dependency_lines, told}
use Rattle.tell_core.proofs.info.package.push_dependencies.Goals as goal

pub loop-i-preserved : goal.loop-i-preserved
loop-i-preserved c =
    let n : c.loop-i.i + 1 - 1 ≡ c.loop-i.i = omega arith in
    let vs = entries_in (list_value c.args.depends.now) in
    told _ _ (option_map_or (λ d. report_line (dep_text d)) (dependency_in (nth vs c.loop-i.i)) []) _ (dependency_lines (drop (c.loop-i.i + 1) (list_of vs))) _
    (c.in_ok-push_entry.ensures ∙ ap (λ v. c.loop-i.report.items ++ option_map_or (λ d. report_line (dep_text d)) (dependency_in v) []) (c.get.ensures ∙ ap (entry_at_index (list_value c.args.depends.now)) n))
    (dependency_left vs c.loop-i.i (omega (arith, c.len-i-end.ensures.value, c.loop-i-test.true)))
    c.loop-i.invariant

pub returns : goal.returns
returns c =
    let vs = entries_in (list_value c.args.depends.now) in
    all_told _ _ _ (ap dependency_lines (none_listed vs c.loop-i.i (omega (arith, c.len-i-end.ensures.value, c.loop-i-test.false, c.loop-i.auto.i-end)))) c.loop-i.invariant
    ∙ ap (λ ds. c.args.report.now.items ++ report_lines (map dep_text ds)) (dependencies_listed vs)
