use Rattle.std.proofs.Common.{◌≡◌, ◌∙◌, ◌+◌, ◌++◌, List, length, arith, drop, map, ap, sym}
use Rattle.std.proofs.lemmas.List.{drop_all, length-map}
use Rattle.report_core.specs.Reports.{Change, change_lines_from}
use Rattle.package_changes.specs.Placed.{PlacedChange}
use Rattle.package_changes.specs.Seen.{changes_seen}
use Rattle.package_changes.proofs.Lists.{all_told, left_at, told}
use Rattle.package_changes.proofs.ReportLines.{get_mapped}
use Rattle.package_changes.proofs.report.push_change_lines.Goals as goal

pub loop-i-preserved : goal.loop-i-preserved
loop-i-preserved c =
    let cs : List Change = map (λ (k : PlacedChange). k.change) (changes_seen c.args.changes.now) in
    told _ _ _ _ (change_lines_from (c.loop-i.i + 1 + 1) c.len-count.result (drop (c.loop-i.i + 1) cs)) _
    c.in_ok-push_change_line.ensures
    (ap (change_lines_from (c.loop-i.i + 1) c.len-count.result) (left_at cs c.loop-i.i _ (get_mapped (λ (k : PlacedChange). k.change) (changes_seen c.args.changes.now) c.loop-i.i _ c.get.ensures)))
    c.loop-i.invariant

pub returns : goal.returns
returns c =
    let cs : List Change = map (λ (k : PlacedChange). k.change) (changes_seen c.args.changes.now) in
    let long : length cs ≡ c.len-count.result = length-map (changes_seen c.args.changes.now) (λ (k : PlacedChange). k.change) ∙ sym c.len-count.ensures in
    all_told _ _ _ (ap (change_lines_from (c.loop-i.i + 1) c.len-count.result) (drop_all c.loop-i.i cs (omega (arith, long, c.loop-i-test.false, c.loop-i.auto.i-end)))) c.loop-i.invariant
    ∙ ap (λ n. c.args.report.now ++ change_lines_from 1 n cs) (sym long)
