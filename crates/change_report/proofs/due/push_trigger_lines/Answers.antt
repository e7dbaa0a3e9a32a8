use Rattle.std.proofs.Common.{◌∙◌, ◌+◌, ◌++◌, List, ℕ, Bor, drop, map, ap, arith}
use Rattle.std.specs.List.{flat_map}
use Rattle.std.proofs.lemmas.List.{drop_all}
use Rattle.change_outcome.specs.db_core.Members.{Member}
use Rattle.change_outcome.specs.db_core.Seen.{members_of}
use Rattle.change_outcome.specs.Triggers.{due_trigger_lines_for_folders, trigger_lines}
use Rattle.change_report.proofs.Loops.{all_told, left_at, placed_at, told}
use Rattle.change_report.proofs.due.push_trigger_lines.Goals as goal

pub returns : goal.returns
unfolding trigger_lines
returns c = λ paths are.
    all_told _ _ _ (ap (flat_map (λ (m : Member). due_trigger_lines_for_folders (map (λ (f : Bor (List ℕ)). f.now) c.args.folders.now) m.pkg))
    (drop_all c.loop-i.i (members_of c.args.members.now) (omega (arith, c.len-i-end.ensures.value, c.loop-i-test.false)))) c.loop-i.invariant
    ∙ ap (λ z. c.args.report.now ++ flat_map (λ (m : Member). due_trigger_lines_for_folders z m.pkg) (members_of c.args.members.now)) are

pub loop-i-preserved : goal.loop-i-preserved
loop-i-preserved c =
    let here = placed_at (members_of c.args.members.now) c.loop-i.i (omega (arith, c.len-i-end.ensures.value, c.loop-i-test.true)) in
    let folders : List (List ℕ) = map (λ (f : Bor (List ℕ)). f.now) c.args.folders.now in
    told _ _ _ _ (flat_map (λ (m : Member). due_trigger_lines_for_folders folders m.pkg) (drop (c.loop-i.i + 1) (members_of c.args.members.now))) _
    (c.in_ok-push_due_lines.ensures ∙ ap (λ z. c.loop-i.report ++ due_trigger_lines_for_folders folders z) (c.view.ensures.value here.item here.is))
    (ap (flat_map (λ (m : Member). due_trigger_lines_for_folders folders m.pkg)) (left_at (members_of c.args.members.now) c.loop-i.i here.item here.is))
    c.loop-i.invariant
