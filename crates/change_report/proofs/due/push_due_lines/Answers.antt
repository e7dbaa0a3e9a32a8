use Rattle.std.proofs.Common.{◌∙◌, ◌+◌, List, ℕ, Bor, drop, map, ap, sym}
use Rattle.change_outcome.specs.adb_schema.Views.{package_value}
use Rattle.change_outcome.specs.Triggers.{due_trigger_lines_for_folders, line_saying_trigger_is_due, watches_folder}
use Rattle.change_report.proofs.Loops.{all_told, lines_where, made_at, made_none, no_lines, told}
use Rattle.change_report.proofs.due.push_due_lines.Goals as goal

pub returns : goal.returns
returns c =
    let pkg = package_value c.args.pkg.now in
    all_told _ _ _ (ap (λ z. due_trigger_lines_for_folders z pkg) (made_none (λ (f : Bor (List ℕ)). f.now) c.args.folders.now c.loop-folder.folder-index c.loop-folder-test.false))
    c.loop-folder.invariant

pub loop-folder-preserved : goal.loop-folder-preserved
loop-folder-preserved c =
    let pkg = package_value c.args.pkg.now in
    let rest = drop (c.loop-folder.folder-index + 1) (map (λ (f : Bor (List ℕ)). f.now) c.args.folders.now) in
    told _ _ _ _ (due_trigger_lines_for_folders rest pkg) _ c.in_ok-push_line_if_watched.ensures
    (ap (λ z. due_trigger_lines_for_folders z pkg) (made_at (λ (f : Bor (List ℕ)). f.now) c.args.folders.now c.loop-folder.folder-index _ c.loop-folder-test.true)
    ∙ lines_where (line_saying_trigger_is_due pkg) _ (watches_folder pkg) _ rest (sym c.has_trigger_script.ensures ∙ c.if-not-has_trigger_script.false))
    c.loop-folder.invariant

pub returns-then-not-has_trigger_script : goal.returns-then-not-has_trigger_script
returns-then-not-has_trigger_script c =
    no_lines (line_saying_trigger_is_due (package_value c.args.pkg.now)) _ (watches_folder (package_value c.args.pkg.now)) (map (λ (f : Bor (List ℕ)). f.now) c.args.folders.now) c.args.report.now
    (sym c.has_trigger_script.ensures ∙ c.if-not-has_trigger_script.true)
