use Rattle.std.proofs.Common.{List, ℕ, Bor, ◌∙◌, sym, arith}
use Rattle.std.proofs.lemmas.List.{length-map}
use Rattle.change_outcome.specs.adb_schema.Views.{package_value}
use Rattle.change_outcome.specs.Triggers.{is_trigger_due, watches_folder}
use Rattle.change_report.proofs.Loops.{any_none, none_passes}
use Rattle.change_report.proofs.Watching.{names_of, not_watched_here, watched_here}
use Rattle.change_report.proofs.due.has_due_trigger.Goals as goal

pub returns : goal.returns
returns c =
    any_none (is_trigger_due (package_value c.args.pkg.now)) (names_of c.args.folders.now) c.loop-folder.folder-index
    (omega (arith, length-map c.args.folders.now (λ (f : Bor (List ℕ)). f.now), c.loop-folder-test.false)) c.loop-folder.invariant

pub returns-then-watches_folder : goal.returns-then-watches_folder
returns-then-watches_folder c =
    watched_here (package_value c.args.pkg.now) c.args.folders.now c.loop-folder.folder-index _ c.has_trigger_script.result c.watches_folder.result c.watches_folder.ensures
    c.has_trigger_script.ensures c.if-not-has_trigger_script.false c.loop-folder-test.true c.if-watches_folder.true c.loop-folder.invariant

pub loop-folder-preserved : goal.loop-folder-preserved
loop-folder-preserved c =
    not_watched_here (package_value c.args.pkg.now) c.args.folders.now c.loop-folder.folder-index _ c.has_trigger_script.result c.watches_folder.result c.watches_folder.ensures
    c.has_trigger_script.ensures c.if-not-has_trigger_script.false c.loop-folder-test.true c.if-watches_folder.false c.loop-folder.invariant

pub returns-then-not-has_trigger_script : goal.returns-then-not-has_trigger_script
returns-then-not-has_trigger_script c =
    none_passes _ (watches_folder (package_value c.args.pkg.now)) (names_of c.args.folders.now) (sym c.has_trigger_script.ensures ∙ c.if-not-has_trigger_script.true)
