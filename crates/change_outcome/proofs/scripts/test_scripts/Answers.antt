use Rattle.std.proofs.Common.{◌≡◌, ◌∙◌, true, Bool, ap, sym}
use Rattle.package_verifier.specs.adb_schema.Views.{package_value}
use Rattle.change_outcome.specs.PackageFiles.{scripts_of_change, unless_script_number, unless_script_needed}
use Rattle.package_changes.specs.Seen.{change_seen}
use Rattle.change_outcome.proofs.ToldRefusals.{told_agrees}
use Rattle.change_outcome.proofs.scripts.test_scripts.Goals as goal

pub returns-in-Some : goal.returns-in-Some
returns-in-Some c =
    told_agrees {A = Unit {0}} (λ _. true) _ c.told.result _
    (ap (λ b. unless_script_needed b c.args.name.now (package_value c.args.pkg.now) (scripts_of_change (change_seen c.args.change.now)) true) c.if-no_scripts.false
    ∙ ap (λ n. unless_script_number c.args.name.now n true) (sym (c.in-Some.ensures (package_value c.args.pkg.now) c.scripts.ensures)))
    (c.told.ensures _ c.script_needed.ensures)
