-- Which outcome an applet has, by its effect.
use Rattle.std.proofs.Common.{◌≡◌, false, refl, sym, ap}
use Rattle.std.specs.Prelude.{Result, Ok, Err}
use Rattle.base_core.specs.Files.{Files}
use Rattle.command_core.specs.Command.{CommandLine}
use Rattle.command_core.specs.declared.command.Applet.{Applet}
use Rattle.tell_core.specs.declared.info.reporting.ReportAndRefusal.{ReportAndRefusal}
use Rattle.make_core.specs.make_info.Reads.{Reads}
use Rattle.report_core.specs.declared.refusal.Refusal.{Refusal}
use Rattle.outcome.specs.Commands.{effect_outcome}
use Rattle.outcome.specs.Effect.{Effect, Changes, AsksRoot, effect_of}
use Rattle.outcome.specs.Given.{Given}
use Rattle.outcome.specs.OutcomeOfReport.{outcome_of_report}
use Rattle.tell_core.specs.ReportForCommand.{report_for_command}
use Rattle.engine_core.specs.Changed.{change_of_command}
use Rattle.outcome.specs.Changing.{change_outcome}

-- one that changes what is installed
pub change_is : (applet : Applet) (command : CommandLine) (given : Given) (read : Reads) (files : Files) → effect_of applet ≡ Changes → change_outcome files (change_of_command command read files given.chosen given.clash) ≡ effect_outcome (effect_of applet) applet command given read files
change_is applet command given read files changes = sym (ap (λ (e : Effect). effect_outcome e applet command given read files) changes)

-- one that only reports
pub report_is : (applet : Applet) (command : CommandLine) (given : Given) (read : Reads) (files : Files) → effect_of applet ≡ AsksRoot → outcome_of_report files (report_for_command command read) ≡ effect_outcome (effect_of applet) applet command given read files
report_is applet command given read files tells = sym (ap (λ (e : Effect). effect_outcome e applet command given read files) tells)

-- it leaves the files, and commits nothing
pub told_files : (files : Files) (told : Result ReportAndRefusal Refusal) → (outcome_of_report files told).files ≡ files
told_files files (Ok done) = refl
told_files files (Err refusal) = refl

pub told_commits : (files : Files) (told : Result ReportAndRefusal Refusal) → (outcome_of_report files told).commits ≡ false
told_commits files (Ok done) = refl
told_commits files (Err refusal) = refl
