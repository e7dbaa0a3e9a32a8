-- The results of the commands that only report on an installed root: their reports, and their refusals.
-- Each command's rules are in `docs/commands.md`, under its name.
use Rattle.std.specs.Prelude.{[], None, Result, Ok}
use Rattle.command_core.specs.Command.{CommandLine}
use Rattle.command_core.specs.declared.command.Applet.{Applet}
use Rattle.command_core.specs.declared.command.Applet.TheVariants.{Audit, Info, List as ListApplet, Manifest, Policy, Search}
use Rattle.tell_core.specs.Info.{report_and_refusal}
use Rattle.tell_core.specs.declared.info.reporting.ReportAndRefusal.{ReportAndRefusal}
use Rattle.change_inputs.specs.make_info.Reads.{Reads}
use Rattle.report_core.specs.declared.refusal.Refusal.{Refusal}
use Rattle.tell_core.specs.AuditResult.{audit_result, manifest_result}
use Rattle.tell_core.specs.InfoResult.{info_result}
use Rattle.tell_core.specs.QueryResult.{query_result}

-- what a command with this applet reports, or why it is refused, given the results of the reads. Any
-- other applet has an empty report here
abbrev pub report_for_applet : Applet → CommandLine → Reads → Result ReportAndRefusal Refusal
report_for_applet Info command read = info_result command read
report_for_applet Audit command read = audit_result command read
report_for_applet Manifest command read = manifest_result command read
report_for_applet ListApplet command read = query_result command read
report_for_applet Search command read = query_result command read
report_for_applet Policy command read = query_result command read
report_for_applet other command read = Ok (report_and_refusal [] None)

-- what a command reports, by what reads find, or why it is refused
abbrev pub report_for_command : CommandLine → Reads → Result ReportAndRefusal Refusal
report_for_command command read = report_for_applet command.applet command read
