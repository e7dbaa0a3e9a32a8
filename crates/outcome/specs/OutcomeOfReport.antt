-- The commands that only report on what is installed or available. The rules are in `docs/commands.md`,
-- under each command's name; their reports and refusals are defined in `tell_core`.
use Rattle.std.specs.Prelude.{Result, Ok, Err}
use Rattle.base_core.specs.Files.{Files}
use Rattle.tell_core.specs.declared.info.reporting.ReportAndRefusal.{ReportAndRefusal}
use Rattle.report_core.specs.declared.refusal.Refusal.{Refusal}
use Rattle.outcome.specs.Outcome.{Outcome, just_refusal, outcome_without_commit}

-- the outcome of a command that only reports: its report, with the refusal after it, if there is one; or a refusal
-- instead of a report. The files are unchanged.
abbrev pub outcome_of_report : Files → Result ReportAndRefusal Refusal → Outcome
outcome_of_report files (Ok done) = outcome_without_commit done.following_refusal done.report files
outcome_of_report files (Err refusal) = just_refusal files refusal
