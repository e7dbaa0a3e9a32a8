-- The result of `info`, by what reads find. The rules are in `docs/commands.md`, "`info`"; the report is
-- defined in `Info`.
use Rattle.std.specs.Prelude.{Result}
use Rattle.change_inputs.specs.Chains.{and_then}
use Rattle.change_inputs.specs.Inputs.{database_for}
use Rattle.command_core.specs.Command.{CommandLine}
use Rattle.tell_core.specs.Info.{info_of}
use Rattle.tell_core.specs.declared.info.reporting.ReportAndRefusal.{ReportAndRefusal}
use Rattle.change_inputs.specs.make_info.Reads.{Reads}
use Rattle.report_core.specs.declared.refusal.Refusal.{Refusal}

-- the result of `info`: its report on the packages of the database, or the refusal of the database or of
-- the command. Of the root only the database is read
abbrev pub info_result : CommandLine → Reads → Result ReportAndRefusal Refusal
info_result command read =
    and_then (database_for command read) (λ database. info_of command database.packages)
