-- The results of `audit` and `manifest`, by what reads find. The rules are in `docs/commands.md`,
-- "`audit`" and "`manifest`"; the reports are defined in `audit_core`.
use Rattle.std.specs.Prelude.{ℕ, None, Result, Ok}
use Rattle.audit_core.specs.Audit.{audit_report}
use Rattle.audit_core.specs.Manifest.{manifest_of}
use Rattle.change_inputs.specs.Chains.{and_then}
use Rattle.change_inputs.specs.Database.{Database}
use Rattle.change_inputs.specs.Inputs.{database_for}
use Rattle.command_core.specs.Command.{CommandLine}
use Rattle.tell_core.specs.Info.{report_and_refusal}
use Rattle.tell_core.specs.declared.info.reporting.ReportAndRefusal.{ReportAndRefusal}
use Rattle.change_inputs.specs.make_info.Reads.{Reads}
use Rattle.report_core.specs.declared.refusal.Refusal.{Refusal}

-- the number of the read of the first listed file, counted from 0; the reads 0 and 1 are those of the
-- database and of the text database
abbrev pub first_audit_read_number : ℕ
first_audit_read_number = 2

-- what `audit` reports of the files of all packages of the database; `read` gives the results of the
-- reads of these files
abbrev pub audit_of : Reads → Database → Result ReportAndRefusal Refusal
audit_of read database =
    Ok (report_and_refusal (audit_report read first_audit_read_number database.packages) None)

-- the result of `audit`: its report on the database that is read, or the refusal of the database
abbrev pub audit_result : CommandLine → Reads → Result ReportAndRefusal Refusal
audit_result command read = and_then (database_for command read) (audit_of read)

-- what `manifest` reports on those packages of the database that its operands name; or the refusal, if an
-- operand names no installed package
abbrev pub manifest_report_or_refusal : CommandLine → Database → Result ReportAndRefusal Refusal
manifest_report_or_refusal command database =
    and_then (manifest_of database.packages command.operands) (λ report.
    Ok (report_and_refusal report None))

-- the result of `manifest`: its report on the database that is read; or the refusal of the database, or
-- of an operand
abbrev pub manifest_result : CommandLine → Reads → Result ReportAndRefusal Refusal
manifest_result command read =
    and_then (database_for command read) (manifest_report_or_refusal command)
