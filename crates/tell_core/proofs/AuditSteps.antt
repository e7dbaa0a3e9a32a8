-- What an audit comes to: the reads of the listed files are behind those of the databases.
use Rattle.std.proofs.Common.{◌≡◌, ◌≤◌, ℕ, zero, suc, List, [], ◌∷◌, Option, None, Result, Ok, refl, sym, ap, subst, ◌∙◌, arith}
use Rattle.std.specs.Result.{IsErrAnd}
use Rattle.adb_view.specs.Plain.{Plain}
use Rattle.audit_core.specs.Audit.{audit_report}
use Rattle.base_core.specs.Tree.{TreeState, files_of}
use Rattle.change_inputs.proofs.Handed.{failure_agrees, passed_part}
use Rattle.change_inputs.specs.Answers.{AgreesUnlessDiskOrMemory, IsDiskOrMemoryFailure}
use Rattle.change_inputs.specs.Database.{Database}
use Rattle.change_inputs.specs.Inputs.{database_for}
use Rattle.change_inputs.specs.Seen.{installed_seen}
use Rattle.change_inputs.specs.declared.installed.Installed.{Installed}
use Rattle.change_inputs.specs.declared.root.Refused.{Refused}
use Rattle.command_core.specs.Command.{CommandLine}
use Rattle.tell_core.specs.Info.{report_and_refusal}
use Rattle.tell_core.specs.declared.info.reporting.ReportAndRefusal.{ReportAndRefusal}
use Rattle.change_inputs.specs.make_info.Reads.{Reads}
use Rattle.change_inputs.proofs.package_files.ReadLemmas.{explained, explained_as}
use Rattle.change_inputs.specs.package_files.Runs.{AreReadsOfTreeIfObservable, HoldsOfSomeReadsOfTree}
use Rattle.report_core.specs.declared.refusal.Refusal.{Refusal}
use Rattle.tell_core.proofs.ReportSteps.{IsPartRead, IsReported}
use Rattle.tell_core.specs.AuditResult.{audit_of, first_audit_read_number}

-- the reads of the databases, and then others
reads_then : Reads → Reads → Reads
reads_then first others zero name = first 0 name
reads_then first others (suc zero) name = first 1 name
reads_then first others (suc (suc n)) name = others (suc (suc n)) name

observed_each : (v : TreeState) (rest : List TreeState) (first others : Reads) → AreReadsOfTreeIfObservable (v ∷ rest) first → AreReadsOfTreeIfObservable (v ∷ rest) others → (n : ℕ) (name : List ℕ) → reads_then first others n name ≡ files_of v name
unfolding reads_then
observed_each v rest first others a b zero name = a 0 name
observed_each v rest first others a b (suc zero) name = a 1 name
observed_each v rest first others a b (suc (suc n)) name = b (suc (suc n)) name

are_observed : (history : List TreeState) (first others : Reads) → AreReadsOfTreeIfObservable history first → AreReadsOfTreeIfObservable history others → AreReadsOfTreeIfObservable history (reads_then first others)
are_observed [] first others a b = tt
are_observed (v ∷ rest) first others a b = observed_each v rest first others a b

others_are : (first others : Reads) (n : ℕ) (name : List ℕ) → first_audit_read_number ≤ n → others n name ≡ reads_then first others n name
unfolding reads_then
others_are first others zero name later = absurd (omega arith)
others_are first others (suc zero) name later = absurd (omega arith)
others_are first others (suc (suc n)) name later = refl

same_database : (first others : Reads) (command : CommandLine) → database_for command (reads_then first others) ≡ database_for command first
unfolding reads_then
same_database first others command = refl

-- a report of an audit rests on the reads from its first on alone
abbrev RestsOnItsReads : Type 0
RestsOnItsReads = (read other : Reads) (first : ℕ) (packages : List Plain) → ((n : ℕ) (name : List ℕ) → first ≤ n → read n name ≡ other n name) → audit_report read first packages ≡ audit_report other first packages

pub audit_read : RestsOnItsReads → (history : List TreeState) (command : CommandLine) (result : Result ReportAndRefusal Refused) (installed : Installed) → IsPartRead installed_seen (database_for command) history (Ok installed)
    → HoldsOfSomeReadsOfTree history (λ read. AgreesUnlessDiskOrMemory (λ done. done) result (audit_of read (installed_seen installed))) → IsReported installed_seen (database_for command) history audit_of result
audit_read rests history command result installed seen audited =
    let read = reads_then seen.read audited.read in
    let packages = (installed_seen installed).packages in
    record {
      read = read;
      observed = are_observed history seen.read audited.read seen.observed audited.observed;
      is = passed_part (AgreesUnlessDiskOrMemory (λ done. done) result) (database_for command read) (installed_seen installed) (audit_of read)
          (subst (λ (d : Result Database Refusal). d ≡ Ok (installed_seen installed)) (sym (same_database seen.read audited.read command)) seen.is)
          (subst (λ (report : List ℕ). AgreesUnlessDiskOrMemory (λ done. done) result (Ok (report_and_refusal report None)))
          (rests audited.read read first_audit_read_number packages (others_are seen.read audited.read)) audited.is);
    }

-- ---- of a database that is read

module _ (history : List TreeState) (database : Database) where
  abbrev IsAuditOf : Result ReportAndRefusal Refused → Type 0
  IsAuditOf result = HoldsOfSomeReadsOfTree history (λ read. AgreesUnlessDiskOrMemory (λ (done : ReportAndRefusal). done) result (audit_of read database))

  pub audit_made : (packages : List Plain) (report : List ℕ) → packages ≡ database.packages → HoldsOfSomeReadsOfTree history (λ read. report ≡ audit_report read first_audit_read_number packages) → IsAuditOf (Ok (report_and_refusal report None))
  audit_made packages report same made = explained_as history (λ read. report ≡ audit_report read first_audit_read_number packages) (λ read. AgreesUnlessDiskOrMemory (λ (done : ReportAndRefusal). done) (Ok (report_and_refusal report None)) (audit_of read database)) made
      (λ read is. ap (λ (ps : List Plain). Ok (report_and_refusal (audit_report read first_audit_read_number ps) None)) (sym same) ∙ ap (λ (r : List ℕ). Ok (report_and_refusal r None)) (sym is))

  pub audit_failed : (result : Result ReportAndRefusal Refused) (fault : Refused) → IsErrAnd result (λ e. e ≡ fault) → IsDiskOrMemoryFailure fault → IsAuditOf result
  audit_failed result fault is failed = explained history (λ read. AgreesUnlessDiskOrMemory (λ (done : ReportAndRefusal). done) result (audit_of read database)) (λ read. failure_agrees (λ (done : ReportAndRefusal). done) (audit_of read database) result fault is failed)
