-- A command that only reports is refused for its input alone.
use Rattle.std.proofs.Common.{◌≡◌, ℕ, Bool, true, false, List, [], ◌∷◌, ◌++◌, Option, Some, None, Result, Ok, Err, refl, ap, sym, subst, ◌∙◌}
use Rattle.adb_view.specs.Plain.{Plain}
use Rattle.tell_core.specs.audit_core.Manifest.{manifest_of, manifest_with_package_of_operand, package_named_by_operand, package_manifest}
use Rattle.tell_core.specs.candidate_core.Rank.{no_names}
use Rattle.tell_core.specs.change_inputs.Candidates.{root_pool}
use Rattle.tell_core.specs.change_inputs.Chains.{and_then}
use Rattle.tell_core.specs.change_inputs.Inputs.{database_for, inputs_of}
use Rattle.command_core.specs.Command.{CommandLine}
use Rattle.command_core.specs.declared.command.Applet.{Applet}
use Rattle.command_core.specs.declared.command.Applet.TheVariants.{Audit, Info, List as ListApplet, Manifest, Policy, Search}
use Rattle.command_core.specs.declared.operands.Operand.{Operand}
use Rattle.tell_core.specs.Info.{info_of}
use Rattle.tell_core.specs.InfoRefusals.{IsNotInstalledRefusalOfOperand}
use Rattle.tell_core.specs.declared.info.reporting.ReportAndRefusal.{ReportAndRefusal}
use Rattle.make_core.specs.make_info.Reads.{Reads}
use Rattle.report_core.specs.declared.refusal.Refusal.{Refusal}
use Rattle.tell_core.specs.AuditResult.{audit_of, manifest_report_or_refusal}
use Rattle.tell_core.specs.QueryResult.{query_report_or_refusal, query_result}
use Rattle.tell_core.specs.ReportForCommand.{report_for_command, report_for_applet}
use Rattle.outcome.proofs.Ends.{HasKnownRefusal, database_stated, inputs_stated, pool_stated, then_stated}
use Rattle.outcome.specs.ChangeEnd.{is_input_refusal}

abbrev IsAnsweredInFull : Refusal → Type 0
IsAnsweredInFull refusal = is_input_refusal refusal ≡ true

-- the refusal in the place of a report, or beside it, is one of the input
abbrev AreStated : Result ReportAndRefusal Refusal → Type 0
AreStated (Ok done) = (refusal : Refusal) → done.following_refusal ≡ Some refusal → IsAnsweredInFull refusal
AreStated (Err refusal) = IsAnsweredInFull refusal

then_all_stated : {A : Type 0} (a : Result A Refusal) (next : A → Result ReportAndRefusal Refusal) → HasKnownRefusal is_input_refusal a → ((x : A) → AreStated (next x)) → AreStated (and_then a next)
then_all_stated (Ok x) next h rest = rest x
then_all_stated (Err refusal) next h rest = h

-- ---- a manifest

-- with one operand more
with_stated : (o : Operand) (found : Option Plain) (further : Result (List ℕ) Refusal) → HasKnownRefusal is_input_refusal further → HasKnownRefusal is_input_refusal (manifest_with_package_of_operand o found further)
with_stated o None further h = refl
with_stated o (Some pkg) further h = then_stated is_input_refusal further (λ more. Ok (package_manifest pkg ++ more)) h (λ more. tt)

manifest_stated : (packages : List Plain) (operands : List Operand) → HasKnownRefusal is_input_refusal (manifest_of packages operands)
manifest_stated packages [] = tt
manifest_stated packages (o ∷ operands) = with_stated o (package_named_by_operand packages o) (manifest_of packages operands) (manifest_stated packages operands)

-- ---- a query

query_stated : (command : CommandLine) (read : Reads) → AreStated (query_result command read)
query_stated command read =
    then_all_stated (inputs_of command read) (query_report_or_refusal command) (inputs_stated command read)
    (λ inputs. then_all_stated (root_pool inputs no_names) _ (pool_stated inputs no_names) (λ pool refusal beside. absurd (cc (beside))))

module _ (refused : (c : CommandLine) (packages : List Plain) (refusal : Refusal) → info_of c packages ≡ Err refusal → IsNotInstalledRefusalOfOperand c.operands refusal)
    (following_refusal : (c : CommandLine) (packages : List Plain) (done : ReportAndRefusal) (refusal : Refusal) → info_of c packages ≡ Ok done → done.following_refusal ≡ Some refusal → (c.flags.installed ≡ true) × IsNotInstalledRefusalOfOperand c.operands refusal) where
  operand_stated : (command : CommandLine) (refusal : Refusal) → IsNotInstalledRefusalOfOperand command.operands refusal → IsAnsweredInFull refusal
  operand_stated command refusal (operand, among, is) = ap is_input_refusal is

  info_stated : (command : CommandLine) (packages : List Plain) (told : Result ReportAndRefusal Refusal) → info_of command packages ≡ told → AreStated told
  info_stated command packages (Ok done) is = λ refusal beside. operand_stated command refusal (following_refusal command packages done refusal is beside).1
  info_stated command packages (Err refusal) is = operand_stated command refusal (refused command packages refusal is)

  told_stated : (applet : Applet) (command : CommandLine) (read : Reads) → AreStated (report_for_applet applet command read)
  told_stated Info command read =
      then_all_stated (database_for command read) (λ database. info_of command database.packages) (database_stated command.flags.initdb _ _)
      (λ database. info_stated command database.packages (info_of command database.packages) refl)
  told_stated Audit command read =
      then_all_stated (database_for command read) (audit_of read) (database_stated command.flags.initdb _ _)
      (λ database refusal beside. absurd (cc (beside)))
  told_stated Manifest command read =
      then_all_stated (database_for command read) (manifest_report_or_refusal command) (database_stated command.flags.initdb _ _)
      (λ database. then_all_stated (manifest_of database.packages command.operands) _ (manifest_stated database.packages command.operands)
      (λ report refusal beside. absurd (cc (beside))))
  told_stated ListApplet command read = query_stated command read
  told_stated Search command read = query_stated command read
  told_stated Policy command read = query_stated command read
  told_stated other command read = λ refusal beside. absurd (cc (beside))

  pub refused_stated : (command : CommandLine) (read : Reads) (refusal : Refusal) → report_for_command command read ≡ Err refusal → IsAnsweredInFull refusal
  refused_stated command read refusal is = subst AreStated is (told_stated command.applet command read)

  pub late_stated : (command : CommandLine) (read : Reads) (done : ReportAndRefusal) (refusal : Refusal) → report_for_command command read ≡ Ok done → done.following_refusal ≡ Some refusal → IsAnsweredInFull refusal
  late_stated command read done refusal is beside = (subst AreStated is (told_stated command.applet command read)) refusal beside
