-- An `info` that is refused is refused for its fault.
use Rattle.std.proofs.Common.{◌≡◌, inl, inr, ℕ, Bool, true, false, List, Option, Some, None, Result, Ok, Err, refl, subst}
use Rattle.outcome.proofs.Lacking.{text_remembers}
use Rattle.outcome.specs.adb_schema.Soundness.{container_fault_except_contents}
use Rattle.adb_view.specs.declared.tables.Which.TheVariants.{Idb}
use Rattle.outcome.specs.change_inputs.Database.{payload_database, root_database}
use Rattle.outcome.specs.change_inputs.Inputs.{database_for, database_read_number, text_database_read_number}
use Rattle.command_core.specs.Command.{CommandLine}
use Rattle.outcome.specs.tell_core.InfoResult.{info_result}
use Rattle.outcome.specs.tell_core.Info.{info_of}
use Rattle.outcome.specs.tell_core.declared.info.reporting.ReportAndRefusal.{ReportAndRefusal}
use Rattle.outcome.specs.make_info.Reads.{Reads}
use Rattle.report_core.specs.declared.refusal.Refusal.{Refusal}
use Rattle.report_core.specs.declared.refusal.Refusal.TheVariants.{DatabaseBad, NoDatabase, ResultTooLarge}
use Rattle.root_names.specs.RootNames.{database_name, text_database_name}
use Rattle.outcome.specs.v2_core.Payload.{payload_of_text}
use Rattle.outcome.specs.v2_core.declared.read.V2Fault.{V2Fault}
use Rattle.outcome.specs.v2_core.declared.read.V2Fault.TheVariants.{Bad, Memory, TooLarge}
use Rattle.refusal_laws.specs.InfoFaults.{AreOperandsFoundInstalled, IsFaultOfDatabase, IsFaultOfInfo, IsFaultOfFirstOperandNotFoundInstalled}
use Rattle.refusal_laws.proofs.InputFaults.{cause_err}
use Rattle.refusal_laws.proofs.InfoOperands.{operand_late, operand_refused, operands_told}
use Rattle.refusal_laws.proofs.Lists.{and_then_err, and_then_ok}

module _ (command : CommandLine) (read : Reads) where
  abbrev IsSo : Refusal → Type 0
  IsSo refusal = IsFaultOfDatabase command read refusal

  text_fault : (text : List ℕ) (refusal : Refusal) → read database_read_number database_name ≡ None → read text_database_read_number text_database_name ≡ Some text
      → (payload : Result (List ℕ) V2Fault) → payload_of_text text ≡ payload → payload_database payload ≡ Err refusal → IsSo refusal
  text_fault text refusal none some (Ok payload) is e = absurd (cc (e))
  text_fault text refusal none some (Err (Bad cause)) is e =
      let same : DatabaseBad cause ≡ refusal = cc in
      subst IsSo same (inr (record { container = none; text = text; is_text = some; refused = is }))
  text_fault text refusal none some (Err (TooLarge bytes values)) is e =
      let same : ResultTooLarge bytes values ≡ refusal = cc in
      subst IsSo same (record { container = none; text = text; is_text = some; refused = is })
  text_fault text refusal none some (Err Memory) is e = absurd (text_remembers text is)

  none_fault : (may_begin : Bool) (refusal : Refusal) → command.flags.initdb ≡ may_begin → read database_read_number database_name ≡ None → read text_database_read_number text_database_name ≡ None
      → root_database may_begin None None ≡ Err refusal → IsSo refusal
  none_fault true refusal begun none neither e = absurd (cc (e))
  none_fault false refusal begun none neither e =
      let same : NoDatabase ≡ refusal = cc in
      subst IsSo same (record { container = none; text = neither; not_begun = begun })

  pub database_fault : (file text : Option (List ℕ)) (refusal : Refusal) → read database_read_number database_name ≡ file → read text_database_read_number text_database_name ≡ text
      → root_database command.flags.initdb file text ≡ Err refusal → IsSo refusal
  database_fault (Some file) text refusal is other e =
      let why = cause_err DatabaseBad (container_fault_except_contents Idb file) _ refusal e in
      subst IsSo why.2 (inl (record { file = file; is_file = is; fault = why.1 }))
  database_fault None (Some text) refusal is other e = text_fault text refusal is other (payload_of_text text) refl e
  database_fault None None refusal is other e = none_fault command.flags.initdb refusal refl is other e

  pub info_fault : (refusal : Refusal) → info_result command read ≡ Err refusal → IsFaultOfInfo command read refusal
  info_fault refusal e =
      elim (and_then_err (database_for command read) (λ database. info_of command database.packages) refusal e) [
        | inl first ↦ inl (database_fault (read database_read_number database_name) (read text_database_read_number text_database_name) refusal refl refl first)
        | inr next ↦ inr (record { database = next.0; is_database = next.1; first = operand_refused command next.0.packages refusal next.2 })
      ]

  pub info_late : (done : ReportAndRefusal) (refusal : Refusal) → info_result command read ≡ Ok done → done.following_refusal ≡ Some refusal → (command.flags.installed ≡ true) × IsFaultOfFirstOperandNotFoundInstalled command read refusal
  info_late done refusal e following_refusal =
      let found = and_then_ok (database_for command read) (λ database. info_of command database.packages) done e in
      let is = operand_late command found.0.packages done refusal found.2 following_refusal in
      (is.0, record { database = found.0; is_database = found.1; first = is.1 })

  pub info_tells : (done : ReportAndRefusal) → info_result command read ≡ Ok done → done.following_refusal ≡ None → AreOperandsFoundInstalled command read
  info_tells done e following_refusal =
      let found = and_then_ok (database_for command read) (λ database. info_of command database.packages) done e in
      record { database = found.0; is_database = found.1; installed = operands_told command found.0.packages done found.2 following_refusal }
