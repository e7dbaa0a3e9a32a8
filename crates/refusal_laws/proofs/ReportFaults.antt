-- An `audit`, a `manifest` or a query that is refused is refused for its fault.
use Rattle.std.proofs.Common.{◌≡◌, inl, inr, ℕ, Bool, true, false, List, [], ◌∷◌, ◌++◌, Option, Some, None, Result, Ok, Err, refl, sym, ap, subst}
use Rattle.std.specs.Prelude.{is_some}
use Rattle.outcome.specs.adb_fields.FirstPair.{IsIn}
use Rattle.outcome.specs.adb_fields.Repeated.{package_name}
use Rattle.adb_view.specs.Plain.{Plain}
use Rattle.outcome.specs.audit_core.Manifest.{manifest_of, manifest_with_package_of_operand, package_named_by_operand, package_manifest, manifest_with_lines_before}
use Rattle.outcome.specs.candidate_core.Rank.{SelectionProblem, no_names}
use Rattle.outcome.specs.change_inputs.Candidates.{root_pool}
use Rattle.outcome.specs.change_inputs.Database.{Database}
use Rattle.outcome.specs.change_inputs.Inputs.{Inputs, database_for, database_read_number, inputs_of, text_database_read_number}
use Rattle.command_core.specs.Command.{CommandLine}
use Rattle.command_core.specs.declared.operands.Operand.{Operand}
use Rattle.outcome.specs.tell_core.Info.{report_and_refusal}
use Rattle.outcome.specs.make_info.Reads.{Reads}
use Rattle.outcome.specs.query_core.Queries.{text_of_query}
use Rattle.report_core.specs.declared.refusal.Refusal.{Refusal}
use Rattle.report_core.specs.declared.refusal.Refusal.TheVariants.{NotInstalled}
use Rattle.root_names.specs.RootNames.{database_name, text_database_name}
use Rattle.outcome.specs.tell_core.AuditResult.{audit_of, audit_result, manifest_report_or_refusal, manifest_result}
use Rattle.outcome.specs.tell_core.QueryResult.{query_report_or_refusal, query_result}
use Rattle.refusal_laws.specs.InfoFaults.{IsPackageAskedFor, IsFaultOfDatabase, IsFaultOfInfo, IsFirstNotInstalled, IsFoundInstalled}
use Rattle.refusal_laws.specs.QueryFaults.{HasTooManyCandidates, IsFaultOfInputOrTooManyCandidates}
use Rattle.refusal_laws.proofs.CommandFaults.{pool_fault}
use Rattle.refusal_laws.proofs.InfoFaults.{database_fault}
use Rattle.refusal_laws.proofs.InfoOperands.{named_there, none_named_there}
use Rattle.refusal_laws.proofs.InputFaults.{input_fault, no_refusal}
use Rattle.refusal_laws.proofs.Lists.{and_then_err}

-- ---- a manifest

-- a package of a name is installed
abbrev IsNamed : List Plain → List ℕ → Type 0
IsNamed packages name = (pkg : Plain) × IsIn pkg packages × (package_name pkg ≡ name)

abbrev AreNamed : List Plain → List Operand → Type 0
AreNamed packages operands = (o : Operand) → IsIn o operands → IsNamed packages o.text

-- the first operand that names no installed package
record IsFirstOf (packages : List Plain) (operands : List Operand) (refusal : Refusal) : Type 0 where
  pub before : List Operand
  pub operand : Operand
  pub after : List Operand
  pub are : operands ≡ before ++ operand ∷ after
  pub installed : AreNamed packages before
  pub missing : ¬ IsNamed packages operand.text
  pub told : refusal ≡ NotInstalled operand.place

one_named : (packages : List Plain) (o : Operand) (operands : List Operand) → IsNamed packages o.text → AreNamed packages operands → AreNamed packages (o ∷ operands)
one_named packages o operands is more p (inl same) = subst (λ (x : Operand). IsNamed packages x.text) (sym same) is
one_named packages o operands is more p (inr inside) = more p inside

further_err : (lines : List ℕ) (further : Result (List ℕ) Refusal) (refusal : Refusal) → manifest_with_lines_before lines further ≡ Err refusal → further ≡ Err refusal
further_err lines further refusal e =
    elim (and_then_err further (λ (more : List ℕ). Ok (lines ++ more)) refusal e) [
      | inl first ↦ first
      | inr next ↦ absurd (no_refusal (lines ++ next.0) refusal next.2)
    ]

first_of_operands : (packages : List Plain) (operands : List Operand) (refusal : Refusal) → manifest_of packages operands ≡ Err refusal → IsFirstOf packages operands refusal
first_of_operands packages [] refusal e = absurd (no_refusal [] refusal e)
first_of_operands packages (o ∷ operands) refusal e = by_package (package_named_by_operand packages o) refl e (first_of_operands packages operands refusal)
  where
    by_package : (found : Option Plain) → package_named_by_operand packages o ≡ found → manifest_with_package_of_operand o found (manifest_of packages operands) ≡ Err refusal
        → (manifest_of packages operands ≡ Err refusal → IsFirstOf packages operands refusal) → IsFirstOf packages (o ∷ operands) refusal
    by_package None is e more = record {
      before = [];
      operand = o;
      after = operands;
      are = refl;
      installed = λ p inside. absurd inside;
      missing = none_named_there packages o.text (ap is_some is);
      told = (let same : refusal ≡ NotInstalled o.place = cc in same);
    }
    by_package (Some pkg) is e more =
        let f = more (further_err (package_manifest pkg) (manifest_of packages operands) refusal e) in
        record {
          before = o ∷ f.before;
          operand = f.operand;
          after = f.after;
          are = ap (λ (xs : List Operand). o ∷ xs) f.are;
          installed = one_named packages o f.before (named_there packages o.text (ap is_some is)) f.installed;
          missing = f.missing;
          told = f.told;
        }

module _ (command : CommandLine) (named : command.flags.who_owns ≡ false) (packages : List Plain) where
  -- the command asks for packages by their names
  found_so : (text : List ℕ) → IsNamed packages text → IsFoundInstalled command packages text
  found_so text (pkg, here, asked) = (pkg, here, subst (λ (b : Bool). IsPackageAskedFor b text pkg) (sym named) asked)

  named_so : (text : List ℕ) → IsFoundInstalled command packages text → IsNamed packages text
  named_so text (pkg, here, asked) = (pkg, here, subst (λ (b : Bool). IsPackageAskedFor b text pkg) named asked)

  pub first_missing : (refusal : Refusal) → manifest_of packages command.operands ≡ Err refusal → IsFirstNotInstalled command packages refusal
  first_missing refusal e =
      let f = first_of_operands packages command.operands refusal e in
      record {
        before = f.before;
        operand = f.operand;
        after = f.after;
        are = f.are;
        installed = λ o here. found_so o.text (f.installed o here);
        missing = λ found. f.missing (named_so f.operand.text found);
        told = f.told;
      }

manifest_err : (command : CommandLine) (database : Database) (refusal : Refusal) → manifest_report_or_refusal command database ≡ Err refusal → manifest_of database.packages command.operands ≡ Err refusal
manifest_err command database refusal e =
    elim (and_then_err (manifest_of database.packages command.operands) (λ report. Ok (report_and_refusal report None)) refusal e) [
      | inl first ↦ first
      | inr next ↦ absurd (no_refusal (report_and_refusal next.0 None) refusal next.2)
    ]

-- ---- by what is read

module _ (command : CommandLine) (read : Reads) where
  pub audit_fault : (refusal : Refusal) → audit_result command read ≡ Err refusal → IsFaultOfDatabase command read refusal
  audit_fault refusal e =
      elim (and_then_err (database_for command read) (audit_of read) refusal e) [
        | inl first ↦ database_fault command read (read database_read_number database_name) (read text_database_read_number text_database_name) refusal refl refl first
        | inr next ↦ absurd (no_refusal _ refusal next.2)
      ]

  pub manifest_fault : (refusal : Refusal) → command.flags.who_owns ≡ false → manifest_result command read ≡ Err refusal → IsFaultOfInfo command read refusal
  manifest_fault refusal named e =
      elim (and_then_err (database_for command read) (manifest_report_or_refusal command) refusal e) [
        | inl first ↦ inl (database_fault command read (read database_read_number database_name) (read text_database_read_number text_database_name) refusal refl refl first)
        | inr next ↦ inr (record { database = next.0; is_database = next.1; first = first_missing command named next.0.packages refusal (manifest_err command next.0 refusal next.2) })
      ]

  too_many : (inputs : Inputs) (refusal : Refusal) → inputs_of command read ≡ Ok inputs → query_report_or_refusal command inputs ≡ Err refusal → HasTooManyCandidates command read refusal
  too_many inputs refusal are e =
      elim (and_then_err (root_pool inputs no_names) (λ (pool : SelectionProblem). Ok (report_and_refusal (text_of_query command pool inputs.root.repositories) None)) refusal e) [
        | inl first ↦ (let fault = pool_fault inputs no_names refusal first in record { inputs = inputs; are_inputs = are; count = fault.0; too_many = fault.1; is = sym fault.2 })
        | inr next ↦ absurd (no_refusal _ refusal next.2)
      ]

  pub query_fault : (refusal : Refusal) → query_result command read ≡ Err refusal → IsFaultOfInputOrTooManyCandidates command read refusal
  query_fault refusal e =
      elim (and_then_err (inputs_of command read) (query_report_or_refusal command) refusal e) [
        | inl first ↦ inl (input_fault command read refusal first)
        | inr next ↦ inr (too_many next.0 refusal next.1 next.2)
      ]
