-- A command that is refused has its fault.
use Rattle.std.proofs.Common.{◌≡◌, inl, inr, ◌∙◌, ℕ, ◌+◌, Bool, true, false, List, [], ◌∷◌, length, Option, Some, None, Result, Ok, Err, refl, ap, subst}
use Rattle.std.specs.Prelude.{nat_lt, if◌then◌else◌}
use Rattle.std.proofs.lemmas.Bool.{ltb-true, or_parts}
use Rattle.outcome.specs.adb_fields.FirstPair.{IsIn}
use Rattle.base_core.specs.Files.{Files}
use Rattle.outcome.specs.change_inputs.Candidates.{candidates_of, root_pool}
use Rattle.outcome.specs.change_inputs.Chains.{and_then}
use Rattle.outcome.specs.change_inputs.Inputs.{Inputs, inputs_of}
use Rattle.outcome.specs.change_outcome.ChangeOutcome.{ChangeDone, change_or_refusal}
use Rattle.command_core.specs.Command.{CommandLine}
use Rattle.command_core.specs.declared.command.Applet.{Applet}
use Rattle.command_core.specs.declared.command.Applet.TheVariants.{Del, Fix, Upgrade}
use Rattle.command_core.specs.declared.operands.Operand.{Operand}
use Rattle.dep_core.specs.World.{has_dependency_named}
use Rattle.outcome.specs.engine_core.Changed.{IsFirstClashOfCommand, IsFirstClashOrNoneIfRefused, IsFirstClashOrNoneIfSimulated, InputsAndReplacement, change_of_selected, change_of_command, selected_from_pool_by_choice, selected_from_reads_by_choice, selected_from_inputs_by_choice, simulated_change}
use Rattle.outcome.specs.engine_core.Choice.{IsPreferredChoiceOrNoneIfRefused}
use Rattle.outcome.specs.engine_core.Selecting.{pool_of_inputs_unless_too_many_candidates, pool_of_command}
use Rattle.outcome.specs.engine_core.Wishes.{place_of_first_unknown_operand, is_installed_name, is_name_in_world_or_installed, names_to_upgrade, unknown_operand_place, unless_unknown_operand, wishes_of}
use Rattle.outcome.specs.make_info.Reads.{Reads}
use Rattle.outcome.specs.path_clashes.Clash.{NamePair}
use Rattle.outcome.specs.candidate_core.Rank.{SelectionProblem, UpgradedNames, selection_problem_from_parts}
use Rattle.outcome.specs.candidate_core.declared.candidate_list.TheConstants.{MOST_CANDIDATES}
use Rattle.report_core.specs.declared.refusal.Refusal.{Refusal}
use Rattle.report_core.specs.declared.refusal.Refusal.TheVariants.{NotInstalled, TooMany, Unsatisfied}
use Rattle.refusal_laws.specs.CommandFaults.{IsFaultOfUnsimulatedChangeByCandidatePlaces, IsFaultOfCommandByCandidatePlaces, IsFaultOfSelection, IsNameUnknownToDelUpgradeOrFix}
use Rattle.refusal_laws.specs.InputFaults.{AreTooManyAndCountIsLimitPlusOne}
use Rattle.refusal_laws.proofs.ChangeFaults.{change_fault}
use Rattle.refusal_laws.proofs.InputFaults.{input_fault}
use Rattle.refusal_laws.proofs.Lists.{and_then_err}

-- ---- the candidates

abbrev pub kept_done : Result ChangeDone Refusal → Result ChangeDone Refusal
kept_done r = r

abbrev kept_pool : Result SelectionProblem Refusal → Result SelectionProblem Refusal
kept_pool r = r

pub pool_fault : (inputs : Inputs) (upgraded : UpgradedNames) (refusal : Refusal) → root_pool inputs upgraded ≡ Err refusal → (count : ℕ) × AreTooManyAndCountIsLimitPlusOne inputs count × (TooMany count ≡ refusal)
unfolding root_pool
pool_fault inputs upgraded refusal e = by_count (nat_lt MOST_CANDIDATES (length (candidates_of inputs))) refl e
  where
    by_count : (b : Bool) → nat_lt MOST_CANDIDATES (length (candidates_of inputs)) ≡ b
        → kept_pool (if b then Err (TooMany (MOST_CANDIDATES + 1)) else Ok (selection_problem_from_parts (candidates_of inputs) inputs.root.new_world upgraded)) ≡ Err refusal
        → (count : ℕ) × AreTooManyAndCountIsLimitPlusOne inputs count × (TooMany count ≡ refusal)
    by_count true more e = (MOST_CANDIDATES + 1, record { more = ltb-true MOST_CANDIDATES (length (candidates_of inputs)) more; told = refl }, (let same : TooMany (MOST_CANDIDATES + 1) ≡ refusal = cc in same))
    by_count false more e = absurd (cc (e))

-- ---- operands

unknown_in : (is_known : List ℕ → Bool) (operands : List Operand) (place : ℕ) → place_of_first_unknown_operand is_known operands ≡ Some place → (o : Operand) × IsIn o operands × (o.place ≡ place) × (is_known o.text ≡ false)
unknown_in is_known [] place e = absurd (cc (e))
unknown_in is_known (o ∷ operands) place e = by_test (is_known o.text) refl e (unknown_in is_known operands place)
  where
    by_test : (b : Bool) → is_known o.text ≡ b → (if b then place_of_first_unknown_operand is_known operands else Some o.place) ≡ Some place
        → (place_of_first_unknown_operand is_known operands ≡ Some place → (p : Operand) × IsIn p operands × (p.place ≡ place) × (is_known p.text ≡ false)) → (p : Operand) × IsIn p (o ∷ operands) × (p.place ≡ place) × (is_known p.text ≡ false)
    by_test true k e more = let other = more e in (other.0, inr other.1, other.2, other.3)
    by_test false k e more = (o, inl refl, (let same : o.place ≡ place = cc in same), k)

unknown_fault : (applet : Applet) (inputs : Inputs) (operands : List Operand) (place : ℕ) → unknown_operand_place applet inputs operands ≡ Some place
    → (o : Operand) × IsIn o operands × (o.place ≡ place) × IsNameUnknownToDelUpgradeOrFix applet inputs o.text
unknown_fault Del inputs operands place e =
    let found = unknown_in (is_name_in_world_or_installed inputs) operands place e in
    (found.0, found.1, found.2, or_parts (has_dependency_named found.0.text inputs.root.world) (is_installed_name inputs found.0.text) found.3)
unknown_fault Upgrade inputs operands place e = unknown_in (is_installed_name inputs) operands place e
unknown_fault Fix inputs operands place e = unknown_in (is_installed_name inputs) operands place e
unknown_fault applet inputs operands place e = absurd (cc (e))

-- ---- the selection

module _ (command : CommandLine) (read : Reads) (chosen : Option (List ℕ)) (choice : IsPreferredChoiceOrNoneIfRefused (pool_of_command command read) chosen) where
  abbrev IsSo : Inputs → Refusal → Type 0
  IsSo inputs refusal = IsFaultOfSelection command inputs refusal

  none_chosen : (inputs : Inputs) (pool : SelectionProblem) (o : Option (List ℕ)) (refusal : Refusal) → pool_of_inputs_unless_too_many_candidates command inputs ≡ Ok pool → IsPreferredChoiceOrNoneIfRefused (Ok pool) o → selected_from_pool_by_choice command inputs pool o ≡ Err refusal → IsSo inputs refusal
  none_chosen inputs pool None refusal is none e =
      let same : Unsatisfied ≡ refusal = cc in
      subst (IsSo inputs) same (record { pool = pool; is_pool = is; none = none })
  none_chosen inputs pool (Some trace) refusal is none e = absurd (cc (e))

  place_fault : (inputs : Inputs) (pool : SelectionProblem) (o : Option ℕ) (refusal : Refusal) → pool_of_inputs_unless_too_many_candidates command inputs ≡ Ok pool → IsPreferredChoiceOrNoneIfRefused (Ok pool) chosen → unknown_operand_place command.applet inputs command.operands ≡ o
      → unless_unknown_operand o (selected_from_pool_by_choice command inputs pool chosen) ≡ Err refusal → IsSo inputs refusal
  place_fault inputs pool None refusal is from known e = none_chosen inputs pool chosen refusal is from e
  place_fault inputs pool (Some place) refusal is from unknown e =
      let found = unknown_fault command.applet inputs command.operands place unknown in
      let same : NotInstalled place ≡ refusal = cc in
      subst (IsSo inputs) same (record { operand = found.0; given = found.1; at = found.2; unknown = found.3 })

  choice_of : (inputs : Inputs) (pool : SelectionProblem) → inputs_of command read ≡ Ok inputs → pool_of_inputs_unless_too_many_candidates command inputs ≡ Ok pool → IsPreferredChoiceOrNoneIfRefused (Ok pool) chosen
  choice_of inputs pool is has =
      let same : pool_of_command command read ≡ Ok pool = ap (λ (x : Result Inputs Refusal). and_then x (pool_of_inputs_unless_too_many_candidates command)) is ∙ has in
      subst (λ (x : Result SelectionProblem Refusal). IsPreferredChoiceOrNoneIfRefused x chosen) same choice

  selection_fault : (inputs : Inputs) (refusal : Refusal) → inputs_of command read ≡ Ok inputs → selected_from_inputs_by_choice command chosen inputs ≡ Err refusal → IsSo inputs refusal
  selection_fault inputs refusal is e =
      elim (and_then_err (pool_of_inputs_unless_too_many_candidates command inputs) (λ pool. unless_unknown_operand (unknown_operand_place command.applet inputs command.operands) (selected_from_pool_by_choice command inputs pool chosen)) refusal e) [
        | inl first ↦ (let many = pool_fault inputs (names_to_upgrade command.applet command.operands) refusal first in subst (IsSo inputs) many.2 many.1)
        | inr next ↦ place_fault inputs next.0 (unknown_operand_place command.applet inputs command.operands) refusal next.1 (choice_of inputs next.0 is next.1) refl next.2
      ]

  -- ---- the change

  done_or_refused : (files : Files) (clash : Option NamePair) (s : InputsAndReplacement) (refusal : Refusal) → selected_from_reads_by_choice command read chosen ≡ Ok s → IsFirstClashOrNoneIfRefused command read files (Ok s) clash
      → change_of_selected command read files clash s ≡ Err refusal → IsFaultOfUnsimulatedChangeByCandidatePlaces command read files chosen refusal
  done_or_refused files clash s refusal is clashes e = by_flag command.flags.simulate refl e
    where
      by_flag : (b : Bool) → command.flags.simulate ≡ b
          → kept_done (if b then Ok (simulated_change s.replacement (wishes_of command) files) else change_or_refusal s.inputs s.replacement (wishes_of command) read clash files) ≡ Err refusal → IsFaultOfUnsimulatedChangeByCandidatePlaces command read files chosen refusal
      by_flag true on e = absurd (cc (e))
      by_flag false off e =
          (s, is, off, change_fault s.inputs s.replacement (wishes_of command) read clash files refusal e (subst (λ b. IsFirstClashOrNoneIfSimulated b (wishes_of command) read files s clash) off clashes))

  pub command_fault : (files : Files) (clash : Option NamePair) (refusal : Refusal) → IsFirstClashOfCommand command read files chosen clash → change_of_command command read files chosen clash ≡ Err refusal → IsFaultOfCommandByCandidatePlaces command read files chosen refusal
  unfolding change_of_command
  command_fault files clash refusal clashes e =
      elim (and_then_err (selected_from_reads_by_choice command read chosen) (change_of_selected command read files clash) refusal e) [
        | inl first ↦ elim (and_then_err (inputs_of command read) (selected_from_inputs_by_choice command chosen) refusal first) [
          | inl input ↦ inl (input_fault command read refusal input)
          | inr next ↦ inr (inl (next.0, next.1, selection_fault next.0 refusal next.1 next.2))
        ]
        | inr next ↦ inr (inr (done_or_refused files clash next.0 refusal next.1
            (subst (λ (x : Result InputsAndReplacement Refusal). IsFirstClashOrNoneIfRefused command read files x clash) next.1 clashes) next.2))
      ]
