-- Runs by what is chosen and selected, joined to those by what is read.
use Rattle.std.proofs.Common.{◌≡◌, ℕ, Bool, true, List, Option, Some, None, Result, Ok, Err, refl, sym, ap, subst, ◌∙◌}
use Rattle.std.specs.Prelude.{All, if◌then◌else◌}
use Rattle.std.specs.Result.{IsErrAnd}
use Rattle.base_core.specs.Faults.{Counts}
use Rattle.base_core.specs.Tree.{IsWellFormed, TreeState}
use Rattle.change_report.specs.change_inputs.Answers.{Agrees, IsDiskOrMemoryFailure}
use Rattle.change_report.specs.change_inputs.Candidates.{root_pool}
use Rattle.change_report.specs.change_inputs.Chains.{and_then}
use Rattle.change_report.specs.change_inputs.Inputs.{Inputs}
use Rattle.change_report.specs.change_inputs.declared.root.Refused.{Refused}
use Rattle.change_report.specs.change_inputs.declared.root.Refused.TheVariants.{Disk, Memory, Refusal as IsRefused}
use Rattle.change_report.specs.change_outcome.ChangeOutcome.{ChangeDone, change_or_refusal}
use Rattle.command_core.specs.Command.{CommandLine}
use Rattle.change_report.specs.package_changes.Report.{simulated_report}
use Rattle.change_report.specs.candidate_core.Rank.{SelectionProblem, UpgradedNames}
use Rattle.report_core.specs.declared.refusal.Refusal.{Refusal}
use Rattle.report_core.specs.declared.refusal.Refusal.TheVariants.{NotInstalled}
use Rattle.engine_core.specs.Changed.{InputsAndReplacement, selected_from_pool_by_choice, selected_from_inputs_by_choice, simulated_change}
use Rattle.engine_core.specs.Choice.{IsPreferredChoice, IsPreferredChoiceOrNoneIfRefused}
use Rattle.engine_core.specs.Chosen.{IsResultOfChoice}
use Rattle.engine_core.specs.Runs.{IsRunOnSelection}
use Rattle.engine_core.specs.Selecting.{pool_of_inputs_unless_too_many_candidates, replacement_of_choice}
use Rattle.engine_core.specs.SelectionSeen.{IsSelectedFrom, selection_seen}
use Rattle.engine_core.specs.Wishes.{names_to_remove, names_to_reinstall, names_to_upgrade, unknown_operand_place, unless_unknown_operand, wishes_of}
use Rattle.engine_core.specs.declared.choosing.Selection.{Selection}
use Rattle.engine_core.proofs.Early.{HaveClash, IsOnlyRead, Seen, comes_to_idle, of_seen, seen_any, selected_failure, selected_refusal}

abbrev pub HaveChoice : Type 0
HaveChoice = (pool : Result SelectionProblem Refusal) → (chosen : Option (List ℕ)) × IsPreferredChoiceOrNoneIfRefused pool chosen

-- a run by these inputs, and by whatever is chosen among their candidates
abbrev pub IsRunBy :
    CommandLine → Inputs → List TreeState → List TreeState → Counts → Counts
    → Result (List ℕ) Refused → Type 0
IsRunBy command inputs old now before after result =
    (chosen : Option (List ℕ))
    × IsPreferredChoiceOrNoneIfRefused (pool_of_inputs_unless_too_many_candidates command inputs) chosen
    × IsRunOnSelection command (selected_from_inputs_by_choice command chosen inputs)
    old now before after result

pub with_error : {A : Type 0} (P : Result A Refused → Type 0) (r : Result A Refused) (fault : Refused) → IsErrAnd r (λ e. e ≡ fault) → P (Err fault) → P r
with_error P (Ok a) fault is p = absurd is
with_error P (Err e) fault is p = let Q : Refused → Type 0 = λ f. P (Err f) in subst Q (sym is) p

module _ (command : CommandLine) (inputs : Inputs) (old now : List TreeState) (before after : Counts) where
  pub run_failure : HaveChoice → HaveClash → All IsWellFormed old → IsOnlyRead old now before after → (fault : Refused) → IsDiskOrMemoryFailure fault → IsRunBy command inputs old now before after (Err fault)
  run_failure choose have whole quiet fault is =
      let (chosen, choice) = choose (pool_of_inputs_unless_too_many_candidates command inputs) in
      (chosen, choice, selected_failure command (selected_from_inputs_by_choice command chosen inputs) old now before after have whole quiet fault is)

  -- nothing is selected
  pub unselected_run : HaveClash → All IsWellFormed old → IsOnlyRead old now before after → (fault : Refused) → IsSelectedFrom command inputs (Err fault) → IsRunBy command inputs old now before after (Err fault)
  unselected_run have whole quiet (IsRefused refusal) (chosen, choice, is) =
      (chosen, choice, selected_refusal command (selected_from_inputs_by_choice command chosen inputs) old now before after have whole quiet refusal is)
  unselected_run have whole quiet Disk (chosen, choice, is) = absurd is
  unselected_run have whole quiet Memory (chosen, choice, is) =
      (chosen, choice, selected_failure command (selected_from_inputs_by_choice command chosen inputs) old now before after have whole quiet Memory tt)

  -- a selection is made
  pub selected_run : (s : Selection) (result : Result (List ℕ) Refused) → IsSelectedFrom command inputs (Ok s) → IsRunOnSelection command (Ok (selection_seen s)) old now before after result → IsRunBy command inputs old now before after result
  selected_run s result (chosen, choice, is) run = (chosen, choice, subst (λ (r : Result InputsAndReplacement Refusal). IsRunOnSelection command r old now before after result) (sym is) run)

-- ---- what is selected

module _ (command : CommandLine) (inputs : Inputs) where
  pub out_of_memory : HaveChoice → IsSelectedFrom command inputs (Err Memory)
  out_of_memory choose = let (chosen, choice) = choose (pool_of_inputs_unless_too_many_candidates command inputs) in (chosen, choice, tt)

  -- it is no I/O error
  pub not_disk : (fault : Refused) → IsSelectedFrom command inputs (Err fault) → fault ≡ Disk → ⊥
  not_disk (IsRefused refusal) selected is = cc
  not_disk Disk (chosen, choice, bad) is = bad
  not_disk Memory selected is = cc

  -- there are too many candidates
  pub without_pool : HaveChoice → (fault : Refused) (names : UpgradedNames) → names ≡ names_to_upgrade command.applet command.operands → Agrees (λ (pool : SelectionProblem). pool) (Err fault) (root_pool inputs names) → IsSelectedFrom command inputs (Err fault)
  without_pool choose fault names same agrees =
      by fault (subst (λ (p : Result SelectionProblem Refusal). Agrees (λ (pool : SelectionProblem). pool) (Err fault) p) (ap (root_pool inputs) same) agrees)
    where
      by : (fault : Refused) → Agrees (λ (pool : SelectionProblem). pool) (Err fault) (pool_of_inputs_unless_too_many_candidates command inputs) → IsSelectedFrom command inputs (Err fault)
      by (IsRefused refusal) is = (
        None,
        subst (λ (p : Result SelectionProblem Refusal). IsPreferredChoiceOrNoneIfRefused p None) (sym is) refl,
        ap (λ (p : Result SelectionProblem Refusal). and_then p (λ pool. unless_unknown_operand (unknown_operand_place command.applet inputs command.operands) (selected_from_pool_by_choice command inputs pool None))) is,
      )
      by Disk is = absurd is
      by Memory is = out_of_memory choose

  module _ (pool : SelectionProblem) (pool_is : pool_of_inputs_unless_too_many_candidates command inputs ≡ Ok pool) where
    selected_is : (chosen : Option (List ℕ)) (unknown : Option ℕ) → unknown_operand_place command.applet inputs command.operands ≡ unknown
        → selected_from_inputs_by_choice command chosen inputs ≡ unless_unknown_operand unknown (selected_from_pool_by_choice command inputs pool chosen)
    selected_is chosen unknown known_is =
        ap (λ (p : Result SelectionProblem Refusal). and_then p (λ pool. unless_unknown_operand (unknown_operand_place command.applet inputs command.operands) (selected_from_pool_by_choice command inputs pool chosen))) pool_is
        ∙ ap (λ (o : Option ℕ). unless_unknown_operand o (selected_from_pool_by_choice command inputs pool chosen)) known_is

    choice_is : (chosen : Option (List ℕ)) → IsPreferredChoice pool chosen → IsPreferredChoiceOrNoneIfRefused (pool_of_inputs_unless_too_many_candidates command inputs) chosen
    choice_is chosen choice = subst (λ (p : Result SelectionProblem Refusal). IsPreferredChoiceOrNoneIfRefused p chosen) (sym pool_is) choice

    -- an operand is not known
    pub unknown_operand_found : HaveChoice → (place : ℕ) → unknown_operand_place command.applet inputs command.operands ≡ Some place → IsSelectedFrom command inputs (Err (IsRefused (NotInstalled place)))
    unknown_operand_found choose place is =
        let (chosen, choice) = choose (pool_of_inputs_unless_too_many_candidates command inputs) in
        (chosen, choice, selected_is chosen (Some place) is)

    module _ (known : unknown_operand_place command.applet inputs command.operands ≡ None) (chosen : Option (List ℕ)) (choice : IsPreferredChoice pool chosen) where
      -- no selection satisfies the world
      pub unchosen : (fault : Refused) → IsResultOfChoice chosen (Err fault) → IsSelectedFrom command inputs (Err fault)
      unchosen (IsRefused refusal) is =
          (chosen, choice_is chosen choice, selected_is chosen None known ∙ ap (selected_from_pool_by_choice command inputs pool) is.0 ∙ ap Err (sym is.1))
      unchosen Disk is = absurd is
      unchosen Memory is = (chosen, choice_is chosen choice, tt)

      -- a selection does
      pub selection_by : (s : Selection) (trace : List ℕ) → chosen ≡ Some trace
          → record { inputs = inputs; replacement = replacement_of_choice (names_to_reinstall command.applet command.operands) inputs pool trace } ≡ selection_seen s
          → IsSelectedFrom command inputs (Ok s)
      selection_by s trace is seen =
          (chosen, choice_is chosen choice, selected_is chosen None known ∙ ap (selected_from_pool_by_choice command inputs pool) is ∙ ap Ok seen)

-- ---- a change that is only simulated

pub simulated_run : HaveClash → (command : CommandLine) (s : InputsAndReplacement) (old now : List TreeState) (before after : Counts) (report : List ℕ) → All IsWellFormed old → IsOnlyRead old now before after → command.flags.simulate ≡ true
    → report ≡ simulated_report s.replacement (names_to_remove command.applet command.operands) → IsRunOnSelection command (Ok s) old now before after (Ok report)
simulated_run have command s old now before after report whole quiet simulate told =
    let seen = seen_any have command (Ok s) old whole in
    let done : ChangeDone = simulated_change s.replacement (wishes_of command) seen.files in
    of_seen command (Ok s) old now before after seen (Ok report)
    (comes_to_idle _ _ old now before after quiet done report (by_flag seen command.flags.simulate simulate) refl told)
  where
    by_flag : (seen : Seen command (Ok s) old) (b : Bool) → b ≡ true
        → (if b then Ok (simulated_change s.replacement (wishes_of command) seen.files) else change_or_refusal s.inputs s.replacement (wishes_of command) seen.read seen.clash seen.files)
        ≡ Ok (simulated_change s.replacement (wishes_of command) seen.files)
    by_flag seen b is = ap (λ (t : Bool). if t then Ok (simulated_change s.replacement (wishes_of command) seen.files) else change_or_refusal s.inputs s.replacement (wishes_of command) seen.read seen.clash seen.files) is
