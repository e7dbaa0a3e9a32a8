-- A change takes the first preferred selection, or is refused.
use Rattle.std.proofs.Common.{◌≡◌, inl, inr, ◌∙◌, ℕ, ◌++◌, Bool, true, false, List, Option, Some, None, Result, Ok, Err, refl, sym, ap, subst, true≢false}
use Rattle.std.specs.Prelude.{if◌then◌else◌}
use Rattle.std.proofs.lemmas.List.{append_assoc}
use Rattle.base_core.specs.Files.{Files}
use Rattle.base_core.specs.declared.cause.Cause.{Cause}
use Rattle.tell_core.specs.change_inputs.Chains.{and_then}
use Rattle.tell_core.specs.change_inputs.Inputs.{Inputs, inputs_of}
use Rattle.engine_core.specs.change_outcome.Made.{IsChangeMade}
use Rattle.engine_core.specs.own_core.PlanLists.{paths_with_apk_new_file, kept_left_over_paths_of}
use Rattle.engine_core.specs.change_outcome.ChangeOutcome.{ChangeDone, ChangeWishes, change_or_refusal, packages_before_and_after_with_purge, member_sum_line, touched_paths}
use Rattle.engine_core.specs.change_outcome.ConfigurationLines.{lines_of_apk_new_and_kept_paths}
use Rattle.engine_core.specs.change_outcome.Triggers.{trigger_lines}
use Rattle.command_core.specs.Command.{CommandLine}
use Rattle.engine_core.specs.Changed.{IsFirstClashOfCommand, InputsAndReplacement, change_of_selected, change_of_command, selected_from_pool_by_choice, selected_from_inputs_by_choice, simulated_change}
use Rattle.engine_core.specs.Choice.{IsPreferredChoiceOrNoneIfRefused}
use Rattle.engine_core.specs.Selecting.{pool_of_inputs_unless_too_many_candidates, pool_of_command, replacement_of_choice}
use Rattle.engine_core.specs.Wishes.{names_to_reinstall, names_to_upgrade, unknown_operand_place, unless_unknown_operand, wishes_of}
use Rattle.make_core.specs.make_info.Reads.{Reads}
use Rattle.engine_core.specs.package_changes.Changes.{Replacement, changes_of}
use Rattle.engine_core.specs.package_changes.Report.{selected_sum_line, simulated_report, lines_on_names_that_stay}
use Rattle.tell_core.specs.path_clashes.Clash.{NamePair}
use Rattle.tell_core.specs.candidate_core.Rank.{SelectionProblem}
use Rattle.report_core.specs.Reports.{change_lines}
use Rattle.report_core.specs.declared.refusal.Refusal.{Refusal}
use Rattle.report_core.specs.declared.refusal.Refusal.TheVariants.{NotInstalled}
use Rattle.outcome.proofs.Applets.{change_is}
use Rattle.outcome.proofs.Ends.{HasKnownRefusal, inputs_stated, pool_stated}
use Rattle.outcome.proofs.PackageRefusals.{refusal_stated}
use Rattle.outcome.specs.ChangeEnd.{IsChangeEnd, IsEndOfSelectedChange, IsChangeEndAfterRecoveryOrIntentRefusal, is_input_refusal, is_refusal_after_choice}
use Rattle.outcome.specs.Changing.{change_outcome}
use Rattle.outcome.specs.Commands.{IsOutcomeWithoutDemo, IsOutcomeOverRecoveredFiles, IsOutcomeUnlessBadIntent, reads_in}
use Rattle.outcome.specs.Effect.{Changes, Effect, effect_of}
use Rattle.outcome.specs.Given.{IsPreferredChoiceForChangeElseNone, IsFirstClashForChangeElseNone}
use Rattle.outcome.specs.Outcome.{Outcome}
use Rattle.outcome.specs.Work.{recovery_fault, files_recovered_if_needed}

-- ---- what is made is reported

-- the report of a change begins with what becomes of each package
abbrev HasChangeLines : Replacement → List ℕ → Type 0
HasChangeLines r report = (rest : List ℕ) × (report ≡ change_lines (changes_of r) ++ rest)

-- what a change that is made is known by
abbrev pub IsMadeKnown : Type 0
IsMadeKnown = (inputs : Inputs) (r : Replacement) (wishes : ChangeWishes) (read : Reads) (clash : Option NamePair) (files : Files) (done : ChangeDone)
    → change_or_refusal inputs r wishes read clash files ≡ Ok done → IsChangeMade inputs r wishes read clash files done

simulated_lines : (r : Replacement) (to_remove : List (List ℕ)) → HasChangeLines r (simulated_report r to_remove)
unfolding simulated_report
simulated_lines r to_remove =
    let stays = lines_on_names_that_stay r.before r.selected to_remove in
    let sum = selected_sum_line r.selected in
    (stays ++ sum, append_assoc (change_lines (changes_of r)) stays sum)

made_lines : (inputs : Inputs) (r : Replacement) (wishes : ChangeWishes) (read : Reads) (clash : Option NamePair) (files : Files) (done : ChangeDone) → IsChangeMade inputs r wishes read clash files done → HasChangeLines r done.report
made_lines inputs r wishes read clash files done made =
    let change = packages_before_and_after_with_purge inputs wishes made.found in
    let lines = change_lines (changes_of r) in
    let stays = lines_on_names_that_stay r.before r.selected wishes.to_remove in
    let configuration = lines_of_apk_new_and_kept_paths (paths_with_apk_new_file change files) (kept_left_over_paths_of change files) in
    let triggers = trigger_lines (touched_paths change files) change.members in
    let sum = member_sum_line change.members in (
      stays ++ (configuration ++ (triggers ++ sum)),
      ap (λ (d : ChangeDone). d.report) made.is
          ∙ append_assoc (lines ++ stays ++ configuration) triggers sum
          ∙ append_assoc (lines ++ stays) configuration (triggers ++ sum)
          ∙ append_assoc lines stays (configuration ++ (triggers ++ sum)),
    )

-- ---- by what comes of it

-- with a command whose change is only simulated, or is made
abbrev MadeBy : CommandLine → Files → Option NamePair → InputsAndReplacement → Bool → Result ChangeDone Refusal
MadeBy command files clash s simulate =
    if simulate then Ok (simulated_change s.replacement (wishes_of command) files) else
    change_or_refusal s.inputs s.replacement (wishes_of command) (reads_in files) clash files

end_by : IsMadeKnown → (command : CommandLine) (files : Files) (clash : Option NamePair) (s : InputsAndReplacement) (simulate : Bool) → command.flags.simulate ≡ simulate
    → (result : Result ChangeDone Refusal) → MadeBy command files clash s simulate ≡ result → IsEndOfSelectedChange command files s result (change_outcome files result)
end_by known command files clash s true simulates (Ok done) is =
    let (rest, lines) = subst (λ (d : ChangeDone). HasChangeLines s.replacement d.report) (ap done_or is) (simulated_lines s.replacement (wishes_of command).to_remove) in
    record { outcome = refl; rest = rest; report = lines; simulated = λ simulated. (sym (ap (λ (r : Result ChangeDone Refusal). (done_or r).files) is), sym (ap (λ (r : Result ChangeDone Refusal). (done_or r).commits) is)) }
  where
    done_or : Result ChangeDone Refusal → ChangeDone
    done_or (Ok d) = d
    done_or (Err refusal) = done
end_by known command files clash s false simulates (Ok done) is =
    let (rest, lines) = made_lines s.inputs s.replacement (wishes_of command) (reads_in files) clash files done (known s.inputs s.replacement (wishes_of command) (reads_in files) clash files done is) in
    record { outcome = refl; rest = rest; report = lines; simulated = λ simulated. absurd (true≢false (sym simulated ∙ simulates)) }
end_by known command files clash s true simulates (Err refusal) is = absurd (cc (is))
end_by known command files clash s false simulates (Err refusal) is =
    (subst (HasKnownRefusal is_refusal_after_choice) is (refusal_stated s.inputs s.replacement (wishes_of command) (reads_in files) clash files), refl)

-- ---- by what is chosen

module _ (known : IsMadeKnown) (command : CommandLine) (files : Files) where
  -- the outcome of what comes of a selection, or of a refusal in its place
  abbrev end_of : Option NamePair → Result InputsAndReplacement Refusal → Outcome
  end_of clash selected = change_outcome files (and_then selected (change_of_selected command (reads_in files) files clash))

  by_choice : (inputs : Inputs) (pool : SelectionProblem) (chosen : Option (List ℕ)) (clash : Option NamePair)
      → inputs_of command (reads_in files) ≡ Ok inputs → pool_of_inputs_unless_too_many_candidates command inputs ≡ Ok pool → unknown_operand_place command.applet inputs command.operands ≡ None
      → IsPreferredChoiceOrNoneIfRefused (Ok pool) chosen → IsFirstClashOfCommand command (reads_in files) files chosen clash
      → IsChangeEnd command files (end_of clash (selected_from_pool_by_choice command inputs pool chosen))
  by_choice inputs pool None clash are is known_names choice is_clash =
      inr (inl (record { pool = pool; is_pool = ap (λ (r : Result Inputs Refusal). and_then r (pool_of_inputs_unless_too_many_candidates command)) are ∙ is; none = choice; outcome = refl }))
  by_choice inputs pool (Some trace) clash are is known_names choice is_clash =
      let s : InputsAndReplacement = record { inputs = inputs; replacement = replacement_of_choice (names_to_reinstall command.applet command.operands) inputs pool trace } in
      inr (inr (record {
        pool = pool;
        is_pool = ap (λ (r : Result Inputs Refusal). and_then r (pool_of_inputs_unless_too_many_candidates command)) are ∙ is;
        trace = trace;
        first = choice;
        selected = s;
        selects = ap (λ (r : Result Inputs Refusal). and_then r (selected_from_inputs_by_choice command (Some trace))) are
            ∙ ap (λ (r : Result SelectionProblem Refusal). and_then r (λ pool. unless_unknown_operand (unknown_operand_place command.applet inputs command.operands) (selected_from_pool_by_choice command inputs pool (Some trace)))) is
            ∙ ap (λ (place : Option ℕ). unless_unknown_operand place (selected_from_pool_by_choice command inputs pool (Some trace))) known_names;
        candidates = refl;
        clash = clash;
        is_clash = is_clash;
        end = end_by known command files clash s command.flags.simulate refl (change_of_selected command (reads_in files) files clash s) refl;
      }))

  -- ---- by what is read

  by_place : (inputs : Inputs) (pool : SelectionProblem) (place : Option ℕ) (chosen : Option (List ℕ)) (clash : Option NamePair)
      → inputs_of command (reads_in files) ≡ Ok inputs → pool_of_inputs_unless_too_many_candidates command inputs ≡ Ok pool → unknown_operand_place command.applet inputs command.operands ≡ place
      → IsPreferredChoiceOrNoneIfRefused (Ok pool) chosen → IsFirstClashOfCommand command (reads_in files) files chosen clash
      → IsChangeEnd command files (end_of clash (unless_unknown_operand place (selected_from_pool_by_choice command inputs pool chosen)))
  by_place inputs pool None chosen clash are is at choice is_clash = by_choice inputs pool chosen clash are is at choice is_clash
  by_place inputs pool (Some place) chosen clash are is at choice is_clash =
      inl (record {
        refusal = NotInstalled place;
        stated = refl;
        outcome = refl;
        unchosen = λ other.
            ap (λ (r : Result Inputs Refusal). and_then r (selected_from_inputs_by_choice command other)) are
            ∙ ap (λ (r : Result SelectionProblem Refusal). and_then r (λ pool. unless_unknown_operand (unknown_operand_place command.applet inputs command.operands) (selected_from_pool_by_choice command inputs pool other))) is
            ∙ ap (λ (p : Option ℕ). unless_unknown_operand p (selected_from_pool_by_choice command inputs pool other)) at;
      })

  by_pool : (inputs : Inputs) (pool : Result SelectionProblem Refusal) (chosen : Option (List ℕ)) (clash : Option NamePair)
      → inputs_of command (reads_in files) ≡ Ok inputs → pool_of_inputs_unless_too_many_candidates command inputs ≡ pool
      → IsPreferredChoiceOrNoneIfRefused pool chosen → IsFirstClashOfCommand command (reads_in files) files chosen clash
      → IsChangeEnd command files (end_of clash (and_then pool (λ pool. unless_unknown_operand (unknown_operand_place command.applet inputs command.operands) (selected_from_pool_by_choice command inputs pool chosen))))
  by_pool inputs (Ok pool) chosen clash are is choice is_clash = by_place inputs pool (unknown_operand_place command.applet inputs command.operands) chosen clash are is refl choice is_clash
  by_pool inputs (Err refusal) chosen clash are is choice is_clash =
      inl (record {
        refusal = refusal;
        stated = subst (HasKnownRefusal is_input_refusal) is (pool_stated inputs (names_to_upgrade command.applet command.operands));
        outcome = refl;
        unchosen = λ other.
            ap (λ (r : Result Inputs Refusal). and_then r (selected_from_inputs_by_choice command other)) are
            ∙ ap (λ (r : Result SelectionProblem Refusal). and_then r (λ pool. unless_unknown_operand (unknown_operand_place command.applet inputs command.operands) (selected_from_pool_by_choice command inputs pool other))) is;
      })

  by_inputs : (inputs : Result Inputs Refusal) (chosen : Option (List ℕ)) (clash : Option NamePair) → inputs_of command (reads_in files) ≡ inputs
      → IsPreferredChoiceOrNoneIfRefused (and_then inputs (pool_of_inputs_unless_too_many_candidates command)) chosen → IsFirstClashOfCommand command (reads_in files) files chosen clash
      → IsChangeEnd command files (end_of clash (and_then inputs (selected_from_inputs_by_choice command chosen)))
  by_inputs (Ok inputs) chosen clash are choice is_clash = by_pool inputs (pool_of_inputs_unless_too_many_candidates command inputs) chosen clash are refl choice is_clash
  by_inputs (Err refusal) chosen clash are choice is_clash =
      inl (record { refusal = refusal; stated = subst (HasKnownRefusal is_input_refusal) are (inputs_stated command (reads_in files)); outcome = refl; unchosen = λ other. ap (λ (r : Result Inputs Refusal). and_then r (selected_from_inputs_by_choice command other)) are })

  change_end : (chosen : Option (List ℕ)) (clash : Option NamePair) → IsPreferredChoiceOrNoneIfRefused (pool_of_command command (reads_in files)) chosen → IsFirstClashOfCommand command (reads_in files) files chosen clash
      → IsChangeEnd command files (change_outcome files (change_of_command command (reads_in files) files chosen clash))
  unfolding change_of_command
  change_end chosen clash choice is_clash = by_inputs (inputs_of command (reads_in files)) chosen clash refl choice is_clash

-- ---- over the files on which it works, and by the words

pub over_end : IsMadeKnown → (command : CommandLine) (files : Files) (o : Outcome) → effect_of command.applet ≡ Changes → IsOutcomeOverRecoveredFiles command files o → IsChangeEnd command files o
over_end known command files o changes (given, are, is) =
    subst (IsChangeEnd command files) (change_is command.applet command given (reads_in files) files changes ∙ sym is)
    (change_end known command files given.chosen given.clash
    (subst (λ (e : Effect). IsPreferredChoiceForChangeElseNone e command (reads_in files) given.chosen) changes are.chosen)
    (subst (λ (e : Effect). IsFirstClashForChangeElseNone e command (reads_in files) files given.chosen given.clash) changes are.clash))

unless_end : IsMadeKnown → (fault : Option Cause) (command : CommandLine) (files : Files) (o : Outcome) → effect_of command.applet ≡ Changes → recovery_fault Changes files ≡ fault → IsOutcomeUnlessBadIntent fault command files o → IsChangeEndAfterRecoveryOrIntentRefusal command files o
unless_end known (Some cause) command files o changes at is = inl (record { cause = cause; bad = at; outcome = is })
unless_end known None command files o changes at is =
    inr (over_end known command (files_recovered_if_needed Changes files) o changes (subst (λ (e : Effect). IsOutcomeOverRecoveredFiles command (files_recovered_if_needed e files) o) changes is))

pub run_end : IsMadeKnown → (command : CommandLine) (files : Files) (o : Outcome) → effect_of command.applet ≡ Changes → IsOutcomeWithoutDemo (Ok command) files o → IsChangeEndAfterRecoveryOrIntentRefusal command files o
run_end known command files o changes is =
    unless_end known (recovery_fault Changes files) command files o changes refl (subst (λ (e : Effect). IsOutcomeUnlessBadIntent (recovery_fault e files) command files o) changes is)
