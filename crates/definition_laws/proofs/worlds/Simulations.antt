-- The report of a simulation beside that of the change.
use Rattle.std.proofs.Common.{◌≡◌, ℕ, Bool, false, List, ◌++◌, length, Option, Result, Ok, Err, append_assoc, refl, ap, sym, ◌∙◌, subst}
use Rattle.std.specs.Prelude.{if◌then◌else◌, sum_by}
use Rattle.base_core.specs.Files.{Files}
use Rattle.engine_core.specs.own_core.FileChange.{FileChange}
use Rattle.engine_core.specs.own_core.PlanLists.{paths_with_apk_new_file, kept_left_over_paths_of}
use Rattle.engine_core.specs.change_inputs.Chains.{and_then}
use Rattle.engine_core.specs.change_inputs.Inputs.{Inputs, inputs_of}
use Rattle.engine_core.specs.change_outcome.Made.{IsChangeMade}
use Rattle.engine_core.specs.change_outcome.ChangeOutcome.{ChangeDone, ChangeWishes, change_or_refusal, change_report, packages_before_and_after_with_purge, member_installed_size, touched_paths}
use Rattle.engine_core.specs.change_outcome.ConfigurationLines.{lines_of_apk_new_and_kept_paths}
use Rattle.engine_core.specs.change_outcome.Triggers.{trigger_lines}
use Rattle.command_core.specs.Command.{CommandLine}
use Rattle.engine_core.specs.Changed.{InputsAndReplacement, change_of_selected, change_of_command, selected_from_reads_by_choice, simulated_change}
use Rattle.engine_core.specs.Choice.{IsPreferredChoiceOrNoneIfRefused}
use Rattle.engine_core.specs.Selecting.{pool_of_command}
use Rattle.engine_core.specs.Wishes.{wishes_of}
use Rattle.engine_core.specs.make_info.Reads.{Reads}
use Rattle.engine_core.specs.package_changes.Changes.{Replacement, changes_of}
use Rattle.engine_core.specs.package_changes.Report.{candidate_installed_size, simulated_report, lines_on_names_that_stay}
use Rattle.engine_core.specs.path_clashes.Clash.{NamePair}
use Rattle.engine_core.specs.candidate_core.Rank.{SelectionProblem}
use Rattle.report_core.specs.Reports.{change_lines, report_line, bytes_and_package_count_text}
use Rattle.report_core.specs.declared.refusal.Refusal.{Refusal}
use Rattle.definition_laws.specs.worlds.Simulation.{ReportBeginsWithSimulationExceptLastLine, with_simulation}
use Rattle.definition_laws.proofs.worlds.ReadWorlds.{and_then_ok}

pub reports_alike : (r : Replacement) (wishes : ChangeWishes) (change : FileChange) (files : Files) → ReportBeginsWithSimulationExceptLastLine (simulated_report r wishes.to_remove) (change_report r wishes change files)
unfolding simulated_report
reports_alike r wishes change files =
    let told = change_lines (changes_of r) ++ lines_on_names_that_stay r.before r.selected wishes.to_remove in
    let configuration = lines_of_apk_new_and_kept_paths (paths_with_apk_new_file change files) (kept_left_over_paths_of change files) in
    let triggers = trigger_lines (touched_paths change files) change.members in
    let sum = report_line (bytes_and_package_count_text (sum_by member_installed_size change.members) (length change.members)) in
    record {
      told = told;
      bytes = sum_by candidate_installed_size r.selected;
      packages = length r.selected;
      simulated = refl;
      more = configuration ++ triggers;
      new_bytes = sum_by member_installed_size change.members;
      new_packages = length change.members;
      made = ap (λ (l : List ℕ). l ++ sum) (append_assoc told configuration triggers);
    }

-- what a change that is made is known by
abbrev pub IsMadeKnown : Type 0
IsMadeKnown = (inputs : Inputs) (r : Replacement) (wishes : ChangeWishes) (read : Reads) (clash : Option NamePair) (files : Files) (done : ChangeDone)
    → change_or_refusal inputs r wishes read clash files ≡ Ok done → IsChangeMade inputs r wishes read clash files done

-- one thing is chosen
abbrev pub IsOneChoice : Type 0
IsOneChoice = (pool : Result SelectionProblem Refusal) (a b : Option (List ℕ)) → IsPreferredChoiceOrNoneIfRefused pool a → IsPreferredChoiceOrNoneIfRefused pool b → a ≡ b

-- both commands select alike
selects_alike : (command : CommandLine) (read : Reads) (chosen : Option (List ℕ)) → selected_from_reads_by_choice (with_simulation command) read chosen ≡ selected_from_reads_by_choice command read chosen
unfolding inputs_of
selects_alike command read chosen = refl

pool_alike : (command : CommandLine) (read : Reads) → pool_of_command (with_simulation command) read ≡ pool_of_command command read
unfolding inputs_of
pool_alike command read = refl

by_selected : IsMadeKnown → (command : CommandLine) (read : Reads) (files : Files) (other clash : Option NamePair) (s : InputsAndReplacement) (simulation done : ChangeDone) → command.flags.simulate ≡ false
    → change_of_selected (with_simulation command) read files other s ≡ Ok simulation → change_of_selected command read files clash s ≡ Ok done → ReportBeginsWithSimulationExceptLastLine simulation.report done.report
by_selected known command read files other clash s simulation done real e d =
    let first : simulated_change s.replacement (wishes_of command) files ≡ simulation = cc in
    let is : change_or_refusal s.inputs s.replacement (wishes_of command) read clash files ≡ Ok done =
    sym (ap (λ (b : Bool). if b then Ok (simulated_change s.replacement (wishes_of command) files) else change_or_refusal s.inputs s.replacement (wishes_of command) read clash files) real) ∙ d in
    let made = known s.inputs s.replacement (wishes_of command) read clash files done is in
    let change = packages_before_and_after_with_purge s.inputs (wishes_of command) made.found in
    let report : change_report s.replacement (wishes_of command) change files ≡ done.report = sym (ap (λ (x : ChangeDone). x.report) made.is) in
    subst (ReportBeginsWithSimulationExceptLastLine simulation.report) report
    (subst (λ (l : List ℕ). ReportBeginsWithSimulationExceptLastLine l (change_report s.replacement (wishes_of command) change files)) (ap (λ (x : ChangeDone). x.report) first)
    (reports_alike s.replacement (wishes_of command) change files))

module _ (one : IsOneChoice) (command : CommandLine) (read : Reads) (files : Files) (expected chosen : Option (List ℕ)) (other clash : Option NamePair) where
  chosen_alike : IsPreferredChoiceOrNoneIfRefused (pool_of_command (with_simulation command) read) expected → IsPreferredChoiceOrNoneIfRefused (pool_of_command command read) chosen → expected ≡ chosen
  chosen_alike a b = one (pool_of_command command read) expected chosen (subst (λ (p : Result SelectionProblem Refusal). IsPreferredChoiceOrNoneIfRefused p expected) (pool_alike command read) a) b

  pub foretold : IsMadeKnown → (simulation done : ChangeDone) → command.flags.simulate ≡ false
      → IsPreferredChoiceOrNoneIfRefused (pool_of_command (with_simulation command) read) expected → IsPreferredChoiceOrNoneIfRefused (pool_of_command command read) chosen
      → change_of_command (with_simulation command) read files expected other ≡ Ok simulation → change_of_command command read files chosen clash ≡ Ok done → ReportBeginsWithSimulationExceptLastLine simulation.report done.report
  unfolding change_of_command
  foretold known simulation done real a b e d =
      let first = and_then_ok (selected_from_reads_by_choice (with_simulation command) read expected) (change_of_selected (with_simulation command) read files other) simulation e in
      let second = and_then_ok (selected_from_reads_by_choice command read chosen) (change_of_selected command read files clash) done d in
      let both : Ok first.0 ≡ Ok second.0 = sym first.1 ∙ (selects_alike command read expected ∙ (ap (selected_from_reads_by_choice command read) (chosen_alike a b) ∙ second.1)) in
      let same : first.0 ≡ second.0 = cc in
      by_selected known command read files other clash second.0 simulation done real
      (subst (λ (s : InputsAndReplacement). change_of_selected (with_simulation command) read files other s ≡ Ok simulation) same first.2) second.2

  refused_both : (x y : Result InputsAndReplacement Refusal) → x ≡ y → (refusal : Refusal) → and_then x (change_of_selected (with_simulation command) read files other) ≡ Err refusal → and_then y (change_of_selected command read files clash) ≡ Err refusal
  refused_both (Ok s) y same refusal e = absurd (cc (e))
  refused_both (Err first) y same refusal e =
      ap (λ (z : Result InputsAndReplacement Refusal). and_then z (change_of_selected command read files clash)) (sym same) ∙ (let is : first ≡ refusal = cc in ap (λ (r : Refusal). Err r) is)

  pub refused_alike : (refusal : Refusal) → IsPreferredChoiceOrNoneIfRefused (pool_of_command (with_simulation command) read) expected → IsPreferredChoiceOrNoneIfRefused (pool_of_command command read) chosen
      → change_of_command (with_simulation command) read files expected other ≡ Err refusal → change_of_command command read files chosen clash ≡ Err refusal
  unfolding change_of_command
  refused_alike refusal a b e =
      refused_both (selected_from_reads_by_choice (with_simulation command) read expected) (selected_from_reads_by_choice command read chosen)
      (selects_alike command read expected ∙ ap (selected_from_reads_by_choice command read) (chosen_alike a b)) refusal e
