-- A run from its first read on: what was read of the root, and the run by these inputs.
use Rattle.std.proofs.Common.{◌≡◌, ℕ, ◌+◌, ◌<◌, ◌≤◌, Bool, true, false, List, [], ◌∷◌, Option, Some, None, Result, Ok, Err, length, refl, sym, ap, subst, ◌∙◌, arith}
use Rattle.std.specs.Prelude.{All, if◌then◌else◌, nat_lt}
use Rattle.std.proofs.lemmas.Bool.Decides.{nat_tests}
use Rattle.base_core.specs.Calls.{IfObservable}
use Rattle.base_core.specs.Faults.{Counts}
use Rattle.base_core.specs.Files.{Files}
use Rattle.base_core.specs.Tree.{IsWellFormed, TreeState, files_of}
use Rattle.change_report.specs.change_inputs.Answers.{AgreesUnlessDiskOrMemory, IsDiskOrMemoryFailure}
use Rattle.change_report.specs.change_inputs.Chains.{and_then}
use Rattle.change_report.specs.change_inputs.Inputs.{Inputs, first_index_read_number, inputs_of}
use Rattle.change_report.specs.change_inputs.Seen.{inputs_seen}
use Rattle.change_report.specs.change_inputs.declared.loaded.Loaded.{Loaded}
use Rattle.change_report.specs.change_inputs.declared.root.Refused.{Refused}
use Rattle.change_report.specs.change_inputs.declared.root.Refused.TheVariants.{Disk, Memory, Refusal as IsRefused}
use Rattle.change_report.specs.change_outcome.ChangeOutcome.{ChangeDone, ChangeWishes, IsFirstClashUnlessMembersRefusedAmong, members_after_change, change_or_refusal, change_with_members}
use Rattle.change_report.specs.change_outcome.MembersAfter.{MemberFound, members_after}
use Rattle.command_core.specs.Command.{CommandLine}
use Rattle.dep_core.specs.Repositories.{Repository}
use Rattle.change_report.specs.make_info.Reads.{Reads}
use Rattle.change_report.specs.package_files.Runs.{AreReadsOfTreeIfObservable, HoldsOfSomeReadsOfTree}
use Rattle.change_report.specs.package_changes.Changes.{Replacement}
use Rattle.change_report.specs.path_clashes.Clash.{NamePair}
use Rattle.change_report.specs.candidate_core.Rank.{SelectionProblem}
use Rattle.report_core.specs.declared.refusal.Refusal.{Refusal}
use Rattle.change_report.specs.change_outcome.Premises.{AreDatabaseAndWorldReadFromFiles}
use Rattle.engine_core.specs.Preparing.{IsRootRead}
use Rattle.engine_core.specs.ChangeRun.{IsEndOfRunOfWantedChange, IsChangeRun}
use Rattle.engine_core.specs.Changed.{IsFirstClashOrNoneIfRefused, IsFirstClashOrNoneIfRefusedAmong, IsFirstClashOrNoneIfSimulatedAmong, InputsAndReplacement, change_of_selected, change_of_command, packages_found_after_change, selected_from_pool_by_choice, selected_from_reads_by_choice, selected_from_inputs_by_choice, simulated_change}
use Rattle.engine_core.specs.Choice.{IsPreferredChoiceOrNoneIfRefused}
use Rattle.engine_core.specs.Runs.{IsRunOnSelection}
use Rattle.engine_core.specs.Selecting.{pool_of_inputs_unless_too_many_candidates, pool_of_command}
use Rattle.engine_core.specs.Wishes.{unknown_operand_place, unless_unknown_operand, wishes_of}
use Rattle.engine_core.proofs.Early.{HaveClash, IsOnlyRead, comes_to_failure, comes_to_refusal, files_seen}
use Rattle.engine_core.proofs.SelectedRuns.{HaveChoice, IsRunBy}

-- what is read of the root, and what is read behind it, rest on reads of their own
pub record HaveOwnReads : Type 0 where
  pub inputs : (command : CommandLine) (read other : Reads) (inputs : Inputs) → inputs_of command read ≡ Ok inputs
      → ((n : ℕ) (name : List ℕ) → n < first_index_read_number + length inputs.root.repositories → read n name ≡ other n name) → inputs_of command other ≡ Ok inputs
  pub members : (r : Replacement) (read other : Reads) (repositories : List Repository) (no_scripts : Bool)
      → ((n : ℕ) (name : List ℕ) → first_index_read_number + length repositories ≤ n → read n name ≡ other n name)
      → members_after r read repositories no_scripts ≡ members_after r other repositories no_scripts

-- ---- two rows of reads as one

splice : ℕ → Reads → Reads → Reads
splice count first behind n name = if nat_lt n count then first n name else behind n name

splice_first : (count : ℕ) (first behind : Reads) (n : ℕ) (name : List ℕ) → n < count → first n name ≡ splice count first behind n name
unfolding splice
splice_first count first behind n name less =
    let is : nat_lt n count ≡ true = grind (arith, nat_tests) in
    sym (ap (λ (b : Bool). if b then first n name else behind n name) is)

splice_after : (count : ℕ) (first behind : Reads) (n : ℕ) (name : List ℕ) → count ≤ n → splice count first behind n name ≡ behind n name
unfolding splice
splice_after count first behind n name less =
    let is : nat_lt n count ≡ false = grind (arith, nat_tests) in
    ap (λ (b : Bool). if b then first n name else behind n name) is

splice_observed : (count : ℕ) (first behind : Reads) (old : List TreeState) → AreReadsOfTreeIfObservable old first → AreReadsOfTreeIfObservable old behind → AreReadsOfTreeIfObservable old (splice count first behind)
unfolding splice
splice_observed count first behind [] f b = tt
splice_observed count first behind (v ∷ earlier) f b = λ n name. by (nat_lt n count) n name
  where
    by : (t : Bool) (n : ℕ) (name : List ℕ) → (if t then first n name else behind n name) ≡ files_of v name
    by true n name = f n name
    by false n name = b n name

-- ---- a run behind calls that only read

pub comes_after_reads : (packages : Result (List MemberFound) Refusal) (wanted : Result ChangeDone Refusal) (old mid now : List TreeState) (before between after : Counts) (result : Result (List ℕ) Refused)
    → IsOnlyRead old mid before between → IsEndOfRunOfWantedChange packages wanted mid now between after result → IsEndOfRunOfWantedChange packages wanted old now before after result
comes_after_reads packages wanted old mid now before between after result quiet comes = record {
  told = same.told;
  run = same.run;
  proper = both _ _ _ old quiet.proper same.proper;
}
  where
    same : IsEndOfRunOfWantedChange packages wanted old now between after result
    same = subst (λ (h : List TreeState). IsEndOfRunOfWantedChange packages wanted h now between after result) quiet.same comes

    both : (A B C : TreeState → Type 0) (h : List TreeState) → IfObservable h (λ v. between.misuses ≡ before.misuses)
        → IfObservable h (λ v. A v → B v → C v → after.misuses ≡ between.misuses) → IfObservable h (λ v. A v → B v → C v → after.misuses ≡ before.misuses)
    both A B C [] q r = tt
    both A B C (v ∷ earlier) q r = λ a b c. r a b c ∙ q

pub run_after_reads : (command : CommandLine) (selected : Result InputsAndReplacement Refusal) (old mid now : List TreeState) (before between after : Counts) (result : Result (List ℕ) Refused)
    → IsOnlyRead old mid before between → IsRunOnSelection command selected mid now between after result → IsRunOnSelection command selected old now before after result
run_after_reads command selected old mid now before between after result quiet run = record {
  read = run.read;
  observed = subst (λ (h : List TreeState). AreReadsOfTreeIfObservable h run.read) quiet.same run.observed;
  files = run.files;
  there = subst (λ (h : List TreeState). IfObservable h (λ v. run.files ≡ files_of v)) quiet.same run.there;
  present_files = run.present_files;
  stand = subst (λ (h : List TreeState). IfObservable h (λ v. run.present_files ≡ files_of v)) quiet.same run.stand;
  clash = run.clash;
  is_clash = run.is_clash;
  comes = comes_after_reads _ _ old mid now before between after result quiet run.comes;
}

-- ---- the same by other reads behind those of the root

module _ (have : HaveOwnReads) (command : CommandLine) (inputs : Inputs) (read other : Reads) (same : (n : ℕ) (name : List ℕ) → first_index_read_number + length inputs.root.repositories ≤ n → read n name ≡ other n name) where
  members_same : (r : Replacement) (wishes : ChangeWishes) → members_after_change inputs r wishes read ≡ members_after_change inputs r wishes other
  members_same r wishes = have.members r read other inputs.root.repositories wishes.no_scripts same

  change_same : (r : Replacement) (wishes : ChangeWishes) (clash : Option NamePair) (files : Files) → change_or_refusal inputs r wishes read clash files ≡ change_or_refusal inputs r wishes other clash files
  unfolding change_or_refusal
  change_same r wishes clash files = ap (λ (found : Result (List MemberFound) Refusal). and_then found (change_with_members inputs r wishes clash files)) (members_same r wishes)

  selected_same : (s : InputsAndReplacement) (files : Files) (clash : Option NamePair) → s.inputs ≡ inputs → change_of_selected command read files clash s ≡ change_of_selected command other files clash s
  selected_same s files clash is = by command.flags.simulate
    where
      same_of_inputs : (i : Inputs) → i ≡ inputs → change_or_refusal i s.replacement (wishes_of command) read clash files ≡ change_or_refusal i s.replacement (wishes_of command) other clash files
      same_of_inputs i e = subst (λ (j : Inputs). change_or_refusal j s.replacement (wishes_of command) read clash files ≡ change_or_refusal j s.replacement (wishes_of command) other clash files) (sym e) (change_same s.replacement (wishes_of command) clash files)

      by : (b : Bool) → (if b then Ok (simulated_change s.replacement (wishes_of command) files) else change_or_refusal s.inputs s.replacement (wishes_of command) read clash files)
          ≡ (if b then Ok (simulated_change s.replacement (wishes_of command) files) else change_or_refusal s.inputs s.replacement (wishes_of command) other clash files)
      by true = refl
      by false = same_of_inputs s.inputs is

  clash_same : (s : InputsAndReplacement) (files present_files : Files) (clash : Option NamePair) → s.inputs ≡ inputs → IsFirstClashOrNoneIfSimulatedAmong command.flags.simulate (wishes_of command) other files present_files s clash → IsFirstClashOrNoneIfSimulatedAmong command.flags.simulate (wishes_of command) read files present_files s clash
  clash_same s files present_files clash is = by command.flags.simulate
    where
      of_inputs : (i : Inputs) → i ≡ inputs → members_after_change i s.replacement (wishes_of command) other ≡ members_after_change i s.replacement (wishes_of command) read
      of_inputs i e = subst (λ (j : Inputs). members_after_change j s.replacement (wishes_of command) other ≡ members_after_change j s.replacement (wishes_of command) read) (sym e) (sym (members_same s.replacement (wishes_of command)))

      by : (b : Bool) → IsFirstClashOrNoneIfSimulatedAmong b (wishes_of command) other files present_files s clash → IsFirstClashOrNoneIfSimulatedAmong b (wishes_of command) read files present_files s clash
      by true clash_is = clash_is
      by false clash_is = subst (λ (found : Result (List MemberFound) Refusal). IsFirstClashUnlessMembersRefusedAmong s.inputs (wishes_of command) files present_files found clash) (of_inputs s.inputs is) clash_is

  packages_same : (s : InputsAndReplacement) → s.inputs ≡ inputs → packages_found_after_change command read (Ok s) ≡ packages_found_after_change command other (Ok s)
  packages_same s is = subst (λ (i : Inputs). members_after_change i s.replacement (wishes_of command) read ≡ members_after_change i s.replacement (wishes_of command) other) (sym is) (members_same s.replacement (wishes_of command))

-- what is selected has these inputs
abbrev HasInputs : Inputs → Result InputsAndReplacement Refusal → Type 0
HasInputs inputs (Ok s) = s.inputs ≡ inputs
HasInputs inputs (Err refusal) = Unit {0}

selected_has : (command : CommandLine) (chosen : Option (List ℕ)) (inputs : Inputs) → HasInputs inputs (selected_from_inputs_by_choice command chosen inputs)
selected_has command chosen inputs = by_pool (pool_of_inputs_unless_too_many_candidates command inputs)
  where
    by_choice : (pool : SelectionProblem) (c : Option (List ℕ)) → HasInputs inputs (selected_from_pool_by_choice command inputs pool c)
    by_choice pool None = tt
    by_choice pool (Some trace) = refl

    by_place : (pool : SelectionProblem) (place : Option ℕ) → HasInputs inputs (unless_unknown_operand place (selected_from_pool_by_choice command inputs pool chosen))
    by_place pool None = by_choice pool chosen
    by_place pool (Some place) = tt

    by_pool : (p : Result SelectionProblem Refusal) → HasInputs inputs (and_then p (λ pool. unless_unknown_operand (unknown_operand_place command.applet inputs command.operands) (selected_from_pool_by_choice command inputs pool chosen)))
    by_pool (Ok pool) = by_place pool (unknown_operand_place command.applet inputs command.operands)
    by_pool (Err refusal) = tt

module _ (have : HaveOwnReads) (command : CommandLine) (inputs : Inputs) (old now : List TreeState) (before after : Counts) (result : Result (List ℕ) Refused)
    (first : Reads) (observed : AreReadsOfTreeIfObservable old first) (is : inputs_of command first ≡ Ok inputs)
    (chosen : Option (List ℕ)) (choice : IsPreferredChoiceOrNoneIfRefused (pool_of_inputs_unless_too_many_candidates command inputs) chosen)
    (run : IsRunOnSelection command (selected_from_inputs_by_choice command chosen inputs) old now before after result) where
  count : ℕ
  count = first_index_read_number + length inputs.root.repositories

  selected : Result InputsAndReplacement Refusal
  selected = selected_from_inputs_by_choice command chosen inputs

  read : Reads
  read = splice count first run.read

  same : (n : ℕ) (name : List ℕ) → first_index_read_number + length inputs.root.repositories ≤ n → read n name ≡ run.read n name
  unfolding read count
  same n name more = splice_after count first run.read n name more

  inputs_is : inputs_of command read ≡ Ok inputs
  unfolding read count
  inputs_is = have.inputs command first read inputs is (λ n name less. splice_first count first run.read n name less)

  selected_is : selected_from_reads_by_choice command read chosen ≡ selected
  unfolding selected
  selected_is = ap (λ (r : Result Inputs Refusal). and_then r (selected_from_inputs_by_choice command chosen)) inputs_is

  by_selected : (s : Result InputsAndReplacement Refusal) → HasInputs inputs s → and_then s (change_of_selected command read run.files run.clash) ≡ and_then s (change_of_selected command run.read run.files run.clash)
  by_selected (Ok s) has = selected_same have command inputs read run.read same s run.files run.clash has
  by_selected (Err refusal) has = refl

  changed_is : and_then selected (change_of_selected command run.read run.files run.clash) ≡ change_of_command command read run.files chosen run.clash
  unfolding change_of_command selected
  changed_is = sym (ap (λ (s : Result InputsAndReplacement Refusal). and_then s (change_of_selected command read run.files run.clash)) selected_is ∙ by_selected selected (selected_has command chosen inputs))

  packages_by : (s : Result InputsAndReplacement Refusal) → HasInputs inputs s → packages_found_after_change command run.read s ≡ packages_found_after_change command read s
  packages_by (Ok s) has = sym (packages_same have command inputs read run.read same s has)
  packages_by (Err refusal) has = refl

  packages_are : packages_found_after_change command run.read selected ≡ packages_found_after_change command read (selected_from_reads_by_choice command read chosen)
  unfolding selected
  packages_are = packages_by selected (selected_has command chosen inputs) ∙ ap (packages_found_after_change command read) (sym selected_is)

  clash_by : (s : Result InputsAndReplacement Refusal) → HasInputs inputs s → IsFirstClashOrNoneIfRefusedAmong command run.read run.files run.present_files s run.clash → IsFirstClashOrNoneIfRefusedAmong command read run.files run.present_files s run.clash
  clash_by (Ok s) has clash = clash_same have command inputs read run.read same s run.files run.present_files run.clash has clash
  clash_by (Err refusal) has clash = clash

  pub whole_run : IsChangeRun command old now before after result
  unfolding selected read
  whole_run = record {
    read = read;
    observed = splice_observed count first run.read old observed run.observed;
    chosen = chosen;
    choice = subst (λ (r : Result Inputs Refusal). IsPreferredChoiceOrNoneIfRefused (and_then r (pool_of_inputs_unless_too_many_candidates command)) chosen) (sym inputs_is) choice;
    files = run.files;
    there = run.there;
    present_files = run.present_files;
    stand = run.stand;
    clash = run.clash;
    is_clash = subst (λ (s : Result InputsAndReplacement Refusal). IsFirstClashOrNoneIfRefusedAmong command read run.files run.present_files s run.clash) (sym selected_is)
        (clash_by selected (selected_has command chosen inputs) run.is_clash);
    comes = subst (λ (p : Result (List MemberFound) Refusal). IsEndOfRunOfWantedChange p (change_of_command command read run.files chosen run.clash) old now before after result) packages_are
        (subst (λ (w : Result ChangeDone Refusal). IsEndOfRunOfWantedChange (packages_found_after_change command run.read selected) w old now before after result) changed_is run.comes);
  }

pub joined : HaveOwnReads → (command : CommandLine) (loaded : Loaded) (old mid now : List TreeState) (before between after : Counts) (result : Result (List ℕ) Refused) → IsOnlyRead old mid before between
    → HoldsOfSomeReadsOfTree old (λ read. inputs_of command read ≡ Ok (inputs_seen loaded)) → IsRunBy command (inputs_seen loaded) mid now between after result → IsChangeRun command old now before after result
joined have command loaded old mid now before between after result quiet explained run =
    whole_run have command (inputs_seen loaded) old now before after result explained.read explained.observed explained.is run.0 run.1
    (run_after_reads command _ old mid now before between after result quiet run.2)

-- ---- a root that is not read

module _ (choose : HaveChoice) (have : HaveClash) (command : CommandLine) (old now : List TreeState) (before after : Counts) (whole : All IsWellFormed old) (quiet : IsOnlyRead old now before after) where
  unread_failure : (fault : Refused) → IsDiskOrMemoryFailure fault → (read : Reads) → AreReadsOfTreeIfObservable old read → IsChangeRun command old now before after (Err fault)
  unread_failure fault is read observed =
      let (chosen, choice) = choose (pool_of_command command read) in
      let seen = files_seen have command (selected_from_reads_by_choice command read chosen) old read whole in
      record {
        read = read;
        observed = observed;
        chosen = chosen;
        choice = choice;
        files = seen.files;
        there = seen.there;
        present_files = seen.files;
        stand = seen.there;
        clash = seen.clash;
        is_clash = seen.is_clash;
        comes = comes_to_failure _ _ old now before after quiet fault is;
      }

  unread_refusal : (refusal : Refusal) (read : Reads) → AreReadsOfTreeIfObservable old read → inputs_of command read ≡ Err refusal → IsChangeRun command old now before after (Err (IsRefused refusal))
  unfolding change_of_command
  unread_refusal refusal read observed is =
      let seen = files_seen have command (Err refusal) old read whole in
      let selected : selected_from_reads_by_choice command read None ≡ Err refusal = ap (λ (r : Result Inputs Refusal). and_then r (selected_from_inputs_by_choice command None)) is in
      record {
        read = read;
        observed = observed;
        chosen = None;
        choice = subst (λ (r : Result Inputs Refusal). IsPreferredChoiceOrNoneIfRefused (and_then r (pool_of_inputs_unless_too_many_candidates command)) None) (sym is) refl;
        files = seen.files;
        there = seen.there;
        present_files = seen.files;
        stand = seen.there;
        clash = seen.clash;
        is_clash = subst (λ (s : Result InputsAndReplacement Refusal). IsFirstClashOrNoneIfRefused command read seen.files s seen.clash) (sym selected) seen.is_clash;
        comes = comes_to_refusal _ _ old now before after quiet refusal (ap (λ (s : Result InputsAndReplacement Refusal). and_then s (change_of_selected command read seen.files seen.clash)) selected);
      }

  pub unread : (fault : Refused) → HoldsOfSomeReadsOfTree old (λ read. AgreesUnlessDiskOrMemory inputs_seen (Err fault) (inputs_of command read)) → IsChangeRun command old now before after (Err fault)
  unread (IsRefused refusal) explained = unread_refusal refusal explained.read explained.observed explained.is
  unread Disk explained = unread_failure Disk tt explained.read explained.observed
  unread Memory explained = unread_failure Memory tt explained.read explained.observed

-- ---- what was read of the root stands there

pub root_read : ((command : CommandLine) (read : Reads) (inputs : Inputs) (files : Files) → ((n : ℕ) (name : List ℕ) → read n name ≡ files name) → inputs_of command read ≡ Ok inputs → AreDatabaseAndWorldReadFromFiles files inputs.root)
    → (command : CommandLine) (inputs : Inputs) (old mid : List TreeState) → mid ≡ old → HoldsOfSomeReadsOfTree old (λ read. inputs_of command read ≡ Ok inputs) → IsRootRead mid inputs
root_read law command inputs old mid same explained = subst (λ (h : List TreeState). IsRootRead h inputs) (sym same) (by old explained.observed)
  where
    by : (h : List TreeState) → AreReadsOfTreeIfObservable h explained.read → IsRootRead h inputs
    by [] observed = tt
    by (v ∷ earlier) observed = law command explained.read inputs (files_of v) observed explained.is
