-- Runs that end before anything is written.
use Rattle.std.proofs.Common.{◌≡◌, inl, ℕ, Bool, true, false, List, [], ◌∷◌, Option, Some, None, Result, Ok, Err, refl, sym, ap, subst, ◌∙◌}
use Rattle.std.specs.Prelude.{All, IsSome, OnOk}
use Rattle.std.proofs.lemmas.List.Elements.{All-head}
use Rattle.base_core.specs.Calls.{IfObservable}
use Rattle.base_core.specs.Faults.{Counts}
use Rattle.base_core.specs.Files.{Files, HasOnlyNamesAmong, no_names}
use Rattle.base_core.specs.Read.{OnlyReads}
use Rattle.base_core.specs.Tree.{IsWellFormed, TreeState, bytes_of_file_number, files_of}
use Rattle.change_report.specs.change_inputs.Answers.{AgreesUnlessDiskOrMemory, IsDiskOrMemoryFailure}
use Rattle.change_report.specs.change_inputs.Chains.{and_then}
use Rattle.change_report.specs.change_inputs.Inputs.{Inputs}
use Rattle.change_report.specs.change_inputs.declared.root.Refused.{Refused}
use Rattle.change_report.specs.change_inputs.declared.root.Refused.TheVariants.{Disk, Memory, Refusal as IsRefused}
use Rattle.change_report.specs.change_outcome.ChangeOutcome.{ChangeDone, ChangeWishes, IsFirstClashOfChange}
use Rattle.change_report.specs.change_outcome.MembersAfter.{MemberFound}
use Rattle.command_core.specs.Command.{CommandLine}
use Rattle.change_report.specs.journal_core.Recovery.{intent_name}
use Rattle.change_report.specs.journal_core.Staged.{HasEmptyStageAndFreeJournalPaths, HasNoStagedNames}
use Rattle.change_report.specs.make_info.Reads.{Reads}
use Rattle.change_report.specs.package_files.Runs.{AreReadsOfTreeIfObservable}
use Rattle.change_report.specs.path_clashes.Clash.{NamePair}
use Rattle.change_report.specs.package_changes.Changes.{Replacement}
use Rattle.report_core.specs.declared.refusal.Refusal.{Refusal}
use Rattle.engine_core.specs.ChangeRun.{IsEndOfRunOfWantedChange, DoesCommit, IsUnchangedOrCommit, report_as_is, report_of_result}
use Rattle.engine_core.specs.Changed.{IsFirstClashOrNoneIfRefused, IsFirstClashOrNoneIfSimulated, InputsAndReplacement, change_of_selected, packages_found_after_change}
use Rattle.engine_core.specs.Runs.{IsRunOnSelection}
use Rattle.engine_core.specs.Wishes.{wishes_of}

-- ---- there is a first clash

pub record HaveClash : Type 0 where
  pub exists : (inputs : Inputs) (r : Replacement) (wishes : ChangeWishes) (read : Reads) (names : List (List ℕ)) (files : Files) → HasOnlyNamesAmong names files
      → (clash : Option NamePair) × IsFirstClashOfChange inputs r wishes read files clash

module _ (have : HaveClash) (names : List (List ℕ)) (files : Files) (within : HasOnlyNamesAmong names files) where
  clash_unless : (b : Bool) (s : InputsAndReplacement) (wishes : ChangeWishes) (read : Reads)
      → (clash : Option NamePair) × IsFirstClashOrNoneIfSimulated b wishes read files s clash
  clash_unless true s wishes read = (None, refl)
  clash_unless false s wishes read = have.exists s.inputs s.replacement wishes read names files within

  pub clash_selected : (command : CommandLine) (read : Reads) (selected : Result InputsAndReplacement Refusal)
      → (clash : Option NamePair) × IsFirstClashOrNoneIfRefused command read files selected clash
  clash_selected command read (Ok s) = clash_unless command.flags.simulate s (wishes_of command) read
  clash_selected command read (Err refusal) = (None, refl)

-- ---- reads and files of a history

pub record Seen (command : CommandLine) (selected : Result InputsAndReplacement Refusal) (old : List TreeState) : Type 0 where
  pub read : Reads
  pub observed : AreReadsOfTreeIfObservable old read
  pub files : Files
  pub there : IfObservable old (λ v. files ≡ files_of v)
  pub clash : Option NamePair
  pub is_clash : IsFirstClashOrNoneIfRefused command read files selected clash

pub nothing_within : HasOnlyNamesAmong [] (no_names {X = List ℕ})
nothing_within q is = absurd (cc)

within_files : (v : TreeState) (names : List (List ℕ)) → HasOnlyNamesAmong names v.names → HasOnlyNamesAmong names (files_of v)
within_files v names within q is = within q (by_number (v.names q) is)
  where
    by_number : (n : Option ℕ) → IsSome (bytes_of_file_number v.files n) → IsSome n
    by_number None is = is
    by_number (Some n) is = refl

-- the files, and their first clash by given reads
pub record FilesSeen (command : CommandLine) (selected : Result InputsAndReplacement Refusal) (old : List TreeState) (read : Reads) : Type 0 where
  pub files : Files
  pub there : IfObservable old (λ v. files ≡ files_of v)
  pub clash : Option NamePair
  pub is_clash : IsFirstClashOrNoneIfRefused command read files selected clash

pub files_seen : HaveClash → (command : CommandLine) (selected : Result InputsAndReplacement Refusal) (old : List TreeState) (read : Reads) → All IsWellFormed old → FilesSeen command selected old read
files_seen have command selected [] read whole =
    let found = clash_selected have [] no_names nothing_within command read selected in
    record { files = no_names; there = tt; clash = found.0; is_clash = found.1 }
files_seen have command selected (v ∷ earlier) read whole =
    let finite = (All-head IsWellFormed v earlier whole).finite v.names (inl refl) in
    let found = clash_selected have finite.0 (files_of v) (within_files v finite.0 finite.1) command read selected in
    record { files = files_of v; there = refl; clash = found.0; is_clash = found.1 }

pub some_reads : (old : List TreeState) → (read : Reads) × AreReadsOfTreeIfObservable old read
some_reads [] = ((λ n name. None), tt)
some_reads (v ∷ earlier) = ((λ n name. files_of v name), λ n name. refl)

pub seen_any : HaveClash → (command : CommandLine) (selected : Result InputsAndReplacement Refusal) (old : List TreeState) → All IsWellFormed old → Seen command selected old
seen_any have command selected old whole =
    let (read, observed) = some_reads old in
    let seen = files_seen have command selected old read whole in
    record {
      read = read;
      observed = observed;
      files = seen.files;
      there = seen.there;
      clash = seen.clash;
      is_clash = seen.is_clash;
    }

-- ---- nothing happens to the tree

pub record IsOnlyRead (old now : List TreeState) (before after : Counts) : Type 0 where
  pub same : now ≡ old
  pub proper : IfObservable old (λ v. after.misuses ≡ before.misuses)

pub nothing_read : (old : List TreeState) (counts : Counts) → IsOnlyRead old old counts counts
nothing_read [] counts = record { same = refl; proper = tt }
nothing_read (v ∷ earlier) counts = record { same = refl; proper = refl }

pub only_read : {A : Type 0} (old now : List TreeState) (before after : Counts) (fault : Refused) (r : Result A Refused) → OnlyReads fault old now before after r → IsOnlyRead old now before after
only_read old now before after fault r reads = record { same = reads.same; proper = reads.proper }

pub told_always : (old : List TreeState) (P : TreeState → Type 0) → ((v : TreeState) → P v) → IfObservable old P
told_always [] P p = tt
told_always (v ∷ earlier) P p = p v

pub if_told : (old : List TreeState) (P Q : TreeState → Type 0) → IfObservable old P → ((v : TreeState) → P v → Q v) → IfObservable old Q
if_told [] P Q p f = tt
if_told (v ∷ earlier) P Q p f = f v p

module _ (packages : Result (List MemberFound) Refusal) (wanted : Result ChangeDone Refusal) (old now : List TreeState) (before after : Counts) (quiet : IsOnlyRead old now before after) where
  none_run : (result : Result (List ℕ) Refused) → OnOk result (DoesCommit wanted → ⊥) → IfObservable old (λ v. v.names intent_name ≡ None → HasNoStagedNames (files_of v) → IsUnchangedOrCommit wanted v old now result)
  none_run result ok = by old quiet.same
    where
      by : (h : List TreeState) → now ≡ old → IfObservable h (λ v. v.names intent_name ≡ None → HasNoStagedNames (files_of v) → IsUnchangedOrCommit wanted v old now result)
      by [] same = tt
      by (v ∷ earlier) same = λ absent empty. inl (same, ok)

  none_proper : IfObservable old (λ v. v.names intent_name ≡ None → HasNoStagedNames (files_of v) → (DoesCommit wanted → HasEmptyStageAndFreeJournalPaths (files_of v)) → after.misuses ≡ before.misuses)
  none_proper = if_told old _ _ quiet.proper (λ v same absent empty room. same)

  pub comes_to_failure : (fault : Refused) → IsDiskOrMemoryFailure fault → IsEndOfRunOfWantedChange packages wanted old now before after (Err fault)
  comes_to_failure fault is = record { told = inl (failure_told fault is); run = none_run (Err fault) tt; proper = none_proper }
    where
      failure_told : (e : Refused) → IsDiskOrMemoryFailure e → AgreesUnlessDiskOrMemory report_as_is (Err e) (report_of_result wanted)
      failure_told (IsRefused r) h = absurd h
      failure_told Disk h = tt
      failure_told Memory h = tt

  pub comes_to_refusal : (refusal : Refusal) → wanted ≡ Err refusal → IsEndOfRunOfWantedChange packages wanted old now before after (Err (IsRefused refusal))
  comes_to_refusal refusal is = record { told = inl (ap report_of_result is); run = none_run (Err (IsRefused refusal)) tt; proper = none_proper }

  pub comes_to_idle : (done : ChangeDone) (report : List ℕ) → wanted ≡ Ok done → done.commits ≡ false → report ≡ done.report → IsEndOfRunOfWantedChange packages wanted old now before after (Ok report)
  comes_to_idle done report is idle told = record {
    told = inl (ap report_of_result is ∙ ap Ok (sym told));
    run = none_run (Ok report) (λ commits. true_is_not_false (subst DoesCommit is commits) idle);
    proper = none_proper;
  }
    where
      true_is_not_false : done.commits ≡ true → done.commits ≡ false → ⊥
      true_is_not_false t f = cc

-- ---- runs by what is selected

module _ (command : CommandLine) (selected : Result InputsAndReplacement Refusal) (old now : List TreeState) (before after : Counts) where
  pub of_seen : (seen : Seen command selected old) (result : Result (List ℕ) Refused)
      → IsEndOfRunOfWantedChange (packages_found_after_change command seen.read selected) (and_then selected (change_of_selected command seen.read seen.files seen.clash)) old now before after result
      → IsRunOnSelection command selected old now before after result
  of_seen seen result comes = record {
    read = seen.read;
    observed = seen.observed;
    files = seen.files;
    there = seen.there;
    present_files = seen.files;
    stand = seen.there;
    clash = seen.clash;
    is_clash = seen.is_clash;
    comes = comes;
  }

  pub selected_failure : HaveClash → All IsWellFormed old → IsOnlyRead old now before after → (fault : Refused) → IsDiskOrMemoryFailure fault → IsRunOnSelection command selected old now before after (Err fault)
  selected_failure have whole quiet fault is =
      let seen = seen_any have command selected old whole in
      of_seen seen (Err fault) (comes_to_failure _ _ old now before after quiet fault is)

  pub selected_refusal : HaveClash → All IsWellFormed old → IsOnlyRead old now before after → (refusal : Refusal) → selected ≡ Err refusal → IsRunOnSelection command selected old now before after (Err (IsRefused refusal))
  selected_refusal have whole quiet refusal is =
      let seen = seen_any have command selected old whole in
      of_seen seen (Err (IsRefused refusal))
      (comes_to_refusal _ _ old now before after quiet refusal (ap (λ (s : Result InputsAndReplacement Refusal). and_then s (change_of_selected command seen.read seen.files seen.clash)) is))
