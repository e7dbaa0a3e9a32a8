-- A change: its verdict is that of its outcome, and the run leaves what a run leaves.
use Rattle.std.proofs.Common.{◌≡◌, ◌⊎◌, inl, inr, ℕ, Bool, true, false, List, [], ◌∷◌, ◌++◌, Option, None, Result, Ok, Err, refl, sym, ap, subst, ◌∙◌}
use Rattle.std.specs.Prelude.{IfOk, IsErrOf, OnOk, IfErr}
use Rattle.std.proofs.lemmas.Bool.{false≢true}
use Rattle.base_core.specs.Calls.{HoldsNow}
use Rattle.base_core.specs.Undone.{IsDurable}
use Rattle.base_core.specs.Faults.{Counts, CountsNewFaultWithCause, CountsNoNewFaultOrLackOfMemory}
use Rattle.base_core.specs.Files.{Files}
use Rattle.base_core.specs.Restart.{EachMoment, SinceGivenEarlierAddedMoments}
use Rattle.base_core.specs.Tree.{TreeState, files_of}
use Rattle.base_core.specs.declared.tree.TreeFault.{TreeFault}
use Rattle.base_core.specs.declared.tree.TreeFault.TheVariants as Trees
use Rattle.tell_core.specs.change_inputs.Answers.{AgreesUnlessDiskOrMemory}
use Rattle.tell_core.specs.change_inputs.declared.root.Refused.{Refused}
use Rattle.tell_core.specs.change_inputs.declared.root.Refused.TheVariants.{Disk, Memory, Refusal as IsRefused}
use Rattle.engine_core.specs.change_outcome.ChangeOutcome.{ChangeDone}
use Rattle.command_core.specs.Command.{CommandLine}
use Rattle.command_core.specs.declared.command.Applet.{Applet}
use Rattle.command_core.specs.declared.command.Applet.TheVariants.{Add, Del, Fix, Upgrade}
use Rattle.engine_core.specs.ChangeRun.{IsEndOfRunOfWantedChange, DoesCommit, IsChangeRun, IsRunThatCommitsChangeUnlessTreeFails, IsRefusedForUnobservedChangeOfTestedPackage, IsUnchangedOrCommit, report_as_is, report_of_result}
use Rattle.engine_core.specs.Changed.{IsFirstClashOfCommand, IsFirstClashOfCommandAmong, change_of_command, packages_found_after_change, selected_from_reads_by_choice}
use Rattle.engine_core.specs.Choice.{IsPreferredChoiceOrNoneIfRefused}
use Rattle.engine_core.specs.Runs.{IsRunCounted}
use Rattle.engine_core.specs.Selecting.{pool_of_command}
use Rattle.journal_core.specs.Kept.{ReadsOldOrNewBytesOutsideJournal}
use Rattle.journal_core.specs.Recovery.{EachCrashLeavesStateOf, StateDependsOn, intent_name}
use Rattle.journal_core.specs.Staged.{IsOldUntilCommit}
use Rattle.make_core.specs.make_info.Reads.{Reads}
use Rattle.tell_core.specs.path_clashes.Clash.{NamePair}
use Rattle.report_core.specs.declared.refusal.Refusal.{Refusal}
use Rattle.engine_core.specs.journal_commit.StageRun.{IsStateDuringChangeToNewFromOld, IsStagedChangeComplete, NamesOutsideJournalAreDurableIfNoIntent}
use Rattle.outcome.proofs.Applets.{change_is}
use Rattle.outcome.specs.Changing.{change_outcome}
use Rattle.outcome.specs.Commands.{IsPossibleOutcomeAfterRecovery, IsOutcomeOverRecoveredFiles, effect_outcome, reads_in}
use Rattle.outcome.specs.Effect.{Effect, Changes, effect_of, output_name_for_effect}
use Rattle.outcome.specs.Given.{Given, IsPreferredChoiceForChangeElseNone, IsFirstClashForChangeElseNone, IsListingChoiceAndClashFor, AreNamesListedForApplet, IsPossibleListingChoiceAndClash, ArePossibleNamesListedForApplet, IsPossibleFirstClashForChangeElseNone}
use Rattle.outcome.specs.Outcome.{Outcome, just_refusal, just_report}
use Rattle.apk_front.specs.Moments.{IsDurableAndLeavesFiles, IsStateDuringRunToNewFilesFromOld, NamesAreDurableExceptOutputIfNoIntent}
use Rattle.apk_front.specs.Runs.{HasNothingStaged, IfNothingStaged, IsRunAfterRecovery}
use Rattle.apk_front.specs.Told.{IsVerdictOnChange}
use Rattle.apk_front.specs.Verdicts.{Reports, ReportsOneOfOutcomes, as_outcome}
use Rattle.apk_front.specs.declared.answer.Verdict.{Verdict}
use Rattle.apk_front.proofs.AfterRecovery.{StaysWithout}
use Rattle.apk_front.proofs.Carried.{Ones, RoomFor}
use Rattle.apk_front.proofs.Runs.{History, Judged, on_ok, run_idle, since_weaker}

abbrev pub Answered : Type 0
Answered = Result (List ℕ) Refused

abbrev pub HaveOne : Type 0
HaveOne = (command : CommandLine) (files : Files) (a b : Outcome) → IsOutcomeOverRecoveredFiles command files a → IsOutcomeOverRecoveredFiles command files b → a ≡ b

abbrev pub HaveIdle : Type 0
HaveIdle = (command : CommandLine) (files : Files) (o : Outcome) → IsOutcomeOverRecoveredFiles command files o → o.commits ≡ false → o.files ≡ files

-- ---- what is given

abbrev given_by : Option (List ℕ) → Option NamePair → Given
given_by chosen clash = record { names = []; chosen = chosen; clash = clash }

parts_given : (applet : Applet) (command : CommandLine) (read : Reads) (files : Files) (chosen : Option (List ℕ)) (clash : Option NamePair) → effect_of applet ≡ Changes → IsPreferredChoiceOrNoneIfRefused (pool_of_command command read) chosen → IsFirstClashOfCommand command read files chosen clash
    → AreNamesListedForApplet applet command files [] × IsPreferredChoiceForChangeElseNone (effect_of applet) command read chosen × IsFirstClashForChangeElseNone (effect_of applet) command read files chosen clash
parts_given Add command read files chosen clash changes choice first = (refl, choice, first)
parts_given Del command read files chosen clash changes choice first = (refl, choice, first)
parts_given Upgrade command read files chosen clash changes choice first = (refl, choice, first)
parts_given Fix command read files chosen clash changes choice first = (refl, choice, first)
parts_given other command read files chosen clash changes choice first = cc

are_given : (command : CommandLine) (read : Reads) (files : Files) (chosen : Option (List ℕ)) (clash : Option NamePair) → effect_of command.applet ≡ Changes → IsPreferredChoiceOrNoneIfRefused (pool_of_command command read) chosen → IsFirstClashOfCommand command read files chosen clash
    → IsListingChoiceAndClashFor command read files (given_by chosen clash)
are_given command read files chosen clash changes choice first =
    let (list, chosen_so, clash_so) = parts_given command.applet command read files chosen clash changes choice first in
    record { names = list; chosen = chosen_so; clash = clash_so }

parts_by_some : (applet : Applet) (command : CommandLine) (read : Reads) (files present_files : Files) (chosen : Option (List ℕ)) (clash : Option NamePair) → effect_of applet ≡ Changes → IsPreferredChoiceOrNoneIfRefused (pool_of_command command read) chosen
    → IsFirstClashOfCommandAmong command read files present_files chosen clash → ArePossibleNamesListedForApplet applet command [] × IsPreferredChoiceForChangeElseNone (effect_of applet) command read chosen × IsPossibleFirstClashForChangeElseNone (effect_of applet) command read files chosen clash
parts_by_some Add command read files present_files chosen clash changes choice first = (refl, choice, (present_files, first))
parts_by_some Del command read files present_files chosen clash changes choice first = (refl, choice, (present_files, first))
parts_by_some Upgrade command read files present_files chosen clash changes choice first = (refl, choice, (present_files, first))
parts_by_some Fix command read files present_files chosen clash changes choice first = (refl, choice, (present_files, first))
parts_by_some other command read files present_files chosen clash changes choice first = absurd (cc)

may_be_given : (command : CommandLine) (read : Reads) (files present_files : Files) (chosen : Option (List ℕ)) (clash : Option NamePair) → effect_of command.applet ≡ Changes → IsPreferredChoiceOrNoneIfRefused (pool_of_command command read) chosen
    → IsFirstClashOfCommandAmong command read files present_files chosen clash → IsPossibleListingChoiceAndClash command read files (given_by chosen clash)
may_be_given command read files present_files chosen clash changes choice first =
    let (list, chosen_so, clash_so) = parts_by_some command.applet command read files present_files chosen clash changes choice first in
    record { names = list; chosen = chosen_so; clash = clash_so }

-- what the command comes to
abbrev Wanted : Type 0
Wanted = Result ChangeDone Refusal

applet_is : (applet : Applet) (command : CommandLine) (read : Reads) (files : Files) (chosen : Option (List ℕ)) (clash : Option NamePair) → effect_of applet ≡ Changes
    → change_outcome files (change_of_command command read files chosen clash) ≡ effect_outcome (effect_of applet) applet command (given_by chosen clash) read files
applet_is applet command read files chosen clash changes = change_is applet command (given_by chosen clash) read files changes

-- ---- what is told

done_report : (wanted : Wanted) (report : List ℕ) → report_of_result wanted ≡ Ok report → (done : ChangeDone) × (wanted ≡ Ok done) × (done.report ≡ report)
done_report (Ok done) report is = (done, refl, cc (is))
done_report (Err refusal) report is = absurd (cc (is))

refused_as : (wanted : Wanted) (refusal : Refusal) → report_of_result wanted ≡ Err refusal → wanted ≡ Err refusal
refused_as (Ok done) refusal is = absurd (cc (is))
refused_as (Err other) refusal is = let same : other ≡ refusal = cc in ap (λ (r : Refusal). Err r) same

reports_done : (verdict : Verdict) (files : Files) (wanted : Wanted) (report : List ℕ) → report_of_result wanted ≡ Ok report → ((files : Files) → as_outcome files verdict ≡ just_report files report) → Reports verdict (change_outcome files wanted)
reports_done verdict files wanted report is told =
    let (done, done_is, same) = done_report wanted report is in
    subst (λ (w : Wanted). Reports verdict (change_outcome files w)) (sym done_is)
    (ap (λ (o : Outcome). record o { commits = done.commits }) (told done.files) ∙ ap (λ (text : List ℕ). record (just_report done.files text) { commits = done.commits }) (sym same))

reports_refusal : (verdict : Verdict) (files : Files) (wanted : Wanted) (refusal : Refusal) → report_of_result wanted ≡ Err refusal → ((files : Files) → as_outcome files verdict ≡ just_refusal files refusal) → Reports verdict (change_outcome files wanted)
reports_refusal verdict files wanted refusal is told =
    subst (λ (w : Wanted). Reports verdict (change_outcome files w)) (sym (refused_as wanted refusal is)) (ap (λ (o : Outcome). record o { commits = false }) (told files))

-- what was answered as wanted is reported so
reports_wanted : (answer : Answered) (verdict : Verdict) (files : Files) (wanted : Wanted) → AgreesUnlessDiskOrMemory report_as_is answer (report_of_result wanted) → IsVerdictOnChange answer (Ok verdict) → Reports verdict (change_outcome files wanted)
reports_wanted (Ok report) verdict files wanted agrees told = reports_done verdict files wanted report agrees told
reports_wanted (Err (IsRefused refusal)) verdict files wanted agrees told = reports_refusal verdict files wanted refusal agrees told
reports_wanted (Err Disk) verdict files wanted agrees told = absurd (cc (told))
reports_wanted (Err Memory) verdict files wanted agrees told = absurd (cc (told))

-- ---- over a tree that is not observable

commits_so : (files : Files) (wanted : Wanted) → DoesCommit wanted → (change_outcome files wanted).commits ≡ true
commits_so files (Ok done) commits = commits
commits_so files (Err refusal) never = absurd never

does_commit : (files : Files) (wanted : Wanted) → (change_outcome files wanted).commits ≡ true → DoesCommit wanted
does_commit files (Ok done) commits = commits
does_commit files (Err refusal) commits = false≢true commits

told_refusal : (answer : Answered) (refusal : Refusal) (verdict : Verdict) (files : Files) → answer ≡ Err (IsRefused refusal) → IsVerdictOnChange answer (Ok verdict) → Reports verdict (just_refusal files refusal)
told_refusal answer refusal verdict files is told =
    let so : IsVerdictOnChange (Err (IsRefused refusal)) (Ok verdict) = subst (λ (a : Answered). IsVerdictOnChange a (Ok verdict)) is told in
    ap (λ (o : Outcome). record o { commits = false }) (so files)

module _ (command : CommandLine) (changes : effect_of command.applet ≡ Changes) (old now : History) (a b : Counts) (answer : Answered) (run : IsChangeRun command old now a b answer) where
  abbrev found : Given
  found = given_by run.chosen run.clash

  abbrev wanted : Wanted
  wanted = change_of_command command run.read run.files run.chosen run.clash

  found_so : (verdict : Verdict) → IsVerdictOnChange answer (Ok verdict) → AgreesUnlessDiskOrMemory report_as_is answer (report_of_result wanted) ⊎ IsRefusedForUnobservedChangeOfTestedPackage (packages_found_after_change command run.read (selected_from_reads_by_choice command run.read run.chosen)) wanted old answer → ReportsOneOfOutcomes (IsPossibleOutcomeAfterRecovery command) verdict
  found_so verdict told (inl agrees) = (
    change_outcome run.files wanted,
    (found, run.read, run.files, may_be_given command run.read run.files run.present_files run.chosen run.clash changes run.choice run.is_clash, inl (applet_is command.applet command run.read run.files run.chosen run.clash changes)),
    reports_wanted answer verdict run.files wanted agrees told,
  )
  found_so verdict told (inr spoiled) = (
    just_refusal run.files spoiled.refusal,
    (
      found,
      run.read,
      run.files,
      may_be_given command run.read run.files run.present_files run.chosen run.clash changes run.choice run.is_clash,
      inr (record {
        changes = changes;
        commits = ap (λ (o : Outcome). o.commits) (sym (applet_is command.applet command run.read run.files run.chosen run.clash changes)) ∙ commits_so run.files wanted spoiled.commits;
        refusal = spoiled.refusal;
        spoiled = spoiled.spoiled;
        is = refl;
      }),
    ),
    told_refusal answer spoiled.refusal verdict run.files spoiled.is told,
  )

  pub change_read : (judged : Judged) → IsVerdictOnChange answer judged → IfOk judged (ReportsOneOfOutcomes (IsPossibleOutcomeAfterRecovery command))
  change_read (Err e) told = tt
  change_read (Ok verdict) told = found_so verdict told run.comes.told

-- ---- over the files of a tree

-- what is known of a run from a state on, by what is found in it
pub record IsRunAt (command : CommandLine) (v : TreeState) (old now : History) (a b : Counts) (answer : Answered) : Type 0 where
  pub chosen : Option (List ℕ)
  pub clash : Option NamePair
  pub given : IsListingChoiceAndClashFor command (reads_in (files_of v)) (files_of v) (given_by chosen clash)
  pub comes : IsEndOfRunOfWantedChange (packages_found_after_change command (reads_in (files_of v)) (selected_from_reads_by_choice command (reads_in (files_of v)) chosen)) (change_of_command command (reads_in (files_of v)) (files_of v) chosen clash) old now a b answer

abbrev RunFacts : CommandLine → History → History → Counts → Counts → Answered → Option (List ℕ) → Option NamePair → Reads → Files → Files → Type 0
RunFacts command old now a b answer chosen clash read files present_files =
    IsPreferredChoiceOrNoneIfRefused (pool_of_command command read) chosen × IsFirstClashOfCommandAmong command read files present_files chosen clash
    × IsEndOfRunOfWantedChange (packages_found_after_change command read (selected_from_reads_by_choice command read chosen)) (change_of_command command read files chosen clash) old now a b answer

run_at : (command : CommandLine) → effect_of command.applet ≡ Changes → (v : TreeState) (rest now : History) (a b : Counts) (answer : Answered) → IsChangeRun command (v ∷ rest) now a b answer → IsRunAt command v (v ∷ rest) now a b answer
run_at command changes v rest now a b answer run = record {
  chosen = run.chosen;
  clash = run.clash;
  given = are_given command (reads_in (files_of v)) (files_of v) run.chosen run.clash changes both.0 both.1;
  comes = both.2;
}
  where
    same_reads : run.read ≡ reads_in (files_of v)
    same_reads i n name = run.observed n name i

    both : RunFacts command (v ∷ rest) now a b answer run.chosen run.clash (reads_in (files_of v)) (files_of v) (files_of v)
    both =
        subst (λ (read : Reads). RunFacts command (v ∷ rest) now a b answer run.chosen run.clash read (files_of v) (files_of v)) same_reads
        (subst (λ (files : Files). RunFacts command (v ∷ rest) now a b answer run.chosen run.clash run.read files (files_of v)) run.there
        (subst (λ (present_files : Files). RunFacts command (v ∷ rest) now a b answer run.chosen run.clash run.read run.files present_files) run.stand (run.choice, run.is_clash, run.comes)))

-- no answer but want of memory and a fault of the tree is judged as one
told_error : (answer : Answered) (e : TreeFault) → IsVerdictOnChange answer (Err e) → ((e ≡ Trees.Disk) × (answer ≡ Err Disk)) ⊎ ((e ≡ Trees.Memory) × (answer ≡ Err Memory))
told_error (Ok report) e told = absurd told
told_error (Err (IsRefused refusal)) e told = absurd told
told_error (Err Disk) e told = inl (cc (told), refl)
told_error (Err Memory) e told = inr (cc (told), refl)

-- an error of a change that is carried out is a fault of the tree
told_ok : (P : Type 0) (answer : Answered) (judged : Judged) → IsVerdictOnChange answer judged → IfErr answer (λ refused. refused ≡ Disk) → OnOk answer P → OnOk judged P
told_ok P answer (Err e) told err ok = tt
told_ok P (Ok report) (Ok verdict) told err ok = ok
told_ok P (Err refused) (Ok verdict) told err ok =
    absurd (let disk : IsVerdictOnChange (Err Disk) (Ok verdict) = subst (λ (r : Refused). IsVerdictOnChange (Err r) (Ok verdict)) err told in cc (disk))

module _ (command : CommandLine) (changes : effect_of command.applet ≡ Changes) (unique : HaveOne) (leaves : HaveIdle) (v : TreeState) (rest now : History) (a b : Counts) (answer : Answered) (judged : Judged)
    (told : IsVerdictOnChange answer judged) (run : IsRunAt command v (v ∷ rest) now a b answer) (nothing : HasNothingStaged v) where
  abbrev asked : Wanted
  asked = change_of_command command (reads_in (files_of v)) (files_of v) run.chosen run.clash

  abbrev outcome : Outcome
  outcome = change_outcome (files_of v) asked

  is_one : Ones command v outcome
  is_one = (given_by run.chosen run.clash, run.given, applet_is command.applet command (reads_in (files_of v)) (files_of v) run.chosen run.clash changes)

  the_one : (o : Outcome) → Ones command v o → outcome ≡ o
  the_one o one = unique command (files_of v) outcome o is_one one

  told_so : AgreesUnlessDiskOrMemory report_as_is answer (report_of_result asked)
  told_so = elim run.comes.told [ inl agrees ↦ agrees | inr spoiled ↦ absurd (spoiled.unseen nothing.0 nothing.1) ]

  reports : (verdict : Verdict) → judged ≡ Ok verdict → ReportsOneOfOutcomes (Ones command v) verdict
  reports verdict is = (outcome, is_one, reports_wanted answer verdict (files_of v) asked told_so (subst (λ (j : Judged). IsVerdictOnChange answer j) is told))

  -- ---- nothing was written

  idle_commits : (answer : Answered) (wanted : Wanted) → AgreesUnlessDiskOrMemory report_as_is answer (report_of_result wanted) → OnOk answer (DoesCommit wanted → ⊥) → (judged : Judged) → IsVerdictOnChange answer judged → OnOk judged ((change_outcome (files_of v) wanted).commits ≡ false)
  idle_commits answer wanted agrees never (Err e) told = tt
  idle_commits (Ok report) wanted agrees never (Ok verdict) told = not_so (change_outcome (files_of v) wanted).commits refl
    where
      not_so : (c : Bool) → (change_outcome (files_of v) wanted).commits ≡ c → c ≡ false
      not_so true is = absurd (never (does_commit (files_of v) wanted is))
      not_so false is = refl
  idle_commits (Err (IsRefused refusal)) wanted agrees never (Ok verdict) told = ap (λ (w : Wanted). (change_outcome (files_of v) w).commits) (refused_as wanted refusal agrees)
  idle_commits (Err Disk) wanted agrees never (Ok verdict) told = absurd (cc (told))
  idle_commits (Err Memory) wanted agrees never (Ok verdict) told = absurd (cc (told))

  idle_run : now ≡ v ∷ rest → OnOk answer (DoesCommit asked → ⊥) → IsRunAfterRecovery (Ones command v) Changes None judged v (v ∷ rest) now
  idle_run same never =
      run_idle (Ones command v) Changes None judged v rest now same
      (λ o one. on_ok judged (λ idle. (leaves command (files_of v) o one (sym (ap (λ (x : Outcome). x.commits) (the_one o one)) ∙ idle), sym (ap (λ (x : Outcome). x.commits) (the_one o one)) ∙ idle)) (idle_commits answer asked told_so never judged told))

  -- ---- the change was carried out

  module _ (commit : IsRunThatCommitsChangeUnlessTreeFails asked v (v ∷ rest) now answer) where
    files_are : outcome.files ≡ commit.done.files
    files_are = ap (λ (w : Wanted). (change_outcome (files_of v) w).files) commit.is

    commits_are : outcome.commits ≡ true
    commits_are = ap (λ (w : Wanted). (change_outcome (files_of v) w).commits) commit.is ∙ commit.commits

    files_of_one : (o : Outcome) → Ones command v o → commit.done.files ≡ o.files
    files_of_one o one = sym files_are ∙ ap (λ (x : Outcome). x.files) (the_one o one)

    done_so : OnOk judged (IsStagedChangeComplete commit.done.files v now)
    done_so = told_ok (IsStagedChangeComplete commit.done.files v now) answer judged told commit.err commit.ok

    left_durable : (ignored : List ℕ → Bool) → IsDurable (StateDependsOn ignored) v → HoldsNow now (IsDurable (StateDependsOn ignored))
    left_durable ignored is_durable = by_added (commit.run.moments ignored is_durable).added (commit.run.moments ignored is_durable).is (commit.run.moments ignored is_durable).each
      where
        by_added : (added : History) → now ≡ added ++ v ∷ rest → EachMoment (IsOldUntilCommit ignored commit.done.files v) added → HoldsNow now (IsDurable (StateDependsOn ignored))
        by_added [] is each = subst (λ (h : History). HoldsNow h (IsDurable (StateDependsOn ignored))) (sym is) is_durable
        by_added (m ∷ added) is each = subst (λ (h : History). HoldsNow h (IsDurable (StateDependsOn ignored))) (sym is) each.0.is_durable

    at_work : (w : TreeState) → IsStateDuringChangeToNewFromOld commit.done.files (files_of v) w → IsStateDuringRunToNewFilesFromOld Changes None outcome.files (files_of v) w
    at_work w (inl waiting) = inl waiting
    at_work w (inr (inl by_intent)) = inr (inl (record { changes = refl; intent = by_intent.intent; leads = by_intent.leads ∙ sym files_are; bytes = subst (λ (f : Files). ReadsOldOrNewBytesOutsideJournal (files_of v) f w) (sym files_are) by_intent.bytes }))
    at_work w (inr (inr is)) = inr (inr (is ∙ sym files_are))

    rests : (ignored : List ℕ → Bool) (h : History) (files : Files) → HoldsNow h (IsDurable (StateDependsOn ignored)) → HoldsNow h (EachCrashLeavesStateOf ignored files) → HoldsNow h (IsDurableAndLeavesFiles ignored files)
    rests ignored [] files is_durable settled = absurd is_durable
    rests ignored (w ∷ h) files is_durable settled = record { is_durable = is_durable; settled = settled }

    commit_run : IsRunAfterRecovery (Ones command v) Changes None judged v (v ∷ rest) now
    commit_run = record {
      moments = λ ignored is_durable hides. inr (outcome, is_one, commits_are, subst (λ (f : Files). SinceGivenEarlierAddedMoments (IsOldUntilCommit ignored f v) (v ∷ rest) now) (sym files_are) (commit.run.moments ignored is_durable));
      is_durable = λ ignored is_durable hides. left_durable ignored is_durable;
      settled = λ ignored o is_durable hides one lasts. on_ok judged (λ done. subst (λ (f : Files). HoldsNow now (EachCrashLeavesStateOf ignored f)) (files_of_one o one) (done.settled ignored is_durable)) done_so;
      durable_state = λ ignored o is_durable hides one commits.
          on_ok judged (λ done. subst (λ (f : Files). HoldsNow now (IsDurableAndLeavesFiles ignored f)) (files_of_one o one) (rests ignored now commit.done.files (left_durable ignored is_durable) (done.settled ignored is_durable))) done_so;
      reads = inr (outcome, is_one, commits_are, since_weaker (IsStateDuringChangeToNewFromOld commit.done.files (files_of v)) (IsStateDuringRunToNewFilesFromOld Changes None outcome.files (files_of v)) (v ∷ rest) now at_work commit.run.reads);
      last = λ last. since_weaker NamesOutsideJournalAreDurableIfNoIntent (NamesAreDurableExceptOutputIfNoIntent None) (v ∷ rest) now (λ w lasts none map among q off no_intent unstaged. lasts none map among q no_intent unstaged) (commit.run.last last);
      leaves = λ o one. on_ok judged (λ done. reads_now now o one done.reads) done_so;
      idle = λ o one idle. absurd (false≢true (sym idle ∙ (sym (ap (λ (x : Outcome). x.commits) (the_one o one)) ∙ commits_are)));
    }
      where
        reads_now : (h : History) (o : Outcome) → Ones command v o → HoldsNow h (λ w. (files_of w ≡ commit.done.files) × (w.names intent_name ≡ None)) → HoldsNow h (λ w. files_of w ≡ o.files)
        reads_now [] o one none = none
        reads_now (w ∷ h) o one (is, absent) = is ∙ files_of_one o one

  -- ---- either

  run_so : IsUnchangedOrCommit asked v (v ∷ rest) now answer → IsRunAfterRecovery (Ones command v) Changes None judged v (v ∷ rest) now
  run_so (inl (same, never)) = idle_run same never
  run_so (inr commit) = commit_run commit

  pub change_run_at : IsRunAfterRecovery (Ones command v) Changes None judged v (v ∷ rest) now
  change_run_at = run_so (run.comes.run nothing.0 nothing.1)

  no_memory_after : IsUnchangedOrCommit asked v (v ∷ rest) now answer → answer ≡ Err Memory → now ≡ v ∷ rest
  no_memory_after (inl (same, never)) is = same
  no_memory_after (inr commit) is = absurd (let disk : Memory ≡ Disk = subst (λ (r : Answered). IfErr r (λ refused. refused ≡ Disk)) is commit.err in cc)

  pub change_undone_at : StaysWithout (v ∷ rest) now judged
  change_undone_at none = no_memory_after (run.comes.run nothing.0 nothing.1) (memory_of answer judged told none)
    where
      memory_of : (answer : Answered) (judged : Judged) → IsVerdictOnChange answer judged → IsErrOf judged Trees.Memory → answer ≡ Err Memory
      memory_of answer (Ok verdict) told none = absurd (cc (none))
      memory_of answer (Err e) told none =
          let e_is : e ≡ Trees.Memory = cc in
          elim (told_error answer e told) [ inl disk ↦ absurd (let same : Trees.Disk ≡ Trees.Memory = sym disk.0 ∙ e_is in cc) | inr memory ↦ memory.1 ]

  pub change_proper_at : RoomFor (Ones command v) Changes None (files_of v) → b.misuses ≡ a.misuses
  change_proper_at room = run.comes.proper nothing.0 nothing.1 (λ commits. room outcome is_one (commits_so (files_of v) asked commits))

-- ---- where nothing waits

module _ (command : CommandLine) (changes : effect_of command.applet ≡ Changes) (unique : HaveOne) (leaves : HaveIdle) where
  abbrev effect : Effect
  effect = effect_of command.applet

  pub change_found : (old now : History) (a b : Counts) (answer : Answered) (judged : Judged) → IsVerdictOnChange answer judged → IsChangeRun command old now a b answer → IfOk judged (λ verdict. IfNothingStaged old (λ v. ReportsOneOfOutcomes (Ones command v) verdict))
  change_found old now a b answer (Err e) told run = tt
  change_found [] now a b answer (Ok verdict) told run = tt
  change_found (v ∷ rest) now a b answer (Ok verdict) told run = λ nothing.
      reports command changes unique leaves v rest now a b answer (Ok verdict) told (run_at command changes v rest now a b answer run) nothing verdict refl

  pub change_run : (old now : History) (a b : Counts) (answer : Answered) (judged : Judged) → IsVerdictOnChange answer judged → IsChangeRun command old now a b answer
      → IfNothingStaged old (λ v. IsRunAfterRecovery (Ones command v) (effect_of command.applet) (output_name_for_effect (effect_of command.applet) command) judged v old now)
  change_run [] now a b answer judged told run = tt
  change_run (v ∷ rest) now a b answer judged told run = λ nothing.
      subst (λ (e : Effect). IsRunAfterRecovery (Ones command v) e (output_name_for_effect e command) judged v (v ∷ rest) now) (sym changes)
      (change_run_at command changes unique leaves v rest now a b answer judged told (run_at command changes v rest now a b answer run) nothing)

  pub change_undone : (old now : History) (a b : Counts) (answer : Answered) (judged : Judged) → IsVerdictOnChange answer judged → IsChangeRun command old now a b answer → IfNothingStaged old (λ v. StaysWithout old now judged)
  change_undone [] now a b answer judged told run = tt
  change_undone (v ∷ rest) now a b answer judged told run = λ nothing. change_undone_at command changes unique leaves v rest now a b answer judged told (run_at command changes v rest now a b answer run) nothing

  pub change_proper : (old now : History) (a b : Counts) (answer : Answered) (judged : Judged) → IsVerdictOnChange answer judged → IsChangeRun command old now a b answer
      → IfNothingStaged old (λ v. RoomFor (Ones command v) (effect_of command.applet) (output_name_for_effect (effect_of command.applet) command) (files_of v) → b.misuses ≡ a.misuses)
  change_proper [] now a b answer judged told run = tt
  change_proper (v ∷ rest) now a b answer judged told run = λ nothing.
      subst (λ (e : Effect). RoomFor (Ones command v) e (output_name_for_effect e command) (files_of v) → b.misuses ≡ a.misuses) (sym changes)
      (change_proper_at command changes unique leaves v rest now a b answer judged told (run_at command changes v rest now a b answer run) nothing)

-- ---- the counts

pub change_disk : (answer : Answered) (judged : Judged) (a b : Counts) → IsVerdictOnChange answer judged → IsRunCounted a b answer → IsErrOf judged Trees.Disk → CountsNewFaultWithCause a b
change_disk answer (Ok verdict) a b told counted none = absurd (cc (none))
change_disk answer (Err e) a b told counted none =
    let e_is : e ≡ Trees.Disk = cc in
    elim (told_error answer e told) [ inl disk ↦ counted.disk disk.1 | inr memory ↦ absurd (let same : Trees.Memory ≡ Trees.Disk = sym memory.0 ∙ e_is in cc) ]

pub change_kept : (answer : Answered) (judged : Judged) (a b : Counts) → IsVerdictOnChange answer judged → IsRunCounted a b answer → OnOk judged (CountsNoNewFaultOrLackOfMemory a b)
change_kept answer (Err e) a b told counted = tt
change_kept (Ok report) (Ok verdict) a b told counted = counted.kept
change_kept (Err (IsRefused refusal)) (Ok verdict) a b told counted = counted.others (λ is. cc (is))
change_kept (Err Disk) (Ok verdict) a b told counted = absurd (cc (told))
change_kept (Err Memory) (Ok verdict) a b told counted = absurd (cc (told))

pub change_memory : (answer : Answered) (judged : Judged) (a b : Counts) → IsVerdictOnChange answer judged → IsRunCounted a b answer → IsErrOf judged Trees.Memory → CountsNoNewFaultOrLackOfMemory a b
change_memory answer (Ok verdict) a b told counted none = absurd (cc (none))
change_memory answer (Err e) a b told counted none =
    let e_is : e ≡ Trees.Memory = cc in
    elim (told_error answer e told) [
      | inl disk ↦ absurd (let same : Trees.Disk ≡ Trees.Memory = sym disk.0 ∙ e_is in cc)
      | inr memory ↦ not_disk answer memory.1 counted
    ]
  where
    not_disk : (answer : Answered) → answer ≡ Err Memory → IsRunCounted a b answer → CountsNoNewFaultOrLackOfMemory a b
    not_disk answer is counted = (subst (λ (r : Answered). IsRunCounted a b r) is counted).others (λ same. cc (same))

-- ---- the applets

pub change_applet : (command : CommandLine) (applet : Applet) → applet ≡ command.applet → (applet ≡ Add) ⊎ ((applet ≡ Del) ⊎ ((applet ≡ Upgrade) ⊎ (applet ≡ Fix))) → effect_of command.applet ≡ Changes
change_applet command applet same (inl is) = ap effect_of (sym same ∙ is)
change_applet command applet same (inr (inl is)) = ap effect_of (sym same ∙ is)
change_applet command applet same (inr (inr (inl is))) = ap effect_of (sym same ∙ is)
change_applet command applet same (inr (inr (inr is))) = ap effect_of (sym same ∙ is)
