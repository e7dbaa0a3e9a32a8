-- A command is run, and its outcome carried out.
use Rattle.std.proofs.Common.{◌≡◌, inl, inr, ℕ, Bool, true, false, List, [], ◌∷◌, Option, Some, None, IsSome, Result, Ok, Err, refl, sym, ap, subst, ◌∙◌}
use Rattle.std.proofs.lemmas.Bool.{false≢true}
use Rattle.std.specs.Prelude.{if◌then◌else◌, is_some, IfOk, IsErrOf, IsTrue, OnOk}
use Rattle.base_core.specs.Calls.{HoldsNow, IfObservable}
use Rattle.base_core.specs.Crash.{Since}
use Rattle.base_core.specs.Undone.{IsDurable}
use Rattle.base_core.specs.Faults.{Counts, CountsNoNewFaultOrLackOfMemory}
use Rattle.base_core.specs.Files.{Files, no_names}
use Rattle.base_core.specs.Read.{OnlyReads}
use Rattle.base_core.specs.Sink.{SinkBeforeAndAfter}
use Rattle.base_core.specs.Tree.{TreeState, files_of}
use Rattle.base_core.specs.declared.cause.Cause.{Cause}
use Rattle.base_core.specs.declared.tree.TreeFault.{TreeFault}
use Rattle.base_core.specs.declared.tree.TreeFault.TheVariants.{Disk, Memory as NoMemory}
use Rattle.journal_core.specs.Quiet.{StateIsUnchanged}
use Rattle.journal_core.specs.Recovery.{EachCrashLeavesStateOf, StateDependsOn, intent_name}
use Rattle.make_core.specs.make_info.Output.{output_name}
use Rattle.make_core.specs.package_files.Sources.{AreSortedAndEachBelowFirstFolder, values_of_letter}
use Rattle.command_core.specs.declared.values.TheConstants.{FILES}
use Rattle.make_core.specs.Files.{EachOperandReadFindsNoFileOrFileBytes}
use Rattle.make_core.specs.make_info.Reads.{Reads}
use Rattle.outcome.specs.Make.{mkndx, mkpkg}
use Rattle.outcome.specs.Commands.{IsPossibleOutcomeWithoutDemo, IsPossibleOutcomeAfterRecovery, IsOutcomeWithoutDemo, IsOutcomeOverRecoveredFiles, reads_in, outcome_from_arguments_alone, effect_outcome, outcome_of_only_reading_files}
use Rattle.outcome.specs.Given.{Given, IsPreferredChoiceForChangeElseNone, IsFirstClashForChangeElseNone, IsListingChoiceAndClashFor, AreNamesListedForApplet, IsPossibleListingChoiceAndClash, ArePossibleNamesListedForApplet, IsPossibleFirstClashForChangeElseNone, no_listing_choice_or_clash}
use Rattle.outcome.specs.Effect.{Effect, Computes, OnlyReadsFiles, AsksRoot, Makes, Changes, does_neither_recover_nor_write, does_recover, ignores_files, effect_of_arguments, effect_of, output, output_name_of_arguments, output_name_for_effect, do_arguments_neither_recover_nor_write, depends_only_on_arguments}
use Rattle.outcome.specs.Words.{IsPossibleOutcome, IsOutcome}
use Rattle.outcome.specs.Work.{recovery_fault}
use Rattle.outcome.specs.Outcome.{Outcome, just_refusal, just_report, outcome_without_commit, just_report_unless_refusal}
use Rattle.report_core.specs.declared.refusal.Refusal.{Refusal}
use Rattle.report_core.specs.declared.refusal.Refusal.TheVariants.{Usage}
use Rattle.command_core.specs.Command.{CommandLine}
use Rattle.words_core.specs.Faults.{IsWordsFault}
use Rattle.words_core.specs.Grammar.{command_of}
use Rattle.words_core.specs.HelpTexts.{help_text, version_line}
use Rattle.words_core.specs.declared.read.WordsFault.{WordsFault}
use Rattle.words_core.specs.declared.read.WordsFault.TheVariants.{Usage as WrongWord}
use Rattle.command_core.specs.declared.command.Applet.{Applet}
use Rattle.command_core.specs.declared.command.Applet.TheVariants.{Adbdump, Adbgen, Help, Mkndx, Mkpkg, ProgramVersion, Verify, Version}
use Rattle.command_core.specs.declared.operands.Operand.{Operand}
use Rattle.outcome.proofs.Looking.{look_leaves}
use Rattle.apk_front.specs.Answers.{answer_for_refusal}
use Rattle.apk_front.specs.Effects.{root_access_if_read_only}
use Rattle.apk_front.specs.Moments.{IsOkRefusedOrOutputFault, AreStatesAsRecoveredOrOfCommittingRun, AreStatesOldOrLeadToOutcome, IsRefusedOutOfMemoryOrCommitsNothing, HasNothingToRecover, ArePathsToWriteFree, IgnoresOutputScratchNameButNotIntent, IsDurableAndLeavesFiles, IsRefusedOrOutOfMemory, LeavesDurableStateAndOutputIfCommitted, LeavesDurableFilesIfRequiredOnceAnswered, AreRunPathsOfCommandLineFree, AreRecoveryAndOutcomePathsFree, LeavesDurableFilesIfRequired, CommitsRecoversIntentOrCrashesLeaveAsRead, NamesAreDurableExceptOutputIfNoIntent, ignored_except_output_and_scratch}
use Rattle.apk_front.specs.RunContracts.{IsRunByArguments}
use Rattle.apk_front.specs.Runs.{IfNothingStaged, IsRunAfterRecovery, IsRunWithRecovery, IsOutOfMemoryOrWithoutCommit}
use Rattle.apk_front.specs.Containers.{IsIndexOutcome, IsPackageOutcome}
use Rattle.apk_front.specs.Verdicts.{IsPrinted, IsVerdictPrinted, Reports, ReportsOneOfOutcomes, as_outcome, read_only_outcome}
use Rattle.apk_front.specs.declared.answer.Answer.{Answer}
use Rattle.apk_front.specs.declared.answer.Answer.TheVariants.{Ok as Done, Refused, TreeFault as TreeFailed, OutFault, Memory}
use Rattle.apk_front.specs.declared.answer.Verdict.{Verdict}
use Rattle.apk_front.specs.declared.judge.RootAccess.{RootAccess}
use Rattle.apk_front.specs.declared.judge.RootAccess.TheVariants.{Read, Write}
use Rattle.apk_front.proofs.Judged.{Runs, found_at, none_by_some, none_given, of_over, over_of, reads_without}
use Rattle.apk_front.proofs.AfterRecovery.{LeavesAll, whole_idle}
use Rattle.apk_front.proofs.Runs.{History, Judged, Leaves, ok_always, run_among}

-- ---- an applet that only reads

abbrev pub Ones : CommandLine → TreeState → Outcome → Type 0
Ones command v = IsOutcomeOverRecoveredFiles command (files_of v)

-- the outcomes of a command that may first recover
abbrev pub Wholes : CommandLine → TreeState → Outcome → Type 0
Wholes command v = IsOutcomeWithoutDemo (Ok command) (files_of v)

pub look_found : (command : CommandLine) (old : History) (judged : Judged) → does_neither_recover_nor_write (effect_of command.applet) ≡ true → IfOk judged (λ verdict. IfObservable old (λ v. as_outcome (files_of v) verdict ≡ read_only_outcome command (reads_in (files_of v)) (files_of v)))
    → IfOk judged (λ verdict. IfObservable old (λ v. ReportsOneOfOutcomes (Wholes command v) verdict))
look_found command old (Err e) reads found = tt
look_found command [] (Ok verdict) reads found = tt
look_found command (v ∷ rest) (Ok verdict) reads found =
    (as_outcome (files_of v) verdict, of_over command (files_of v) (as_outcome (files_of v) verdict) (reads_without (effect_of command.applet) reads) (no_listing_choice_or_clash, none_given command (reads_in (files_of v)) (files_of v) reads, found), refl)

pub look_read : (command : CommandLine) (judged : Judged) → does_neither_recover_nor_write (effect_of command.applet) ≡ true → IfOk judged (λ verdict. (read : Reads) × (as_outcome no_names verdict ≡ read_only_outcome command read no_names)) → IfOk judged (ReportsOneOfOutcomes (IsPossibleOutcomeWithoutDemo command))
look_read command (Err e) reads found = tt
look_read command (Ok verdict) reads (read, is) = (as_outcome no_names verdict, inl (no_listing_choice_or_clash, read, no_names, none_by_some command read no_names reads, inl is), refl)

pub look_run : (command : CommandLine) (old now : History) (judged : Judged) → does_neither_recover_nor_write (effect_of command.applet) ≡ true → now ≡ old
    → IfObservable old (λ v. IsRunWithRecovery (Wholes command v) (effect_of command.applet) (output_name_for_effect (effect_of command.applet) command) judged v old now)
look_run command [] now judged reads same = tt
look_run command (v ∷ rest) now judged reads same =
    let none = reads_without (effect_of command.applet) reads in
    whole_idle (Wholes command v) (effect_of command.applet) (output_name_for_effect (effect_of command.applet) command) judged v rest now same
    (λ o one.
    let is = over_of command (files_of v) o none one in
    ok_always (LeavesAll (effect_of command.applet) v o) judged
    (subst (Leaves (files_of v)) (sym is.2) (look_leaves (effect_of command.applet) command.applet command is.0 (files_of v) reads), λ can. false≢true (sym none ∙ can.0)))

-- ---- an applet that makes

abbrev listed : List (List ℕ) → Given
listed names = record { names = names; chosen = None; clash = None }

made_given : (applet : Applet) (command : CommandLine) (files : Files) (names : List (List ℕ)) → effect_of applet ≡ Makes → AreNamesListedForApplet applet command files names
    → AreNamesListedForApplet applet command files names × IsPreferredChoiceForChangeElseNone (effect_of applet) command (reads_in files) None × IsFirstClashForChangeElseNone (effect_of applet) command (reads_in files) files None None
made_given Mkpkg command files names makes are = (are, refl, refl)
made_given Mkndx command files names makes are = (are, refl, refl)
made_given other command files names makes are = cc

given_of_names : (command : CommandLine) (files : Files) (names : List (List ℕ)) → effect_of command.applet ≡ Makes → AreNamesListedForApplet command.applet command files names → IsListingChoiceAndClashFor command (reads_in files) files (listed names)
given_of_names command files names makes are = let (list, choice, clash) = made_given command.applet command files names makes are in record { names = list; chosen = choice; clash = clash }

made_by_some : (applet : Applet) (command : CommandLine) (read : Reads) (files : Files) (names : List (List ℕ)) → effect_of applet ≡ Makes → ArePossibleNamesListedForApplet applet command names
    → ArePossibleNamesListedForApplet applet command names × IsPreferredChoiceForChangeElseNone (effect_of applet) command read None × IsPossibleFirstClashForChangeElseNone (effect_of applet) command read files None None
made_by_some Mkpkg command read files names makes are = (are, refl, refl)
made_by_some Mkndx command read files names makes are = (are, refl, refl)
made_by_some other command read files names makes are = absurd (cc)

given_by_some : (command : CommandLine) (read : Reads) (files : Files) (names : List (List ℕ)) → effect_of command.applet ≡ Makes → ArePossibleNamesListedForApplet command.applet command names → IsPossibleListingChoiceAndClash command read files (listed names)
given_by_some command read files names makes are = let (list, choice, clash) = made_by_some command.applet command read files names makes are in record { names = list; chosen = choice; clash = clash }

makes_package : (command : CommandLine) → Mkpkg ≡ command.applet → effect_of command.applet ≡ Makes
makes_package command same = sym (ap effect_of same)

makes_index : (command : CommandLine) → Mkndx ≡ command.applet → effect_of command.applet ≡ Makes
makes_index command same = sym (ap effect_of same)

package_one : (command : CommandLine) (files : Files) (o : Outcome) → Mkpkg ≡ command.applet → IsPackageOutcome command files o → IsOutcomeOverRecoveredFiles command files o
package_one command files o same (names, are, is) =
    (listed names, given_of_names command files names (makes_package command same) (subst (λ (a : Applet). AreNamesListedForApplet a command files names) same are), is ∙ ap (λ (a : Applet). effect_outcome (effect_of a) a command (listed names) (reads_in files) files) same)

one_package : (command : CommandLine) (files : Files) (o : Outcome) → Mkpkg ≡ command.applet → IsOutcomeOverRecoveredFiles command files o → IsPackageOutcome command files o
one_package command files o same (given, are, is) =
    (given.names, subst (λ (a : Applet). AreNamesListedForApplet a command files given.names) (sym same) are.names, is ∙ ap (λ (a : Applet). effect_outcome (effect_of a) a command given (reads_in files) files) (sym same))

index_one : (command : CommandLine) (files : Files) (o : Outcome) → Mkndx ≡ command.applet → IsIndexOutcome command files o → IsOutcomeOverRecoveredFiles command files o
index_one command files o same is =
    (listed [], given_of_names command files [] (makes_index command same) (subst (λ (a : Applet). AreNamesListedForApplet a command files []) same refl), is ∙ ap (λ (a : Applet). effect_outcome (effect_of a) a command (listed []) (reads_in files) files) same)

one_index : (command : CommandLine) (files : Files) (o : Outcome) → Mkndx ≡ command.applet → IsOutcomeOverRecoveredFiles command files o → IsIndexOutcome command files o
one_index command files o same (given, are, is) = is ∙ ap (λ (a : Applet). effect_outcome (effect_of a) a command given (reads_in files) files) (sym same)

reports_among : (A B : TreeState → Outcome → Type 0) (old : History) (judged : Judged) → ((v : TreeState) (o : Outcome) → A v o → B v o) → IfOk judged (λ verdict. IfObservable old (λ v. ReportsOneOfOutcomes (A v) verdict))
    → IfOk judged (λ verdict. IfNothingStaged old (λ v. ReportsOneOfOutcomes (B v) verdict))
reports_among A B old (Err e) f found = tt
reports_among A B [] (Ok verdict) f found = tt
reports_among A B (v ∷ rest) (Ok verdict) f (o, one, reports) = λ nothing. (o, f v o one, reports)

pub package_found_one : (command : CommandLine) (old : History) (judged : Judged) → Mkpkg ≡ command.applet → IfOk judged (λ verdict. IfObservable old (λ v. ReportsOneOfOutcomes (IsPackageOutcome command (files_of v)) verdict))
    → IfOk judged (λ verdict. IfNothingStaged old (λ v. ReportsOneOfOutcomes (Ones command v) verdict))
package_found_one command old judged same found = reports_among (λ v. IsPackageOutcome command (files_of v)) (Ones command) old judged (λ v o one. package_one command (files_of v) o same one) found

pub index_found_one : (command : CommandLine) (old : History) (judged : Judged) → Mkndx ≡ command.applet → IfOk judged (λ verdict. IfObservable old (λ v. ReportsOneOfOutcomes (IsIndexOutcome command (files_of v)) verdict))
    → IfOk judged (λ verdict. IfNothingStaged old (λ v. ReportsOneOfOutcomes (Ones command v) verdict))
index_found_one command old judged same found = reports_among (λ v. IsIndexOutcome command (files_of v)) (Ones command) old judged (λ v o one. index_one command (files_of v) o same one) found

pub package_read_one : (command : CommandLine) (judged : Judged) → Mkpkg ≡ command.applet → IfOk judged (λ verdict. (names : List (List ℕ)) × AreSortedAndEachBelowFirstFolder (values_of_letter FILES command.values) names × (read : Reads) × Reports verdict (mkpkg read no_names command names))
    → IfOk judged (ReportsOneOfOutcomes (IsPossibleOutcomeAfterRecovery command))
package_read_one command (Err e) same found = tt
package_read_one command (Ok verdict) same (names, named, read, reports) =
    (mkpkg read no_names command names, (listed names, read, no_names, given_by_some command read no_names names (makes_package command same) (subst (λ (a : Applet). ArePossibleNamesListedForApplet a command names) same named), inl (ap (λ (a : Applet). effect_outcome (effect_of a) a command (listed names) read no_names) same)), reports)

pub index_read_one : (command : CommandLine) (judged : Judged) → Mkndx ≡ command.applet → IfOk judged (λ verdict. (read : Reads) × EachOperandReadFindsNoFileOrFileBytes read 0 command.operands × Reports verdict (mkndx read no_names command))
    → IfOk judged (ReportsOneOfOutcomes (IsPossibleOutcomeAfterRecovery command))
index_read_one command (Err e) same found = tt
index_read_one command (Ok verdict) same (read, files, reports) =
    (mkndx read no_names command, (listed [], read, no_names, given_by_some command read no_names [] (makes_index command same) (subst (λ (a : Applet). ArePossibleNamesListedForApplet a command []) same refl), inl (ap (λ (a : Applet). effect_outcome (effect_of a) a command (listed []) read no_names) same)), reports)

runs_among : (A B : TreeState → Outcome → Type 0) (out : Option (List ℕ)) (judged : Judged) (old now : History) → ((v : TreeState) (o : Outcome) → A v o → B v o) → ((v : TreeState) (o : Outcome) → B v o → A v o)
    → IfObservable old (λ v. IsRunAfterRecovery (A v) Makes out judged v old now) → IfNothingStaged old (λ v. IsRunAfterRecovery (B v) Makes out judged v old now)
runs_among A B out judged [] now into from run = tt
runs_among A B out judged (v ∷ rest) now into from run = λ nothing. run_among (A v) (B v) Makes out judged v (v ∷ rest) now (into v) (from v) run

pub package_run : (command : CommandLine) (judged : Judged) (old now : History) → Mkpkg ≡ command.applet → IfObservable old (λ v. IsRunAfterRecovery (IsPackageOutcome command (files_of v)) Makes (output_name command) judged v old now)
    → IfNothingStaged old (λ v. IsRunAfterRecovery (Ones command v) (effect_of command.applet) (output_name_for_effect (effect_of command.applet) command) judged v old now)
package_run command judged old now same run =
    subst (λ (a : Applet). IfNothingStaged old (λ v. IsRunAfterRecovery (Ones command v) (effect_of a) (output_name_for_effect (effect_of a) command) judged v old now)) same
    (runs_among (λ v. IsPackageOutcome command (files_of v)) (Ones command) (output_name command) judged old now (λ v o one. package_one command (files_of v) o same one) (λ v o one. one_package command (files_of v) o same one) run)

pub index_run : (command : CommandLine) (judged : Judged) (old now : History) → Mkndx ≡ command.applet → IfObservable old (λ v. IsRunAfterRecovery (IsIndexOutcome command (files_of v)) Makes (output_name command) judged v old now)
    → IfNothingStaged old (λ v. IsRunAfterRecovery (Ones command v) (effect_of command.applet) (output_name_for_effect (effect_of command.applet) command) judged v old now)
index_run command judged old now same run =
    subst (λ (a : Applet). IfNothingStaged old (λ v. IsRunAfterRecovery (Ones command v) (effect_of a) (output_name_for_effect (effect_of a) command) judged v old now)) same
    (runs_among (λ v. IsIndexOutcome command (files_of v)) (Ones command) (output_name command) judged old now (λ v o one. index_one command (files_of v) o same one) (λ v o one. one_index command (files_of v) o same one) run)

-- where memory ran out nothing was written
pub undone_anyway : (old : History) (P : Type 0) → P → IfNothingStaged old (λ v. P)
undone_anyway [] P p = tt
undone_anyway (v ∷ rest) P p = λ nothing. p

-- room for each of some outcomes
abbrev pub RoomFor : (Outcome → Type 0) → Effect → Option (List ℕ) → Files → Type 0
RoomFor IsOne effect out files = (o : Outcome) → IsOne o → o.commits ≡ true → ArePathsToWriteFree effect out files

rooms_among : (A B : TreeState → Outcome → Type 0) (out : Option (List ℕ)) (old : History) (P : Type 0) → ((v : TreeState) (o : Outcome) → A v o → B v o) → IfObservable old (λ v. RoomFor (A v) Makes out (files_of v) → P) → IfNothingStaged old (λ v. RoomFor (B v) Makes out (files_of v) → P)
rooms_among A B out [] P f proper = tt
rooms_among A B out (v ∷ rest) P f proper = λ nothing room. proper (λ o one commits. room o (f v o one) commits)

pub package_proper : (command : CommandLine) (old : History) (P : Type 0) → Mkpkg ≡ command.applet → IfObservable old (λ v. RoomFor (IsPackageOutcome command (files_of v)) Makes (output_name command) (files_of v) → P)
    → IfNothingStaged old (λ v. RoomFor (Ones command v) (effect_of command.applet) (output_name_for_effect (effect_of command.applet) command) (files_of v) → P)
package_proper command old P same proper =
    subst (λ (a : Applet). IfNothingStaged old (λ v. RoomFor (Ones command v) (effect_of a) (output_name_for_effect (effect_of a) command) (files_of v) → P)) same
    (rooms_among (λ v. IsPackageOutcome command (files_of v)) (Ones command) (output_name command) old P (λ v o one. package_one command (files_of v) o same one) proper)

pub index_proper : (command : CommandLine) (old : History) (P : Type 0) → Mkndx ≡ command.applet → IfObservable old (λ v. RoomFor (IsIndexOutcome command (files_of v)) Makes (output_name command) (files_of v) → P)
    → IfNothingStaged old (λ v. RoomFor (Ones command v) (effect_of command.applet) (output_name_for_effect (effect_of command.applet) command) (files_of v) → P)
index_proper command old P same proper =
    subst (λ (a : Applet). IfNothingStaged old (λ v. RoomFor (Ones command v) (effect_of a) (output_name_for_effect (effect_of a) command) (files_of v) → P)) same
    (rooms_among (λ v. IsIndexOutcome command (files_of v)) (Ones command) (output_name command) old P (λ v o one. index_one command (files_of v) o same one) proper)

-- ---- the words

-- the outcomes of each command, `demo` too
abbrev pub OfCommand : CommandLine → TreeState → Outcome → Type 0
OfCommand command v = IsOutcome (Ok command) (files_of v)

pub by_command : (words : List (List ℕ)) (command : CommandLine) (old : History) (judged : Judged) → command_of words ≡ Ok command → IfOk judged (λ verdict. IfObservable old (λ v. ReportsOneOfOutcomes (OfCommand command v) verdict))
    → IfOk judged (λ verdict. IfObservable old (λ v. ReportsOneOfOutcomes (IsOutcome (command_of words) (files_of v)) verdict))
by_command words command old judged is found = subst (λ (r : Result CommandLine ℕ). IfOk judged (λ verdict. IfObservable old (λ v. ReportsOneOfOutcomes (IsOutcome r (files_of v)) verdict))) (sym is) found

pub run_by_command : (words : List (List ℕ)) (command : CommandLine) (judged : Judged) (old now : History) → command_of words ≡ Ok command
    → IfObservable old (λ v. IsRunWithRecovery (OfCommand command v) (effect_of command.applet) (output_name_for_effect (effect_of command.applet) command) judged v old now) → Runs words judged old now
run_by_command words command judged old now is run = subst (λ (r : Result CommandLine ℕ). IfObservable old (λ v. IsRunWithRecovery (IsOutcome r (files_of v)) (effect_of_arguments r) (output_name_of_arguments r) judged v old now)) (sym is) run

pub proper_by_command : (words : List (List ℕ)) (command : CommandLine) (old : History) (P : Type 0) → command_of words ≡ Ok command
    → IfObservable old (λ v. AreRecoveryAndOutcomePathsFree (effect_of command.applet) (output_name_for_effect (effect_of command.applet) command) (OfCommand command v) (files_of v) → P) → IfObservable old (λ v. AreRunPathsOfCommandLineFree words (files_of v) → P)
proper_by_command words command old P is proper = subst (λ (r : Result CommandLine ℕ). IfObservable old (λ v. AreRecoveryAndOutcomePathsFree (effect_of_arguments r) (output_name_of_arguments r) (IsOutcome r (files_of v)) (files_of v) → P)) (sym is) proper

pub found_by_command : (words : List (List ℕ)) (command : CommandLine) (judged : Judged) → command_of words ≡ Ok command → IfOk judged (ReportsOneOfOutcomes (IsPossibleOutcome (Ok command))) → IfOk judged (ReportsOneOfOutcomes (IsPossibleOutcome (command_of words)))
found_by_command words command judged is found = subst (λ (r : Result CommandLine ℕ). IfOk judged (ReportsOneOfOutcomes (IsPossibleOutcome r))) (sym is) found

pub arguments_by_command : {Tree : Type 0} (words : List (List ℕ)) (command : CommandLine) (old now : Tree) (judged : Judged) → command_of words ≡ Ok command
    → (IsTrue (ignores_files (effect_of command.applet)) → IsRunByArguments (IsOutcome (Ok command)) old now judged)
    → IsTrue (depends_only_on_arguments (command_of words)) → IsRunByArguments (IsOutcome (command_of words)) old now judged
arguments_by_command words command old now judged is ran =
    subst (λ (r : Result CommandLine ℕ). IsTrue (depends_only_on_arguments r) → IsRunByArguments (IsOutcome r) old now judged) (sym is) ran

pub same_by_command : (words : List (List ℕ)) (command : CommandLine) (P : Type 0) → command_of words ≡ Ok command → (IsTrue (does_neither_recover_nor_write (effect_of command.applet)) → P) → IsTrue (do_arguments_neither_recover_nor_write (command_of words)) → P
same_by_command words command P is same = subst (λ (r : Result CommandLine ℕ). IsTrue (do_arguments_neither_recover_nor_write r) → P) (sym is) same

usage_recovers_not : (read : Result CommandLine ℕ) (q : ℕ) → read ≡ Err q → does_recover (effect_of_arguments read) ≡ true → ⊥
usage_recovers_not (Err place) q is recovers = cc
usage_recovers_not (Ok command) q is recovers = cc

pub usage_run : (words : List (List ℕ)) (q : ℕ) (fault : WordsFault) (judged : Judged) (old : History) → fault ≡ WrongWord q → IsWordsFault fault (command_of words) → Runs words judged old old
usage_run words q fault judged [] is of = tt
usage_run words q fault judged (v ∷ rest) is of =
    let read : command_of words ≡ Err q = subst (λ (f : WordsFault). IsWordsFault f (command_of words)) is of in
    whole_idle (IsOutcome (command_of words) (files_of v)) (effect_of_arguments (command_of words)) (output words) judged v rest (v ∷ rest) refl
    (λ o one. let is_refused : o ≡ just_refusal (files_of v) (Usage q) = subst (λ (r : Result CommandLine ℕ). IsOutcome r (files_of v) o) read one in
    ok_always (LeavesAll (effect_of_arguments (command_of words)) v o) judged (subst (Leaves (files_of v)) (sym is_refused) (refl, refl), λ can. usage_recovers_not (command_of words) q read can.0))

pub failed_run : (words : List (List ℕ)) (e : TreeFault) (old : History) → Runs words (Err e) old old
failed_run words e [] = tt
failed_run words e (v ∷ rest) = whole_idle (IsOutcome (command_of words) (files_of v)) (effect_of_arguments (command_of words)) (output words) (Err e) v rest (v ∷ rest) refl (λ o one. tt)

-- ---- the answer

pub reads_by : (words : List (List ℕ)) (judged : Judged) (old now : History) → Runs words judged old now
    → IfObservable old (λ v. AreStatesAsRecoveredOrOfCommittingRun (IsOutcome (command_of words) (files_of v)) (effect_of_arguments (command_of words)) (output words) v old now)
reads_by words judged [] now run = tt
reads_by words judged (v ∷ rest) now run = run.reads

pub last_by : (words : List (List ℕ)) (judged : Judged) (old now : History) → Runs words judged old now
    → IfObservable old (λ v. IsSome (v.names intent_name) → Since (NamesAreDurableExceptOutputIfNoIntent (output words)) old now)
last_by words judged [] now run = tt
last_by words judged (v ∷ rest) now run = run.last

pub crash_by : (words : List (List ℕ)) (judged : Judged) (old now : History) → Runs words judged old now
    → IfObservable old (λ v. (ignored : List ℕ → Bool) → IsDurable (StateDependsOn ignored) v → IgnoresOutputScratchNameButNotIntent (output words) ignored → AreStatesOldOrLeadToOutcome (IsOutcome (command_of words) (files_of v)) (is_some (output words)) ignored v old now)
crash_by words judged [] now run = tt
crash_by words judged (v ∷ rest) now run = run.moments

pub durable_by : (words : List (List ℕ)) (judged : Judged) (old now : History) → Runs words judged old now
    → IfObservable old (λ v. (ignored : List ℕ → Bool) → IsDurable (StateDependsOn ignored) v → IgnoresOutputScratchNameButNotIntent (output words) ignored → HoldsNow now (IsDurable (StateDependsOn ignored)))
durable_by words judged [] now run = tt
durable_by words judged (v ∷ rest) now run = run.is_durable

-- ---- the outcome is carried out

pub no_refusal : (refusal : Option Refusal) → Done ≡ answer_for_refusal refusal → refusal ≡ None
no_refusal None same = refl
no_refusal (Some r) same = cc

the_refusal : (refusal : Option Refusal) (r : Refusal) → Refused r ≡ answer_for_refusal refusal → refusal ≡ Some r
the_refusal None r same = cc
the_refusal (Some x) r same = cc

lasting_shown : (IsOne : Outcome → Type 0) (effect : Effect) (ignored : List ℕ → Bool) (v : TreeState) (now : History) (verdict : Verdict) (o : Outcome) (answer : Answer) (out err : SinkBeforeAndAfter) → IsOne o → Reports verdict o
    → LeavesDurableFilesIfRequired effect ignored v now o → IsPrinted (as_outcome o.files verdict) answer out err → LeavesDurableFilesIfRequiredOnceAnswered IsOne effect ignored v now answer
lasting_shown IsOne effect ignored v now verdict o Done out err one reports lasts printed =
    (o, one, sym (ap (λ (x : Outcome). x.refusal) reports) ∙ no_refusal verdict.refusal printed.same, lasts)
lasting_shown IsOne effect ignored v now verdict o (Refused r) out err one reports lasts printed =
    (o, one, sym (ap (λ (x : Outcome). x.refusal) reports) ∙ the_refusal verdict.refusal r printed.same, lasts)
lasting_shown IsOne effect ignored v now verdict o OutFault out err one reports lasts printed = (o, one, lasts)
lasting_shown IsOne effect ignored v now verdict o TreeFailed out err one reports lasts printed = tt
lasting_shown IsOne effect ignored v now verdict o Memory out err one reports lasts printed = tt

lasting_judged : (IsOne : Outcome → Type 0) (effect : Effect) (ignored : List ℕ → Bool) (v : TreeState) (now : History) (judged : Judged) (answer : Answer) (out err : SinkBeforeAndAfter) → IfOk judged (ReportsOneOfOutcomes IsOne) → IsVerdictPrinted judged answer out err
    → ((o : Outcome) → IsOne o → CommitsRecoversIntentOrCrashesLeaveAsRead effect ignored v o → OnOk judged (HoldsNow now (EachCrashLeavesStateOf ignored o.files))) → LeavesDurableFilesIfRequiredOnceAnswered IsOne effect ignored v now answer
lasting_judged IsOne effect ignored v now (Ok verdict) answer out err (o, one, reports) is_shown settled = lasting_shown IsOne effect ignored v now verdict o answer out err one reports (settled o one) (is_shown o.files)
lasting_judged IsOne effect ignored v now (Err Disk) answer out err found is_shown settled = subst (LeavesDurableFilesIfRequiredOnceAnswered IsOne effect ignored v now) (sym is_shown.0) tt
lasting_judged IsOne effect ignored v now (Err NoMemory) answer out err found is_shown settled = subst (LeavesDurableFilesIfRequiredOnceAnswered IsOne effect ignored v now) (sym is_shown.0) tt

pub settled_by : (words : List (List ℕ)) (judged : Judged) (answer : Answer) (out err : SinkBeforeAndAfter) (old now : History) → IsVerdictPrinted judged answer out err → IfOk judged (λ verdict. IfObservable old (λ v. ReportsOneOfOutcomes (IsOutcome (command_of words) (files_of v)) verdict)) → Runs words judged old now
    → IfObservable old (λ v. (ignored : List ℕ → Bool) → IsDurable (StateDependsOn ignored) v → IgnoresOutputScratchNameButNotIntent (output words) ignored → LeavesDurableFilesIfRequiredOnceAnswered (IsOutcome (command_of words) (files_of v)) (effect_of_arguments (command_of words)) ignored v now answer)
settled_by words judged answer out err [] now is_shown found run = tt
settled_by words judged answer out err (v ∷ rest) now is_shown found run = λ ignored is_durable hides.
    lasting_judged (IsOutcome (command_of words) (files_of v)) (effect_of_arguments (command_of words)) ignored v now judged answer out err (found_at v rest judged (λ verdict w. ReportsOneOfOutcomes (IsOutcome (command_of words) (files_of w)) verdict) found) is_shown
    (λ o one lasts. run.settled ignored o is_durable hides one lasts)

-- ---- nothing is committed

refused_answer : (refusal : Option Refusal) (r : Refusal) → Refused r ≡ answer_for_refusal refusal → IsSome refusal
refused_answer None r same = cc
refused_answer (Some x) r same = refl

-- a refusal commits nothing
abbrev pub RefusesAll : Type 0
RefusesAll = (words : List (List ℕ)) (files : Files) (o : Outcome) → IsOutcome (command_of words) files o → IsSome o.refusal → o.commits ≡ false

undone_without : RefusesAll → (words : List (List ℕ)) (v : TreeState) (judged : Judged) (answer : Answer) (out err : SinkBeforeAndAfter) → IsVerdictPrinted judged answer out err → IfOk judged (ReportsOneOfOutcomes (IsOutcome (command_of words) (files_of v))) → IsRefusedOrOutOfMemory answer → IsOutOfMemoryOrWithoutCommit (IsOutcome (command_of words) (files_of v)) judged
undone_without law words v (Ok verdict) Done out err is_shown found undone = absurd undone
undone_without law words v (Ok verdict) (Refused r) out err is_shown (o, one, reports) undone =
    inr (o, one, law words (files_of v) o one (subst (λ (x : Option Refusal). IsSome x) (ap (λ (x : Outcome). x.refusal) reports) (refused_answer verdict.refusal r (is_shown no_names).same)))
undone_without law words v (Ok verdict) TreeFailed out err is_shown found undone = absurd undone
undone_without law words v (Ok verdict) OutFault out err is_shown found undone = absurd undone
undone_without law words v (Ok verdict) Memory out err is_shown found undone = absurd (is_shown no_names)
undone_without law words v (Err Disk) answer out err is_shown found undone = absurd (subst IsRefusedOrOutOfMemory is_shown.0 undone)
undone_without law words v (Err NoMemory) answer out err is_shown found undone = inl refl

without : RefusesAll → (words : List (List ℕ)) (v : TreeState) (judged : Judged) (answer : Answer) (out err : SinkBeforeAndAfter) → IsVerdictPrinted judged answer out err → IfOk judged (ReportsOneOfOutcomes (IsOutcome (command_of words) (files_of v))) → IsRefusedOutOfMemoryOrCommitsNothing (IsOutcome (command_of words) (files_of v)) answer → IsOutOfMemoryOrWithoutCommit (IsOutcome (command_of words) (files_of v)) judged
without law words v judged answer out err is_shown found (inl undone) = undone_without law words v judged answer out err is_shown found undone
without law words v judged answer out err is_shown found (inr one) = inr one

abbrev pub FindsOne : List (List ℕ) → Judged → History → Type 0
FindsOne words judged old = IfOk judged (λ verdict. IfObservable old (λ v. ReportsOneOfOutcomes (IsOutcome (command_of words) (files_of v)) verdict))

found_first : (words : List (List ℕ)) (judged : Judged) (v : TreeState) (rest : History) → FindsOne words judged (v ∷ rest) → IfOk judged (ReportsOneOfOutcomes (IsOutcome (command_of words) (files_of v)))
found_first words judged v rest found = found_at v rest judged (λ verdict w. ReportsOneOfOutcomes (IsOutcome (command_of words) (files_of w)) verdict) found

pub idle_by : RefusesAll → (words : List (List ℕ)) (judged : Judged) (answer : Answer) (out err : SinkBeforeAndAfter) (old now : History) → IsVerdictPrinted judged answer out err → FindsOne words judged old → Runs words judged old now
    → IfObservable old (λ v. IsRefusedOutOfMemoryOrCommitsNothing (IsOutcome (command_of words) (files_of v)) answer → HasNothingToRecover (effect_of_arguments (command_of words)) v → now ≡ old)
idle_by law words judged answer out err [] now is_shown found run = tt
idle_by law words judged answer out err (v ∷ rest) now is_shown found run = λ nothing. run.idle (without law words v judged answer out err is_shown (found_first words judged v rest found) nothing)

pub left_by : RefusesAll → (words : List (List ℕ)) (judged : Judged) (answer : Answer) (out err : SinkBeforeAndAfter) (old now : History) → IsVerdictPrinted judged answer out err → FindsOne words judged old → Runs words judged old now
    → IfObservable old (λ v. IsRefusedOutOfMemoryOrCommitsNothing (IsOutcome (command_of words) (files_of v)) answer → (ignored : List ℕ → Bool) → IsDurable (StateDependsOn ignored) v → Since (StateIsUnchanged ignored v) old now)
left_by law words judged answer out err [] now is_shown found run = tt
left_by law words judged answer out err (v ∷ rest) now is_shown found run = λ nothing. run.left (without law words v judged answer out err is_shown (found_first words judged v rest found) nothing)

pub bad_by : (words : List (List ℕ)) (judged : Judged) (old now : History) → Runs words judged old now
    → IfObservable old (λ v. IsSome (recovery_fault (effect_of_arguments (command_of words)) (files_of v)) → now ≡ old)
bad_by words judged [] now run = tt
bad_by words judged (v ∷ rest) now run = run.bad

-- ---- the output counts again

rest_of : (IsOne : Outcome → Type 0) (output : Option (List ℕ)) (ignored : List ℕ → Bool) (now : History) (judged : Judged) (answer : Answer) (out err : SinkBeforeAndAfter) → IfOk judged (ReportsOneOfOutcomes IsOne) → IsVerdictPrinted judged answer out err → IsOkRefusedOrOutputFault answer
    → ((o : Outcome) → IsOne o → o.commits ≡ true → OnOk judged (HoldsNow now (IsDurableAndLeavesFiles (ignored_except_output_and_scratch output ignored) o.files))) → LeavesDurableStateAndOutputIfCommitted IsOne output ignored now
rest_of IsOne output ignored now (Ok verdict) answer out err (o, one, reports) is_shown answers rests = (o, one, λ commits. rests o one commits)
rest_of IsOne output ignored now (Err Disk) answer out err found is_shown answers rests = absurd (subst IsOkRefusedOrOutputFault is_shown.0 answers)
rest_of IsOne output ignored now (Err NoMemory) answer out err found is_shown answers rests = absurd (subst IsOkRefusedOrOutputFault is_shown.0 answers)

pub rest_by : (words : List (List ℕ)) (judged : Judged) (answer : Answer) (out err : SinkBeforeAndAfter) (old now : History) → IsVerdictPrinted judged answer out err → FindsOne words judged old → Runs words judged old now
    → IfObservable old (λ v. (ignored : List ℕ → Bool) → IsDurable (StateDependsOn ignored) v → IgnoresOutputScratchNameButNotIntent (output words) ignored → IsOkRefusedOrOutputFault answer → LeavesDurableStateAndOutputIfCommitted (IsOutcome (command_of words) (files_of v)) (output words) ignored now)
rest_by words judged answer out err [] now is_shown found run = tt
rest_by words judged answer out err (v ∷ rest) now is_shown found run = λ ignored is_durable hides answers.
    rest_of (IsOutcome (command_of words) (files_of v)) (output words) ignored now judged answer out err (found_first words judged v rest found) is_shown answers (λ o one commits. run.durable_state ignored o is_durable hides one commits)

pub usage_reported : (words : List (List ℕ)) (old : History) (verdict : Verdict) → ((v : TreeState) → IsOutcome (command_of words) (files_of v) (as_outcome (files_of v) verdict)) → IfObservable old (λ v. ReportsOneOfOutcomes (IsOutcome (command_of words) (files_of v)) verdict)
usage_reported words [] verdict is = tt
usage_reported words (v ∷ rest) verdict is = (as_outcome (files_of v) verdict, is v, refl)

-- whether an applet only reads, by what it does below its root
by_access : (command : CommandLine) (applet : Applet) (access this : RootAccess) → applet ≡ command.applet → access ≡ root_access_if_read_only (does_neither_recover_nor_write (effect_of applet)) → access ≡ this → this ≡ root_access_if_read_only (does_neither_recover_nor_write (effect_of command.applet))
by_access command applet access this same of is = sym is ∙ (of ∙ ap (λ (a : Applet). root_access_if_read_only (does_neither_recover_nor_write (effect_of a))) same)

read_is : (b : Bool) → Read ≡ root_access_if_read_only b → b ≡ true
read_is true is = refl
read_is false is = absurd (cc (is))

write_is : (b : Bool) → Write ≡ root_access_if_read_only b → b ≡ false
write_is true is = absurd (cc (is))
write_is false is = refl

pub reads_by_access : (command : CommandLine) (applet : Applet) (access : RootAccess) → applet ≡ command.applet → access ≡ root_access_if_read_only (does_neither_recover_nor_write (effect_of applet)) → access ≡ Read → does_neither_recover_nor_write (effect_of command.applet) ≡ true
reads_by_access command applet access same of is = read_is (does_neither_recover_nor_write (effect_of command.applet)) (by_access command applet access Read same of is)

pub writes_by_access : (command : CommandLine) (applet : Applet) (access : RootAccess) → applet ≡ command.applet → access ≡ root_access_if_read_only (does_neither_recover_nor_write (effect_of applet)) → access ≡ Write → does_neither_recover_nor_write (effect_of command.applet) ≡ false
writes_by_access command applet access same of is = write_is (does_neither_recover_nor_write (effect_of command.applet)) (by_access command applet access Write same of is)

-- what does not only read recovers, and does not rest on the words alone
pub recovers_else : (effect : Effect) → does_neither_recover_nor_write effect ≡ false → does_recover effect ≡ true
recovers_else Computes writes = absurd (cc (writes))
recovers_else OnlyReadsFiles writes = absurd (cc (writes))
recovers_else AsksRoot writes = refl
recovers_else Makes writes = refl
recovers_else Changes writes = refl

pub not_on_words : (effect : Effect) → does_neither_recover_nor_write effect ≡ false → IsTrue (ignores_files effect) → ⊥
not_on_words Computes writes rests = cc (writes)
not_on_words OnlyReadsFiles writes rests = cc (rests)
not_on_words AsksRoot writes rests = cc (rests)
not_on_words Makes writes rests = cc (rests)
not_on_words Changes writes rests = cc (rests)

-- ---- an outcome that rests on no read

-- what is judged is the outcome, whatever is read and whatever the files are
abbrev pub Ran : CommandLine → Verdict → Type 0
Ran command verdict = (read : Reads) (files : Files) → as_outcome files verdict ≡ read_only_outcome command read files

pub ran_found : (old : History) (command : CommandLine) (verdict : Verdict) → Ran command verdict → IfObservable old (λ v. as_outcome (files_of v) verdict ≡ read_only_outcome command (reads_in (files_of v)) (files_of v))
ran_found [] command verdict ran = tt
ran_found (v ∷ old) command verdict ran = ran (reads_in (files_of v)) (files_of v)

pub ran_read : (command : CommandLine) (verdict : Verdict) → Ran command verdict → (read : Reads) × (as_outcome no_names verdict ≡ read_only_outcome command read no_names)
ran_read command verdict ran = (λ k name. None, ran (λ k name. None) no_names)

pub ran_by_words : (command : CommandLine) (verdict : Verdict) → Ran command verdict → (files : Files) → as_outcome files verdict ≡ read_only_outcome command (reads_in files) files
ran_by_words command verdict ran files = ran (reads_in files) files

-- by the applet as it is read of the command
ran_as : (command : CommandLine) (applet : Applet) (asked : Applet) (verdict : Verdict) → applet ≡ command.applet → applet ≡ asked
    → ((read : Reads) (files : Files) → as_outcome files verdict ≡ effect_outcome (effect_of asked) asked command no_listing_choice_or_clash read files) → Ran command verdict
ran_as command applet asked verdict same is ran read files = ran read files ∙ ap (λ (a : Applet). effect_outcome (effect_of a) a command no_listing_choice_or_clash read files) (sym is ∙ same)

pub help_ran : (command : CommandLine) (applet : Applet) (operands : List Operand) (text : List ℕ) (verdict : Verdict) → applet ≡ command.applet → applet ≡ Help → operands ≡ command.operands → text ≡ help_text operands
    → ((files : Files) → as_outcome files verdict ≡ just_report files text) → Ran command verdict
help_ran command applet operands text verdict same is of told reported =
    ran_as command applet Help verdict same is (λ read files. reported files ∙ ap (just_report files) (told ∙ ap help_text of))

pub version_ran : (command : CommandLine) (applet : Applet) (text : List ℕ) (verdict : Verdict) → applet ≡ command.applet → applet ≡ ProgramVersion → text ≡ version_line
    → ((files : Files) → as_outcome files verdict ≡ just_report files text) → Ran command verdict
version_ran command applet text verdict same is told reported = ran_as command applet ProgramVersion verdict same is (λ read files. reported files ∙ ap (just_report files) told)

-- ---- `demo` by itself

-- an applet that is none of those that are looked at
abbrev pub IsNoneOfThese : Applet → Type 0
IsNoneOfThese applet =
    (applet ≡ Verify → ⊥) × (applet ≡ Version → ⊥) × (applet ≡ Help → ⊥) × (applet ≡ ProgramVersion → ⊥) × (applet ≡ Adbdump → ⊥) × (applet ≡ Adbgen → ⊥)

computes_nothing : (applet : Applet) (command : CommandLine) (files : Files) → IsNoneOfThese applet → outcome_from_arguments_alone applet command files ≡ just_report files []
computes_nothing Version command files (verify, version, help, program, dump, generate) = absurd (version refl)
computes_nothing Help command files (verify, version, help, program, dump, generate) = absurd (help refl)
computes_nothing ProgramVersion command files (verify, version, help, program, dump, generate) = absurd (program refl)
computes_nothing other command files none = refl

reads_nothing : (applet : Applet) (command : CommandLine) (read : Reads) (files : Files) → IsNoneOfThese applet → outcome_of_only_reading_files applet command read files ≡ just_report files []
reads_nothing Verify command read files (verify, version, help, program, dump, generate) = absurd (verify refl)
reads_nothing Adbdump command read files (verify, version, help, program, dump, generate) = absurd (dump refl)
reads_nothing Adbgen command read files (verify, version, help, program, dump, generate) = absurd (generate refl)
reads_nothing other command read files none = refl

nothing_of : (effect : Effect) (applet : Applet) (command : CommandLine) → IsNoneOfThese applet → does_neither_recover_nor_write effect ≡ true → (read : Reads) (files : Files) → effect_outcome effect applet command no_listing_choice_or_clash read files ≡ just_report files []
nothing_of Computes applet command none reads read files = computes_nothing applet command files none
nothing_of OnlyReadsFiles applet command none reads read files = reads_nothing applet command read files none
nothing_of AsksRoot applet command none reads read files = absurd (false≢true reads)
nothing_of Makes applet command none reads read files = absurd (false≢true reads)
nothing_of Changes applet command none reads read files = absurd (false≢true reads)

pub nothing_ran : (command : CommandLine) (applet : Applet) (verdict : Verdict) → applet ≡ command.applet → IsNoneOfThese applet → does_neither_recover_nor_write (effect_of command.applet) ≡ true
    → ((files : Files) → as_outcome files verdict ≡ just_report files []) → Ran command verdict
nothing_ran command applet verdict same none reads empty read files =
    empty files ∙ sym (nothing_of (effect_of command.applet) command.applet command (subst IsNoneOfThese same none) reads read files)

-- ---- what is said of every run

-- want of memory is no fault of the tree
pub look_memory : (judged : Judged) (old new : History) (a b : Counts) → OnlyReads Disk old new a b judged → IsErrOf judged NoMemory → CountsNoNewFaultOrLackOfMemory a b
look_memory (Ok verdict) old new a b tree none = cc
look_memory (Err Disk) old new a b tree none = cc
look_memory (Err NoMemory) old new a b tree none = tree.others (λ is. cc)
