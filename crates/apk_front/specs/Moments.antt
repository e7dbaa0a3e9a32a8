-- The effect of a run of `apk` on the tree, moment by moment. `old` is the history of the tree before the run, `now`
-- the history after it, and `v` the state in which the run begins. The rules are in `docs/crash-safety.md`, "Recovery":
-- the table of what a run of `apk` may leave, and the text after it.
use Rattle.std.specs.Prelude.{◌≡◌, ◌⊎◌, ◌||◌, ℕ, Bool, true, false, if◌then◌else◌, List, [], ◌∷◌, Option, Some, None, IsSome}
use Rattle.std.specs.Str.{bytes_eq}
use Rattle.base_core.specs.Calls.{HoldsNow, IfObservable}
use Rattle.base_core.specs.Crash.{Since}
use Rattle.base_core.specs.Undone.{IsDurable}
use Rattle.base_core.specs.Files.{Files}
use Rattle.base_core.specs.Restart.{SinceGivenEarlierAddedMoments}
use Rattle.base_core.specs.Tree.{TreeState, files_of}
use Rattle.journal_core.specs.Kept.{ReadsOldOrNewBytesOutsideJournal, JournalOnlyShrinks, NamesOutsideJournalAreDurableExcept}
use Rattle.journal_core.specs.Quiet.{StateIsUnchanged}
use Rattle.journal_core.specs.Recovery.{EachCrashLeavesStateOf, StateDependsOn, intent_name, intent_of, is_staged}
use Rattle.journal_core.specs.Replacing.{CanAddOutputNames, IgnoresScratchNameButNotIntent, IsMomentOfReplacing, scratch_name_of}
use Rattle.journal_core.specs.Staged.{AreJournalPathsFreeAfterReplayIfAny, HasEmptyStageAndFreeJournalPaths, HasNoStagedNames, IsOldUntilCommit, unstaged_files}
use Rattle.outcome.specs.Effect.{Effect, Computes, OnlyReadsFiles, AsksRoot, Makes, Changes, does_recover, effect_of_arguments, output}
use Rattle.outcome.specs.Outcome.{Outcome}
use Rattle.outcome.specs.Words.{IsOutcome}
use Rattle.outcome.specs.Work.{files_recovered_if_needed}
use Rattle.engine_core.specs.journal_commit.Asked.{RecoveryChangesOnlyAcceptedNames}
use Rattle.words_core.specs.Grammar.{command_of}
use Rattle.apk_front.specs.declared.answer.Answer.{Answer}
use Rattle.apk_front.specs.declared.answer.Answer.TheVariants.{Ok, Refused, OutFault, Memory}

-- ---- the output

-- the names that a run of a command with an output may write: the output's own and its scratch name
abbrev pub output_names : Option (List ℕ) → List (List ℕ)
output_names None = []
output_names (Some name) = name ∷ scratch_name_of name ∷ []

-- the ignored names contain the scratch name of an output, and not the name of the intent
abbrev pub IgnoresOutputScratchNameButNotIntent : Option (List ℕ) → (List ℕ → Bool) → Type 0
IgnoresOutputScratchNameButNotIntent None ignored = Unit {0}
IgnoresOutputScratchNameButNotIntent (Some name) ignored = IgnoresScratchNameButNotIntent ignored name

-- whether a name is ignored, if the output and its scratch name are no longer ignored
abbrev pub ignored_except_output_and_scratch : Option (List ℕ) → (List ℕ → Bool) → List ℕ → Bool
ignored_except_output_and_scratch None ignored q = ignored q
ignored_except_output_and_scratch (Some name) ignored q =
    if bytes_eq q name || bytes_eq q (scratch_name_of name) then false else ignored q

-- ---- free paths

-- the paths of an output and its scratch name are free in the files
abbrev pub CanAddOutputNamesIfAny : Option (List ℕ) → Files → Type 0
CanAddOutputNamesIfAny None files = Unit {0}
CanAddOutputNamesIfAny (Some name) files = CanAddOutputNames name files

-- the paths that a command writes are free in the files
abbrev pub ArePathsToWriteFree : Effect → Option (List ℕ) → Files → Type 0
ArePathsToWriteFree Computes output files = Unit {0}
ArePathsToWriteFree OnlyReadsFiles output files = Unit {0}
ArePathsToWriteFree AsksRoot output files = Unit {0}
ArePathsToWriteFree Makes output files = CanAddOutputNamesIfAny output files
ArePathsToWriteFree Changes output files = HasEmptyStageAndFreeJournalPaths files

-- The paths that a run with these outcomes writes are free: those of recovery in the files, and those
-- that the command writes in the recovered files, if its outcome commits.
abbrev pub AreRecoveryAndOutcomePathsFree : Effect → Option (List ℕ) → (Outcome → Type 0) → Files → Type 0
AreRecoveryAndOutcomePathsFree effect output IsOne files =
    (does_recover effect ≡ true → AreJournalPathsFreeAfterReplayIfAny files)
    × ((outcome : Outcome) → IsOne outcome → outcome.commits ≡ true
    → ArePathsToWriteFree effect output (files_recovered_if_needed effect files))

-- the paths that a run of this command line writes are free
abbrev pub AreRunPathsOfCommandLineFree : List (List ℕ) → Files → Type 0
AreRunPathsOfCommandLineFree words files =
    AreRecoveryAndOutcomePathsFree (effect_of_arguments (command_of words)) (output words)
    (IsOutcome (command_of words)
    files)
    files

-- ---- what is read while the command works

-- whether a name is temporary: a command writes a file under it, and then moves the file to its final
-- name. It is the scratch name of an output, or any name below the staging area.
abbrev pub is_temporary_name : Effect → Option (List ℕ) → List ℕ → Bool
is_temporary_name Makes (Some name) q = bytes_eq q (scratch_name_of name)
is_temporary_name Makes None q = false
is_temporary_name Changes output q = is_staged q
is_temporary_name Computes output q = false
is_temporary_name OnlyReadsFiles output q = false
is_temporary_name AsksRoot output q = false

-- the files as read are these, except under temporary names
abbrev pub HasFilesExceptTemporaryOnes : Effect → Option (List ℕ) → Files → TreeState → Type 0
HasFilesExceptTemporaryOnes effect output files w =
    (q : List ℕ) → is_temporary_name effect output q ≡ false → files_of w q ≡ files q

-- a change has committed its journal entry (intent), and recovery yields the new files; each name
-- outside the staging area has its old bytes or its new ones
pub record IsCommittedChange (effect : Effect) (new old : Files) (w : TreeState) : Type 0 where
  -- the command changes what is installed
  pub changes : effect ≡ Changes
  -- the intent is under its final name
  pub intent : IsSome (w.names intent_name)
  -- recovery of the files in w yields the new files
  pub leads : unstaged_files (files_of w) ≡ new
  -- each name outside the staging area has its old bytes or its new ones
  pub bytes : ReadsOldOrNewBytesOutsideJournal old new w

-- the files as read are the old ones, except under temporary names; or a change to the new files is
-- committed and in progress; or the files as read are the new ones
abbrev pub IsStateDuringRunToNewFilesFromOld : Effect → Option (List ℕ) → Files → Files → TreeState → Type 0
IsStateDuringRunToNewFilesFromOld effect output new old w =
    HasFilesExceptTemporaryOnes effect output old w
    ⊎ (IsCommittedChange effect new old w ⊎ (files_of w ≡ new))

-- ---- recovery

-- a run has nothing to recover: its command does not recover, or there is neither an intent nor a
-- staged file
abbrev pub HasNothingToRecover : Effect → TreeState → Type 0
HasNothingToRecover effect v =
    (does_recover effect ≡ false) ⊎ ((v.names intent_name ≡ None) × HasNoStagedNames v.names)

-- a run can recover: its command does, and the file under the intent's name is an intent
abbrev pub RecoversAndFindsValidIntent : Effect → TreeState → Type 0
RecoversAndFindsValidIntent effect v = (does_recover effect ≡ true) × IsSome (intent_of (files_of v))

-- w is a state during a recovery that began in state v
pub record IsStateDuringRecovery (v w : TreeState) : Type 0 where
  -- recovery of the files in w yields the same files as recovery of the files in v
  pub reads : unstaged_files (files_of w) ≡ unstaged_files (files_of v)
  -- each name outside the staging area has its bytes in v or its recovered bytes
  pub bytes : ReadsOldOrNewBytesOutsideJournal (files_of v) (unstaged_files (files_of v)) w
  -- the intent and each staged file is unchanged or removed
  pub waiting : JournalOnlyShrinks v w

-- in state `w` of a run the tree is being recovered from state `v`, if the command recovers; or `IsNext`,
-- which is required after recovery, holds of `w`
abbrev pub IsStateDuringRecoveryOrNext : Effect → (TreeState → Type 0) → TreeState → TreeState → Type 0
IsStateDuringRecoveryOrNext effect IsNext v w =
    ((does_recover effect ≡ true) × IsStateDuringRecovery v w) ⊎ IsNext w

-- Except while the tree is recovered, the files as read are those on which the command works
-- (*files_recovered_if_needed*). Or the run has an outcome that commits, and its states are those of such a run
-- (*IsStateDuringRunToNewFilesFromOld*).
abbrev pub AreStatesAsRecoveredOrOfCommittingRun :
    (Outcome → Type 0) → Effect → Option (List ℕ) → TreeState → List TreeState → List TreeState
    → Type 0
AreStatesAsRecoveredOrOfCommittingRun IsOne effect output v old now =
    Since (IsStateDuringRecoveryOrNext effect
    (λ w. files_of w ≡ files_recovered_if_needed effect (files_of v)) v) old now
    ⊎ ((outcome : Outcome)
    × IsOne outcome
    × (outcome.commits ≡ true)
    × Since (IsStateDuringRecoveryOrNext effect
    (IsStateDuringRunToNewFilesFromOld effect output outcome.files
    (files_recovered_if_needed effect (files_of v))) v) old now)

-- if no intent is read, a crash undoes no change of a name, except for those of the output and of
-- staged files
abbrev pub NamesAreDurableExceptOutputIfNoIntent : Option (List ℕ) → TreeState → Type 0
NamesAreDurableExceptOutputIfNoIntent output w =
    w.names intent_name ≡ None → NamesOutsideJournalAreDurableExcept (output_names output) w

-- ---- what a crash leaves

-- The states of a run that leads to these files. In each the tree is durable, and a crash leaves a
-- state from before or that of the files. It leaves one from before as long as no intent is committed,
-- unless the run makes one file (`true`), for which it needs no intent.
abbrev pub MomentsOfMakingOrChangeLeadToFiles :
    Bool → (List ℕ → Bool) → Files → TreeState → List TreeState → List TreeState → Type 0
MomentsOfMakingOrChangeLeadToFiles true ignored files v old now =
    Since (IsMomentOfReplacing ignored files v) old now
MomentsOfMakingOrChangeLeadToFiles false ignored files v old now =
    SinceGivenEarlierAddedMoments (IsOldUntilCommit ignored files v) old now

-- At each moment of the run the state is unchanged; or the run has an outcome that commits, and its moments
-- lead to the files of this outcome. `makes` says whether the run makes one file.
abbrev pub AreStatesOldOrLeadToOutcome :
    (Outcome → Type 0) → Bool → (List ℕ → Bool) → TreeState → List TreeState → List TreeState
    → Type 0
AreStatesOldOrLeadToOutcome IsOne makes ignored v old now =
    Since (StateIsUnchanged ignored v) old now
    ⊎ ((outcome : Outcome)
    × IsOne outcome
    × (outcome.commits ≡ true)
    × MomentsOfMakingOrChangeLeadToFiles makes ignored outcome.files v old now)

-- an outcome's files must be durable after the run: the outcome commits, or each crash at the start would have
-- left the state of the files as read then
abbrev pub OutcomeCommitsOrCrashesLeaveFilesAsRead : (List ℕ → Bool) → TreeState → Outcome → Type 0
OutcomeCommitsOrCrashesLeaveFilesAsRead ignored v outcome =
    (outcome.commits ≡ true) ⊎ EachCrashLeavesStateOf ignored (files_of v) v

-- an outcome's files must be durable after the run: by *OutcomeCommitsOrCrashesLeaveFilesAsRead*, or because an
-- intent can be recovered
abbrev pub CommitsRecoversIntentOrCrashesLeaveAsRead : Effect → (List ℕ → Bool) → TreeState → Outcome
    → Type 0
CommitsRecoversIntentOrCrashesLeaveAsRead effect ignored v outcome =
    OutcomeCommitsOrCrashesLeaveFilesAsRead ignored v outcome
    ⊎ RecoversAndFindsValidIntent effect v

-- the tree is durable, and each crash leaves these files
pub record IsDurableAndLeavesFiles (ignored : List ℕ → Bool) (files : Files) (w : TreeState) : Type 0 where
  -- no crash changes the bytes of a file on which recovery depends
  pub is_durable : IsDurable (StateDependsOn ignored) w
  -- each crash leaves the state of these files
  pub settled : EachCrashLeavesStateOf ignored files w

-- ---- the answer

-- the answer is Ok or a fault of a sink: the run reached its outcome, but its bytes may not all be printed
abbrev pub IsOkOrOutputFault : Answer → Type 0
IsOkOrOutputFault Ok = Unit {0}
IsOkOrOutputFault OutFault = Unit {0}
IsOkOrOutputFault other = ⊥

-- the answer is a refusal or out of memory: the command was not carried out, and the tree did not fail
abbrev pub IsRefusedOrOutOfMemory : Answer → Type 0
IsRefusedOrOutOfMemory (Refused refusal) = Unit {0}
IsRefusedOrOutOfMemory Memory = Unit {0}
IsRefusedOrOutOfMemory other = ⊥

-- the run reached its outcome: the answer is Ok, a refusal, or a fault of a sink instead of one of them
abbrev pub IsOkRefusedOrOutputFault : Answer → Type 0
IsOkRefusedOrOutputFault Ok = Unit {0}
IsOkRefusedOrOutputFault (Refused refusal) = Unit {0}
IsOkRefusedOrOutputFault OutFault = Unit {0}
IsOkRefusedOrOutputFault other = ⊥

-- one of these outcomes commits nothing
abbrev pub HasOutcomeWithoutCommit : (Outcome → Type 0) → Type 0
HasOutcomeWithoutCommit IsOne = (outcome : Outcome) × IsOne outcome × (outcome.commits ≡ false)

-- the answer is a refusal or out of memory; or one of these outcomes commits nothing, whatever the answer
abbrev pub IsRefusedOutOfMemoryOrCommitsNothing : (Outcome → Type 0) → Answer → Type 0
IsRefusedOutOfMemoryOrCommitsNothing IsOne answer =
    IsRefusedOrOutOfMemory answer ⊎ HasOutcomeWithoutCommit IsOne

-- if an outcome's files must be durable, each crash after the run leaves them
abbrev pub LeavesDurableFilesIfRequired :
    Effect → (List ℕ → Bool) → TreeState → List TreeState → Outcome → Type 0
LeavesDurableFilesIfRequired effect ignored v now outcome =
    CommitsRecoversIntentOrCrashesLeaveAsRead effect ignored v outcome
    → HoldsNow now (EachCrashLeavesStateOf ignored outcome.files)

-- Once an outcome is answered, even a refusal, or a sink's fault instead, its files are durable if they
-- must be. After other answers nothing is said.
abbrev pub LeavesDurableFilesIfRequiredOnceAnswered :
    (Outcome → Type 0) → Effect → (List ℕ → Bool) → TreeState → List TreeState → Answer → Type 0
LeavesDurableFilesIfRequiredOnceAnswered IsOne effect ignored v now Ok =
    (outcome : Outcome)
    × IsOne outcome
    × (outcome.refusal ≡ None)
    × LeavesDurableFilesIfRequired effect ignored v now outcome
LeavesDurableFilesIfRequiredOnceAnswered IsOne effect ignored v now (Refused refusal) =
    (outcome : Outcome)
    × IsOne outcome
    × (outcome.refusal ≡ Some refusal)
    × LeavesDurableFilesIfRequired effect ignored v now outcome
LeavesDurableFilesIfRequiredOnceAnswered IsOne effect ignored v now OutFault =
    (outcome : Outcome) × IsOne outcome × LeavesDurableFilesIfRequired effect ignored v now outcome
LeavesDurableFilesIfRequiredOnceAnswered IsOne effect ignored v now other = Unit {0}

-- there is one of these outcomes, and if it commits the tree is durable with its files; the output and
-- its scratch name are no longer ignored
abbrev pub LeavesDurableStateAndOutputIfCommitted :
    (Outcome → Type 0) → Option (List ℕ) → (List ℕ → Bool) → List TreeState → Type 0
LeavesDurableStateAndOutputIfCommitted IsOne output ignored now =
    (outcome : Outcome)
    × IsOne outcome
    × (outcome.commits ≡ true
    → HoldsNow now (IsDurableAndLeavesFiles (ignored_except_output_and_scratch output ignored)
    outcome.files))

-- ---- what is promised

-- at each moment of a run the tree accepts each name to which a recovery gives other bytes than a
-- recovery of the files at the start: it was asked for the name before
abbrev pub EachRecoveryDiffersOnlyInAcceptedNames :
    (Option (List ℕ) → List ℕ → Type 0) → List TreeState → List TreeState → Type 0
EachRecoveryDiffersOnlyInAcceptedNames accepts old now = IfObservable old (λ v.
    Since (RecoveryChangesOnlyAcceptedNames accepts (unstaged_files (files_of v))) old now)
