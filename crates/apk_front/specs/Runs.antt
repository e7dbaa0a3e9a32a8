-- The effect of a run on a tree. `IsOne` says which outcomes the run has, and `judged` is its verdict or error. The run
-- begins in the state `v`; `old` and `now` are the histories before and after it. Serves the contracts of `judge`, of
-- `recover_and_run` and of each command that `recover_and_run` runs. The rules are in `docs/crash-safety.md`,
-- "Recovery".
use Rattle.std.specs.Prelude.{◌≡◌, ◌⊎◌, ℕ, Bool, true, false, is_some, IsSome, IsErrOf, List, Option, None, Result, OnOk}
use Rattle.base_core.specs.Calls.{HoldsNow, IfObservable}
use Rattle.base_core.specs.Crash.{Since}
use Rattle.base_core.specs.Undone.{IsDurable}
use Rattle.base_core.specs.Tree.{TreeState, files_of}
use Rattle.base_core.specs.declared.tree.TreeFault.{TreeFault}
use Rattle.base_core.specs.declared.tree.TreeFault.TheVariants.{Memory}
use Rattle.journal_core.specs.Kept.{NamesOutsideJournalAreDurable}
use Rattle.journal_core.specs.Quiet.{StateIsUnchanged}
use Rattle.journal_core.specs.Recovery.{StateDependsOn, EachCrashLeavesStateOf, intent_name}
use Rattle.journal_core.specs.Staged.{HasNoStagedNames}
use Rattle.outcome.specs.Effect.{Effect}
use Rattle.outcome.specs.Outcome.{Outcome}
use Rattle.outcome.specs.Work.{recovery_fault}
use Rattle.apk_front.specs.Moments.{AreStatesAsRecoveredOrOfCommittingRun, AreStatesOldOrLeadToOutcome, HasOutcomeWithoutCommit, HasNothingToRecover, IgnoresOutputScratchNameButNotIntent, IsDurableAndLeavesFiles, IsStateDuringRunToNewFilesFromOld, CommitsRecoversIntentOrCrashesLeaveAsRead, OutcomeCommitsOrCrashesLeaveFilesAsRead, NamesAreDurableExceptOutputIfNoIntent, ignored_except_output_and_scratch}
use Rattle.apk_front.specs.declared.answer.Verdict.{Verdict}

-- ---- after recovery

-- no intent is read, and there is no file below the staging area
abbrev pub HasNothingStaged : TreeState → Type 0
HasNothingStaged v = (v.names intent_name ≡ None) × HasNoStagedNames (files_of v)

-- P holds of the newest state, if the history is observable and there is neither an intent nor a staged
-- file
abbrev pub IfNothingStaged : List TreeState → (TreeState → Type 0) → Type 0
IfNothingStaged history P = IfObservable history (λ v. HasNothingStaged v → P v)

-- ---- a run

-- In each state of a run that recovers nothing, the files as read are those at its start. Or the run has an outcome
-- that commits, and its states are those of such a run (*IsStateDuringRunToNewFilesFromOld*).
abbrev pub AreFilesReadWithoutRecovery :
    (Outcome → Type 0) → Effect → Option (List ℕ) → TreeState → List TreeState → List TreeState
    → Type 0
AreFilesReadWithoutRecovery IsOne effect output v old now =
    Since (λ w. files_of w ≡ files_of v) old now
    ⊎ ((outcome : Outcome)
    × IsOne outcome
    × (outcome.commits ≡ true)
    × Since (IsStateDuringRunToNewFilesFromOld effect output outcome.files (files_of v)) old now)

-- The effect of a run on a tree in state v, after recovery, if its outcome is one of these.
pub record IsRunAfterRecovery (IsOne : Outcome → Type 0) (effect : Effect) (output : Option (List ℕ))
    (judged : Result Verdict TreeFault) (v : TreeState) (old now : List TreeState) : Type 0 where
  -- if the tree `v` is durable, each later moment is durable, and a crash at it leaves a state from before or that of
  -- the files of an outcome that commits
  pub moments : (ignored : List ℕ → Bool)
      → IsDurable (StateDependsOn ignored) v → IgnoresOutputScratchNameButNotIntent output ignored
      → AreStatesOldOrLeadToOutcome IsOne (is_some output) ignored v old now
  -- the tree is left durable
  pub is_durable : (ignored : List ℕ → Bool)
      → IsDurable (StateDependsOn ignored) v → IgnoresOutputScratchNameButNotIntent output ignored
      → HoldsNow now (IsDurable (StateDependsOn ignored))
  -- if there is a verdict, each crash leaves the files of the outcome, if they must be durable
  pub settled : (ignored : List ℕ → Bool) (outcome : Outcome)
      → IsDurable (StateDependsOn ignored) v → IgnoresOutputScratchNameButNotIntent output ignored
      → IsOne outcome → OutcomeCommitsOrCrashesLeaveFilesAsRead ignored v outcome
      → OnOk judged (HoldsNow now (EachCrashLeavesStateOf ignored outcome.files))
  -- if there is a verdict and the outcome commits, the tree is durable and each crash leaves the outcome's files; its
  -- output and the scratch name are no longer ignored
  pub durable_state : (ignored : List ℕ → Bool) (outcome : Outcome)
      → IsDurable (StateDependsOn ignored) v → IgnoresOutputScratchNameButNotIntent output ignored
      → IsOne outcome → outcome.commits ≡ true
      → OnOk judged (HoldsNow now
      (IsDurableAndLeavesFiles (ignored_except_output_and_scratch output ignored) outcome.files))
  -- in each state the files as read are those at the start, or the states are those of a run that commits
  pub reads : AreFilesReadWithoutRecovery IsOne effect output v old now
  -- if at the start no crash undoes a change of a name outside the journal: at each moment at which the intent is
  -- absent, a crash undoes no change of a name, except for those of the output and of staged files
  pub last : NamesOutsideJournalAreDurable v → Since (NamesAreDurableExceptOutputIfNoIntent output) old now
  -- if there is a verdict, the files as read are those of the outcome
  pub leaves : (outcome : Outcome) → IsOne outcome
      → OnOk judged (HoldsNow now (λ w. files_of w ≡ outcome.files))
  -- if the outcome commits nothing, the run writes nothing
  pub idle : (outcome : Outcome) → IsOne outcome → outcome.commits ≡ false → now ≡ old

-- the run reports that memory ran out, or one of these outcomes commits nothing, whatever was judged
abbrev pub IsOutOfMemoryOrWithoutCommit : (Outcome → Type 0) → Result Verdict TreeFault → Type 0
IsOutOfMemoryOrWithoutCommit IsOne judged = IsErrOf judged Memory ⊎ HasOutcomeWithoutCommit IsOne

-- The effect of a run that first recovers, if its command does. The fields are those of *IsRunAfterRecovery* for the
-- recovery and the run after it, and three more: `left`, `bad` and `idle` for a run out of memory.
pub record IsRunWithRecovery (IsOne : Outcome → Type 0) (effect : Effect) (output : Option (List ℕ))
    (judged : Result Verdict TreeFault) (v : TreeState) (old now : List TreeState) : Type 0 where
  -- at each moment the state is old, or the run leads to the files of an outcome that commits
  pub moments : (ignored : List ℕ → Bool)
      → IsDurable (StateDependsOn ignored) v → IgnoresOutputScratchNameButNotIntent output ignored
      → AreStatesOldOrLeadToOutcome IsOne (is_some output) ignored v old now
  -- a durable tree is durable after the run
  pub is_durable : (ignored : List ℕ → Bool)
      → IsDurable (StateDependsOn ignored) v → IgnoresOutputScratchNameButNotIntent output ignored
      → HoldsNow now (IsDurable (StateDependsOn ignored))
  -- if there is a verdict, each crash leaves the files of the outcome, if they must be durable
  pub settled : (ignored : List ℕ → Bool) (outcome : Outcome)
      → IsDurable (StateDependsOn ignored) v → IgnoresOutputScratchNameButNotIntent output ignored
      → IsOne outcome → CommitsRecoversIntentOrCrashesLeaveAsRead effect ignored v outcome
      → OnOk judged (HoldsNow now (EachCrashLeavesStateOf ignored outcome.files))
  -- after an outcome that commits, each crash leaves its files, also under the output's name
  pub durable_state : (ignored : List ℕ → Bool) (outcome : Outcome)
      → IsDurable (StateDependsOn ignored) v → IgnoresOutputScratchNameButNotIntent output ignored
      → IsOne outcome → outcome.commits ≡ true
      → OnOk judged (HoldsNow now
      (IsDurableAndLeavesFiles (ignored_except_output_and_scratch output ignored) outcome.files))
  -- a run that is out of memory or commits nothing leaves the state of a durable tree unchanged
  pub left : IsOutOfMemoryOrWithoutCommit IsOne judged → (ignored : List ℕ → Bool)
      → IsDurable (StateDependsOn ignored) v → Since (StateIsUnchanged ignored v) old now
  -- without anything to recover, a run that is out of memory or commits nothing leaves the tree unchanged
  pub idle : IsOutOfMemoryOrWithoutCommit IsOne judged → HasNothingToRecover effect v → now ≡ old
  -- if the intent is bad, nothing is written
  pub bad : IsSome (recovery_fault effect (files_of v)) → now ≡ old
  -- which files are read at each moment of the run
  pub reads : AreStatesAsRecoveredOrOfCommittingRun IsOne effect output v old now
  -- if the intent is present at the start: at each moment at which it is absent, a crash undoes no change of a name,
  -- except for those of the output and of staged files
  pub last : IsSome (v.names intent_name) → Since (NamesAreDurableExceptOutputIfNoIntent output) old now
  -- if there is a verdict, the files as read are those of the outcome
  pub leaves : (outcome : Outcome) → IsOne outcome
      → OnOk judged (HoldsNow now (λ w. files_of w ≡ outcome.files))
