-- What holds of a run after a list of runs, stops and crashes. The rules are in `docs/crash-safety.md`,
-- "Recovery": the table of what a run may leave, and its last part.
use Rattle.std.specs.Prelude.{◌≡◌, ◌⊎◌, ℕ, Bool, true, false, List}
use Rattle.apk_front.specs.Answers.{answer_of}
use Rattle.apk_front.specs.Moments.{IsOkRefusedOrOutputFault, IsDurableAndLeavesFiles, CommitsRecoversIntentOrCrashesLeaveAsRead, ignored_except_output_and_scratch}
use Rattle.apk_front.specs.declared.answer.Answer.TheVariants.{OutFault}
use Rattle.base_core.specs.Calls.{HoldsNow}
use Rattle.base_core.specs.Undone.{IsDurable, IsCrashImage}
use Rattle.base_core.specs.Files.{Files}
use Rattle.base_core.specs.Tree.{TreeState, files_of}
use Rattle.apk_front.specs.journal_core.Quiet.{EachCrashLeavesOld}
use Rattle.apk_front.specs.journal_core.Recovery.{EachCrashLeavesOldOrNew, EachCrashLeavesStateOf, StateDependsOn, intent_name, state_of}
use Rattle.apk_front.specs.outcome.Effect.{effect_of_arguments, output}
use Rattle.apk_front.specs.outcome.Outcome.{Outcome}
use Rattle.apk_front.specs.words_core.Grammar.{command_of}
use Rattle.run_lists.specs.Events.{RootEvent, Reaches, ReachesOneCrashState, IsRunWithoutCommit, IsMomentOf, IsOutcomeFrom, Run, ignored_after, ignored_during_run}

-- ---- from any states that a crash might have left before the run

-- at the moment m of a run that began in v, each crash leaves a state from before the run; or the run has an outcome
-- that commits, and each crash leaves a state from before the run or that of the outcome's files
abbrev pub LeavesOldOrOutcome : (List ℕ → Bool) → TreeState → Run → TreeState → Type 0
LeavesOldOrOutcome ignored v run m =
    EachCrashLeavesOld ignored v m
    ⊎ ((outcome : Outcome)
    × IsOutcomeFrom v run outcome
    × (outcome.commits ≡ true)
    × EachCrashLeavesOldOrNew ignored v outcome.files m)

-- At the moment m of a run that began in v, a crash leaves a state from before the run. The files as read
-- have the state of v.
pub record KeepsStateAsReadAndCrashesLeaveOld (ignored : List ℕ → Bool) (v m : TreeState) : Type 0 where
  -- each crash leaves an old state
  pub quiet : EachCrashLeavesOld ignored v m
  -- the files as read have the same state as in v
  pub reads : state_of ignored (files_of m) ≡ state_of ignored (files_of v)

-- the run's outcome was answered, or a fault of a sink in its place, and the files as read in w are those of the
-- outcome
pub record AnswersOutcomeAndLeavesItsFiles (ignored : List ℕ → Bool) (v : TreeState) (run : Run)
    (w : TreeState) : Type 0 where
  -- an outcome of the run
  pub outcome : Outcome
  -- this is an outcome of the run's command line over the files as read in v
  pub is_outcome : IsOutcomeFrom v run outcome
  -- the answer is that of the outcome, or a fault of a sink
  pub answered : (run.answer ≡ answer_of outcome) ⊎ (run.answer ≡ OutFault)
  -- the files as read are those of the outcome
  pub reads : files_of w ≡ outcome.files
  -- each crash leaves the state of these files in three cases: the outcome commits; each crash left the files as read
  -- before the run; or an intent was found and its change completed
  pub settled : CommitsRecoversIntentOrCrashesLeaveAsRead (effect_of_arguments (command_of run.words))
      (ignored_during_run run ignored) v outcome
      → EachCrashLeavesStateOf (ignored_during_run run ignored) outcome.files w
  -- if the outcome commits, each crash leaves its files, also under the output's name and its scratch name
  pub durable_state : outcome.commits ≡ true
      → IsDurableAndLeavesFiles
      (ignored_except_output_and_scratch (output run.words) ignored) outcome.files w

-- A run is safe: at each moment a crash leaves a state from before the run or that of the outcome. Once the outcome is
-- answered, the files as read are the outcome's, and durable. A run that commits nothing keeps the state.
pub record IsCrashSafeRun (ignored : List ℕ → Bool) (v : TreeState) (run : Run) : Type 0 where
  -- at each moment of the run a crash leaves an old state or that of an outcome
  pub moments : (m : TreeState) → IsMomentOf run m
      → LeavesOldOrOutcome (ignored_during_run run ignored) v run m
  -- after Ok, a refusal, or a fault of a sink, the files as read are those of the outcome
  pub answered : IsOkRefusedOrOutputFault run.answer
      → HoldsNow run.now (AnswersOutcomeAndLeavesItsFiles ignored v run)
  -- a run without a commit keeps the state at each moment
  pub left : IsRunWithoutCommit v run
      → (m : TreeState) → IsMomentOf run m → KeepsStateAsReadAndCrashesLeaveOld ignored v m

-- ---- from one state

-- the files `image`, which a crash leaves, have the state of the files as read in v, where the run began; or that of an
-- outcome of the run, which commits
abbrev pub HasStateAsReadOrOutcome : (List ℕ → Bool) → TreeState → Run → Files → Type 0
HasStateAsReadOrOutcome ignored v run image =
    (state_of ignored image ≡ state_of ignored (files_of v))
    ⊎ ((outcome : Outcome)
    × IsOutcomeFrom v run outcome
    × (outcome.commits ≡ true)
    × (state_of ignored image ≡ state_of ignored outcome.files))

-- The run is all or nothing: at each moment a crash leaves the state before the run, or that of the outcome. Once the
-- outcome is answered, a crash leaves the outcome's state. If the run commits nothing, a crash leaves the state before
-- it.
pub record IsAtomic (ignored : List ℕ → Bool) (v : TreeState) (run : Run) : Type 0 where
  -- at each moment of the run a crash leaves the old state or that of an outcome
  pub moments : (m : TreeState) → IsMomentOf run m → (image : Files) → IsCrashImage m image
      → HasStateAsReadOrOutcome (ignored_during_run run ignored) v run image
  -- after the answer of an outcome each crash leaves the files of the outcome
  pub answered : IsOkRefusedOrOutputFault run.answer → (outcome : Outcome) → IsOutcomeFrom v run outcome
      → HoldsNow run.now (EachCrashLeavesStateOf (ignored_during_run run ignored) outcome.files)
  -- at each moment of a run without a commit, each crash leaves the files as read at its start
  pub left : IsRunWithoutCommit v run
      → (m : TreeState) → IsMomentOf run m → EachCrashLeavesStateOf ignored (files_of v) m

-- ---- after every list

-- a run that begins in the state v is safe, after any list of events by which a root has reached v from a durable tree
abbrev pub IsCrashSafeAfterAnyEvents : TreeState → Run → Type 0
IsCrashSafeAfterAnyEvents v run =
    (ignored : List ℕ → Bool) (first : TreeState) (events : List RootEvent)
    → ignored intent_name ≡ false → IsDurable (StateDependsOn ignored) first → Reaches first events v
    → IsCrashSafeRun (ignored_after ignored events) v run

-- Suppose that a root has reached the state v by any list of events, after which each crash leaves one state. Then a
-- run that begins in v is all or nothing.
abbrev pub IsAtomicFromOneCrashState : TreeState → Run → Type 0
IsAtomicFromOneCrashState v run =
    (ignored : List ℕ → Bool) (first : TreeState) (events : List RootEvent)
    → ignored intent_name ≡ false → IsDurableAndLeavesFiles ignored (files_of first) first
    → ReachesOneCrashState first events v
    → IsAtomic (ignored_after ignored events) v run
