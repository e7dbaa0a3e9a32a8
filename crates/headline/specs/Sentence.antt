-- The sentence with which the README of the repository begins, as one statement. The definitions that it cites are in
-- `run_lists` (runs, and what a root has seen), `apk_front` (answers), `journal_core` (states of files), `outcome` (the
-- outcomes of commands) and `refusal_laws` (the faults that refusals state).
use Rattle.std.specs.Prelude.{◌≡◌, ◌⊎◌, ℕ, Bool, true, false, List, Some, None, Ok}
use Rattle.run_lists.specs.apk_front.Answers.{IsAnswerOfSomeOutcomeOrFailure, LeavesFiles}
use Rattle.run_lists.specs.apk_front.Moments.{IsOkRefusedOrOutputFault, IsDurableAndLeavesFiles, CommitsRecoversIntentOrCrashesLeaveAsRead}
use Rattle.base_core.specs.Calls.{HoldsNow}
use Rattle.base_core.specs.Undone.{IsDurable, IsCrashImage}
use Rattle.base_core.specs.Faults.{CountsNewFaultWithCause}
use Rattle.base_core.specs.Files.{Files}
use Rattle.base_core.specs.Tree.{TreeState, files_of}
use Rattle.command_core.specs.Command.{CommandLine}
use Rattle.run_lists.specs.journal_core.Recovery.{EachCrashLeavesStateOf, StateDependsOn, intent_name}
use Rattle.run_lists.specs.journal_core.Staged.{unstaged_files}
use Rattle.refusal_laws.specs.outcome.ChangeEnd.{IsChangeEndAfterRecoveryOrIntentRefusal, TakesFirstPreferredSelection}
use Rattle.refusal_laws.specs.outcome.Effect.{Changes, does_recover, effect_of_arguments, effect_of}
use Rattle.refusal_laws.specs.outcome.Outcome.{Outcome}
use Rattle.refusal_laws.specs.RunFaults.{IsFaultOfRun}
use Rattle.refusal_laws.specs.RunMade.{InstallsFirstSelectionFaultlessExceptLimits}
use Rattle.report_core.specs.declared.refusal.Refusal.{Refusal}
use Rattle.run_lists.specs.Events.{RootEvent, HasNoUnfinishedRunSinceCrash, ReachesWithoutCommitOrEdit, ReachesOneCrashState, IsRunWithoutCommit, IsOutcomeFrom, IsRunFrom, IsPossibleStop, Run, ignored_after, ignored_during_run, ignored_with_all_touched}
use Rattle.run_lists.specs.Recovered.{ReachesWithNoBadIntentPutByOthers, HasStateOfSomeCrashBefore, HasStateOfCrashBeforeOrOutcome, HasSameState, RecoversToStateWithoutRefusal, EachCrashLeavesNoBadIntent}
use Rattle.run_lists.specs.Safety.{HasStateAsReadOrOutcome}
use Rattle.refusal_laws.specs.words_core.Grammar.{command_of}

-- A root has come from the state `first` to v by these events: runs, stops, crashes and changes by others. At first the
-- tree was durable, apart from the ignored names, and no crash could leave a bad intent. No edit by others left one.
pub record HasGoodPast (ignored : List ℕ → Bool) (first : TreeState) (events : List RootEvent)
    (v : TreeState) : Type 0 where
  -- the name of the intent is not ignored
  pub counts : ignored intent_name ≡ false
  -- at first no crash could change the bytes of a file on which the state depends, apart from the ignored names
  pub durable : IsDurable (StateDependsOn ignored) first
  -- at first no crash could leave a bad intent
  pub good : EachCrashLeavesNoBadIntent first
  -- the events led from `first` to v, and after no edit by others was there a bad intent
  pub seen : ReachesWithNoBadIntentPutByOthers first events v

-- From the state m on, a root recovers to files for whose state `HasState` holds, apart from the ignored names. Each
-- crash in m leaves such files. The next run that recovers works on such files, after any crashes, any touches by
-- others, and any runs, ended or stopped, that commit nothing. The names that others touched are then ignored too.
pub record RootRecoversTo (HasState : (List ℕ → Bool) → Files → Type 0) (ignored : List ℕ → Bool)
    (m : TreeState) : Type 0 where
  -- each crash leaves files of this state
  pub crash : (image : Files) → IsCrashImage m image → HasState ignored image
  -- the next run that recovers works on files of this state
  pub next : (later : List RootEvent) (w : TreeState) (next : Run) → ReachesWithoutCommitOrEdit m later w
      → IsRunFrom w next → does_recover (effect_of_arguments (command_of next.words)) ≡ true
      → RecoversToStateWithoutRefusal (HasState (ignored_with_all_touched later ignored)) w next

-- A change is refused only for a fault that is true, or because no selection satisfies the new world. Otherwise the
-- first preferred selection is taken and reported. The installed packages are then just the selected ones, unless the
-- change is only simulated. `o` is the outcome of the command over these files, which are those before recovery.
pub record EndsInTrueRefusalOrFirstSelection (command : CommandLine) (files : Files)
    (o : Outcome) : Type 0 where
  -- the outcome is one of the ends that a change can have
  pub end : IsChangeEndAfterRecoveryOrIntentRefusal command files o
  -- if the outcome is a refusal, the fault that it reports is true
  pub fault : (refusal : Refusal) → o.refusal ≡ Some refusal → IsFaultOfRun command files refusal
  -- without a refusal, the first preferred selection is taken over the recovered files
  pub first : o.refusal ≡ None → TakesFirstPreferredSelection command (unstaged_files files) o
  -- without a refusal, and without `--simulate`, the packages after the change are the selected ones
  pub packages : o.refusal ≡ None → command.flags.simulate ≡ false
      → InstallsFirstSelectionFaultlessExceptLimits command (unstaged_files files)

-- what is promised of a run that begins in the state v, apart from the ignored names
pub record IsAsPromised (ignored : List ℕ → Bool) (v : TreeState) (run : Run) : Type 0 where
  -- Suppose that the run ended, or was stopped at any moment, also inside a call. The root then recovers
  -- to a state from before the run, or to that of its outcome, which commits.
  pub moments : (m : TreeState) → IsPossibleStop run m
      → RootRecoversTo (λ names. HasStateOfCrashBeforeOrOutcome names v run) ignored m
  -- Suppose that each crash before the run left the state of the files as read. The root then recovers
  -- to this state, or to that of the outcome, which commits.
  pub one : EachCrashLeavesStateOf ignored (files_of v) v → (m : TreeState) → IsPossibleStop run m
      → RootRecoversTo (λ names. HasStateAsReadOrOutcome names v run) ignored m
  -- Suppose that the run answered by its outcome: Ok, a refusal, or a fault of an output stream. The root
  -- then recovers to the outcome's state, if this is made durable: the outcome commits, or each crash
  -- before the run left the state of the files as read, or an intent was found.
  pub answered : IsOkRefusedOrOutputFault run.answer → (o : Outcome) → IsOutcomeFrom v run o
      → CommitsRecoversIntentOrCrashesLeaveAsRead (effect_of_arguments (command_of run.words)) ignored v o
      → HoldsNow run.now (RootRecoversTo (λ names. HasSameState names o.files) ignored)
  -- If the run is refused, runs out of memory, or commits nothing, the root recovers to a state from
  -- before the run.
  pub left : IsRunWithoutCommit v run → (m : TreeState) → IsPossibleStop run m
      → RootRecoversTo (λ names. HasStateOfSomeCrashBefore names v) ignored m
  -- The answer, the printed bytes and the files left are the outcome's; or the run reports a fault of
  -- the tree or of an output stream, with its cause, or that it is out of memory.
  pub answer : IsAnswerOfSomeOutcomeOrFailure (IsOutcomeFrom v run) (LeavesFiles run.now)
      (CountsNewFaultWithCause run.before run.after) run.answer run.out run.err
  -- A run that changes the installed packages ends in one of the stated ways (*EndsInTrueRefusalOrFirstSelection*).
  pub change : (command : CommandLine) (o : Outcome) → command_of run.words ≡ Ok command
      → effect_of command.applet ≡ Changes → IsOutcomeFrom v run o
      → EndsInTrueRefusalOrFirstSelection command (files_of v) o

-- The sentence: after any list of events that a root has seen, the run is as promised. If each crash left one state at
-- first, each leaves one state when the run begins, unless a run that might commit was stopped or the tree failed. Even
-- then this holds again after a crash, or after another event of *EnsuresOneCrashState*.
abbrev pub IsAsPromisedAfterAnyEvents : TreeState → Run → Type 0
IsAsPromisedAfterAnyEvents v run =
    (ignored : List ℕ → Bool) (first : TreeState) (events : List RootEvent)
    → HasGoodPast ignored first events v
    → IsAsPromised (ignored_during_run run (ignored_after ignored events)) v run
    × (IsDurableAndLeavesFiles ignored (files_of first) first
    → ReachesOneCrashState first events v ⊎ HasNoUnfinishedRunSinceCrash events
    → EachCrashLeavesStateOf (ignored_during_run run (ignored_after ignored events)) (files_of v) v)
