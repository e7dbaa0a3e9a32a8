-- Events of a root: runs, stops, crashes and changes by others, and lists of them. The rules are in
-- `docs/crash-safety.md`, "Recovery", its last two paragraphs, and the terms in `docs/names.md`, under
-- *event*.
use Rattle.std.specs.Prelude.{◌≡◌, ◌≢◌, ◌⊎◌, ◌++◌, ◌||◌, ℕ, Bool, true, false, if◌then◌else◌, List, [], ◌∷◌, Option, Some, None, Contains, IsSome, IsTrue, is_some}
use Rattle.std.specs.Str.{bytes_eq}
use Rattle.apk_front.specs.Answers.{IsAnswerOfSomeOutcomeOrFailure, LeavesFiles}
use Rattle.apk_front.specs.Moments.{IsOkRefusedOrOutputFault, AreStatesAsRecoveredOrOfCommittingRun, AreStatesOldOrLeadToOutcome, RecoversAndFindsValidIntent, IsRefusedOutOfMemoryOrCommitsNothing, HasNothingToRecover, IgnoresOutputScratchNameButNotIntent, LeavesDurableStateAndOutputIfCommitted, LeavesDurableFilesIfRequiredOnceAnswered, NamesAreDurableExceptOutputIfNoIntent, ignored_except_output_and_scratch}
use Rattle.apk_front.specs.declared.answer.Answer.{Answer}
use Rattle.apk_front.specs.declared.answer.Answer.TheVariants.{Ok, TreeFault}
use Rattle.base_core.specs.Calls.{HoldsNow}
use Rattle.base_core.specs.Crash.{Since}
use Rattle.base_core.specs.Faults.{Counts, CountsNewFaultWithCause}
use Rattle.base_core.specs.Sink.{SinkBeforeAndAfter}
use Rattle.base_core.specs.Files.{NameMap}
use Rattle.base_core.specs.Tree.{TreeState, files_of}
use Rattle.base_core.specs.Undone.{IsAfterCrash, IsDurable, IsCrashMap}
use Rattle.apk_front.specs.journal_core.Quiet.{StateIsUnchanged}
use Rattle.apk_front.specs.journal_core.Recovery.{StateDependsOn, intent_name, is_staged}
use Rattle.apk_front.specs.journal_core.Replacing.{scratch_name_of}
use Rattle.apk_front.specs.outcome.Effect.{effect_of_arguments, output, do_arguments_neither_recover_nor_write}
use Rattle.apk_front.specs.outcome.Outcome.{Outcome}
use Rattle.apk_front.specs.outcome.Words.{IsOutcome}
use Rattle.apk_front.specs.outcome.Work.{recovery_fault}
use Rattle.apk_front.specs.words_core.Grammar.{command_of}

-- ---- a run

-- a call of `apk`: its arguments, its answer, and the tree and the sinks before and after it
pub record Run : Type 0 where
  -- the command line, without the program's name
  pub words : List (List ℕ)
  -- the tree's history before the run, the newest state first
  pub old : List TreeState
  -- the tree's history after the run
  pub now : List TreeState
  -- the tree's counts of failed calls before the run
  pub before : Counts
  -- the tree's counts after the run
  pub after : Counts
  -- standard output, before the run and after it
  pub out : SinkBeforeAndAfter
  -- standard error, before the run and after it
  pub err : SinkBeforeAndAfter
  -- how the run ended
  pub answer : Answer

-- an outcome of a run's command line over the files as read in this state, in which the run begins
abbrev pub IsOutcomeFrom : TreeState → Run → Outcome → Type 0
IsOutcomeFrom v run = IsOutcome (command_of run.words) (files_of v)

-- a run that begins in this state has an outcome that commits
abbrev pub HasOutcomeThatCommits : TreeState → Run → Type 0
HasOutcomeThatCommits v run =
    (outcome : Outcome) × IsOutcomeFrom v run outcome × (outcome.commits ≡ true)

-- A run that begins in the state v: what the contract of `apk` says of it, clause by clause.
pub record IsRunFrom (v : TreeState) (run : Run) : Type 0 where
  -- the run begins in the state v
  pub begins : HoldsNow run.old (λ u. u ≡ v)
  -- the answer, the bytes printed and the files left are an outcome's; or a call failed, and this is answered
  pub stated : IsAnswerOfSomeOutcomeOrFailure (IsOutcomeFrom v run) (LeavesFiles run.now)
      (CountsNewFaultWithCause run.before run.after) run.answer run.out run.err
  -- a command that only reads leaves the tree unchanged
  pub same : IsTrue (do_arguments_neither_recover_nor_write (command_of run.words)) → run.now ≡ run.old
  -- with nothing to recover, a run that is refused, runs out of memory or commits nothing writes nothing
  pub idle : IsRefusedOutOfMemoryOrCommitsNothing (IsOutcomeFrom v run) run.answer
      → HasNothingToRecover (effect_of_arguments (command_of run.words)) v → run.now ≡ run.old
  -- if the intent (journal entry) is bad, nothing is written
  pub bad_intent : IsSome (recovery_fault (effect_of_arguments (command_of run.words)) (files_of v))
      → run.now ≡ run.old
  -- the files as read at each moment are as *AreStatesAsRecoveredOrOfCommittingRun* says
  pub reads : AreStatesAsRecoveredOrOfCommittingRun (IsOutcomeFrom v run)
      (effect_of_arguments (command_of run.words))
      (output run.words) v run.old run.now
  -- if the intent is present at the start: at each moment at which it is absent, a crash undoes no change of a name,
  -- except for those of the output and of staged files
  pub last : IsSome (v.names intent_name)
      → Since (NamesAreDurableExceptOutputIfNoIntent (output run.words)) run.old run.now
  -- a run that is refused, runs out of memory or commits nothing leaves the state of a durable tree unchanged
  pub left : IsRefusedOutOfMemoryOrCommitsNothing (IsOutcomeFrom v run) run.answer
      → (ignored : List ℕ → Bool)
      → IsDurable (StateDependsOn ignored) v → Since (StateIsUnchanged ignored v) run.old run.now
  -- a crash of a durable tree during the run leaves an old state, or that of an outcome that commits
  pub crash : (ignored : List ℕ → Bool)
      → IsDurable (StateDependsOn ignored) v
      → IgnoresOutputScratchNameButNotIntent (output run.words) ignored
      → AreStatesOldOrLeadToOutcome (IsOutcomeFrom v run) (is_some (output run.words)) ignored v run.old
      run.now
  -- a durable tree is durable after the run
  pub is_durable : (ignored : List ℕ → Bool)
      → IsDurable (StateDependsOn ignored) v
      → IgnoresOutputScratchNameButNotIntent (output run.words) ignored
      → HoldsNow run.now (IsDurable (StateDependsOn ignored))
  -- once an outcome is answered, each crash leaves its files, if they must be durable
  pub settled : (ignored : List ℕ → Bool)
      → IsDurable (StateDependsOn ignored) v
      → IgnoresOutputScratchNameButNotIntent (output run.words) ignored
      → LeavesDurableFilesIfRequiredOnceAnswered (IsOutcomeFrom v run)
      (effect_of_arguments (command_of run.words)) ignored v
      run.now
      run.answer
  -- once an outcome that commits is answered, each crash leaves its files, also under the output's name
  pub durable_state : (ignored : List ℕ → Bool)
      → IsDurable (StateDependsOn ignored) v
      → IgnoresOutputScratchNameButNotIntent (output run.words) ignored
      → IsOkRefusedOrOutputFault run.answer
      → LeavesDurableStateAndOutputIfCommitted (IsOutcomeFrom v run) (output run.words) ignored run.now

-- m is a moment of a run: the state in which the run begins, or a state that the run made
abbrev pub IsMomentOf : Run → TreeState → Type 0
IsMomentOf run m =
    HoldsNow run.old (λ v. m ≡ v)
    ⊎ ((added : List TreeState) × (run.now ≡ added ++ run.old) × Contains added m)

-- ---- events

-- An event is a run that ends, a run that is stopped, a crash, or a change of files by others. Others change files only
-- while no run of `apk` is in progress. They change any files, and sync them (an edit), or change files under given
-- names, and do not sync them (a touch). A run that a crash cuts off is a stop, and then a crash.
pub data RootEvent : Type 0 where
  -- a run that ends
  Ends : Run → RootEvent
  -- a run that is stopped at a moment, or inside a call
  Stops : Run → RootEvent
  -- a crash, after which the tree has one of the images that it may leave
  Crashes : RootEvent
  -- others change any files, and sync them
  Edits : RootEvent
  -- others change files under these names, and do not sync them
  Touches : (List ℕ → Bool) → RootEvent

-- all of a tree is synced: a crash leaves just the files as read
pub record IsAllSynced (v : TreeState) : Type 0 where
  -- there is one map of names: a crash can undo no change of a name
  pub one_map : v.older ≡ []
  -- each file that a name leads to is synced
  pub files : (q : List ℕ) (n : ℕ) → v.names q ≡ Some n → (v.files n).synced ≡ true

-- w differs from v only in the bytes of files that are not synced, as inside a call that appends to such a file
pub record DiffersOnlyInUnsyncedBytes (v w : TreeState) : Type 0 where
  -- names lead to the same files
  pub names : w.names ≡ v.names
  -- the older maps of names, to which a crash may return, are equal
  pub older : w.older ≡ v.older
  -- equally many files were made so far
  pub made : w.made ≡ v.made
  -- the same files are synced
  pub synced : (n : ℕ) → (w.files n).synced ≡ (v.files n).synced
  -- a synced file has the same bytes
  pub bytes : (n : ℕ) → (v.files n).synced ≡ true → (w.files n).bytes ≡ (v.files n).bytes

-- a run may be stopped in the state w: at one of its moments, or inside a call; then each file that is not synced may
-- have any bytes
abbrev pub IsPossibleStop : Run → TreeState → Type 0
IsPossibleStop run w = (m : TreeState) × IsMomentOf run m × DiffersOnlyInUnsyncedBytes m w

-- of the names `theirs`, those that others may touch: neither the intent's, nor names below the staging area
abbrev pub names_of_others_outside_journal : (List ℕ → Bool) → List ℕ → Bool
names_of_others_outside_journal theirs q = if bytes_eq q intent_name || is_staged q then false else theirs q

-- The map of names `map`, of the state w, agrees with the map `was`, of the state v, on each name that others may not
-- touch. The file to which such a name leads is the same in v and w.
abbrev pub HaveSameFilesExceptTheirs : (List ℕ → Bool) → TreeState → NameMap → TreeState → NameMap → Type 0
HaveSameFilesExceptTheirs theirs v was w map =
    (q : List ℕ) → names_of_others_outside_journal theirs q ≡ false
    → (map q ≡ was q) × ((n : ℕ) → was q ≡ Some n → w.files n ≡ v.files n)

-- Others have changed only files under the names `theirs`, from the state v to w. Each map of names that a crash in w
-- may leave equals, except on these names, a map that a crash in v may leave.
abbrev pub IsChangeByOthers : (List ℕ → Bool) → TreeState → TreeState → Type 0
IsChangeByOthers theirs v w =
    (map : NameMap) → IsCrashMap w map → (was : NameMap) × IsCrashMap v was
    × HaveSameFilesExceptTheirs theirs v was w map

-- the event may find a tree in the state v, and leave it in the state w
abbrev pub IsTransition : TreeState → RootEvent → TreeState → Type 0
IsTransition v (Ends run) w = IsRunFrom v run × HoldsNow run.now (λ u. u ≡ w)
IsTransition v (Stops run) w = IsRunFrom v run × IsPossibleStop run w
IsTransition v Crashes w = IsAfterCrash v w
-- an edit by others may leave any tree in which all files are synced
IsTransition v Edits w = IsAllSynced w
IsTransition v (Touches theirs) w = IsChangeByOthers theirs v w

-- a root that was in the state `first` has seen these events, the newest first, and is in state w
abbrev pub Reaches : TreeState → List RootEvent → TreeState → Type 0
Reaches first [] w = w ≡ first
Reaches first (event ∷ earlier) w =
    (v : TreeState) × Reaches first earlier v × IsTransition v event w

-- ---- what is committed

-- A run that begins in the state v commits nothing: it is refused, runs out of memory, or has an outcome that commits
-- nothing; or the run has no output, and no outcome that commits.
abbrev pub IsRunWithoutCommit : TreeState → Run → Type 0
IsRunWithoutCommit v run =
    IsRefusedOutOfMemoryOrCommitsNothing (IsOutcomeFrom v run) run.answer
    ⊎ ((output run.words ≡ None) × (HasOutcomeThatCommits v run → ⊥))

-- the event, which finds the state v, is a crash, a run that commits nothing, or a touch by others
abbrev pub IsEventWithoutCommitOrEdit : TreeState → RootEvent → Type 0
IsEventWithoutCommitOrEdit v (Ends run) = IsRunWithoutCommit v run
IsEventWithoutCommitOrEdit v (Stops run) = IsRunWithoutCommit v run
IsEventWithoutCommitOrEdit v Crashes = Unit {0}
IsEventWithoutCommitOrEdit v Edits = ⊥
IsEventWithoutCommitOrEdit v (Touches theirs) = Unit {0}

-- a root that was in the state `first` has seen these events, the newest first, and is in state w; each event is a
-- crash, a touch by others, or a run that commits nothing
abbrev pub ReachesWithoutCommitOrEdit : TreeState → List RootEvent → TreeState → Type 0
ReachesWithoutCommitOrEdit first [] w = w ≡ first
ReachesWithoutCommitOrEdit first (event ∷ earlier) w =
    (v : TreeState) × ReachesWithoutCommitOrEdit first earlier v × IsEventWithoutCommitOrEdit v event
    × IsTransition v event w

-- ---- when a crash leaves one state

-- After the event each crash leaves one state, whatever was before it. The event is a crash or an edit; or a run that
-- answers its outcome, if this outcome commits, or if the run has no output and found a valid intent.
abbrev pub EnsuresOneCrashState : TreeState → RootEvent → Type 0
EnsuresOneCrashState v (Ends run) =
    IsOkRefusedOrOutputFault run.answer
    × (HasOutcomeThatCommits v run
    ⊎ ((output run.words ≡ None)
    × RecoversAndFindsValidIntent (effect_of_arguments (command_of run.words)) v))
EnsuresOneCrashState v (Stops run) = ⊥
EnsuresOneCrashState v Crashes = Unit {0}
EnsuresOneCrashState v Edits = Unit {0}
EnsuresOneCrashState v (Touches theirs) = ⊥

-- After the event each crash leaves one state, if each crash did before it. The event is no run; or a run that commits
-- nothing, or that ends without an I/O error of the tree.
abbrev pub PreservesOneCrashState : TreeState → RootEvent → Type 0
PreservesOneCrashState v (Ends run) = (run.answer ≢ TreeFault) ⊎ IsRunWithoutCommit v run
PreservesOneCrashState v (Stops run) = IsRunWithoutCommit v run
PreservesOneCrashState v Crashes = Unit {0}
PreservesOneCrashState v Edits = Unit {0}
PreservesOneCrashState v (Touches theirs) = Unit {0}

-- A root that was in the state `first` has seen these events, the newest first, and is in state w. Each crash leaves
-- one state: an event ensured this, or this was so at first, and all later events preserved it.
abbrev pub ReachesOneCrashState : TreeState → List RootEvent → TreeState → Type 0
ReachesOneCrashState first [] w = w ≡ first
ReachesOneCrashState first (event ∷ earlier) w =
    (v : TreeState)
    × IsTransition v event w
    × ((Reaches first earlier v × EnsuresOneCrashState v event)
    ⊎ (ReachesOneCrashState first earlier v × PreservesOneCrashState v event))

-- in a list of events, the newest first: since the last crash or edit by others, no run was stopped, and none ended by
-- an I/O error of the tree
abbrev pub HasNoUnfinishedRunSinceCrash : List RootEvent → Type 0
HasNoUnfinishedRunSinceCrash [] = Unit {0}
HasNoUnfinishedRunSinceCrash (Ends run ∷ earlier) =
    (run.answer ≢ TreeFault) × HasNoUnfinishedRunSinceCrash earlier
HasNoUnfinishedRunSinceCrash (Stops run ∷ earlier) = ⊥
HasNoUnfinishedRunSinceCrash (Crashes ∷ earlier) = Unit {0}
HasNoUnfinishedRunSinceCrash (Edits ∷ earlier) = Unit {0}
HasNoUnfinishedRunSinceCrash (Touches theirs ∷ earlier) = HasNoUnfinishedRunSinceCrash earlier

-- ---- the names that are ignored

-- the set of ignored names on an ordinary root, which is empty
abbrev pub nothing_ignored : List ℕ → Bool
nothing_ignored q = false

-- the names `ignored`, and the scratch name of an output, if there is an output
abbrev pub ignored_with_scratch : Option (List ℕ) → (List ℕ → Bool) → List ℕ → Bool
ignored_with_scratch None ignored q = ignored q
ignored_with_scratch (Some name) ignored q = bytes_eq q (scratch_name_of name) || ignored q

-- the names that are ignored during a run: those that are ignored when it begins, and the scratch name of its output
abbrev pub ignored_during_run : Run → (List ℕ → Bool) → List ℕ → Bool
ignored_during_run run ignored = ignored_with_scratch (output run.words) ignored

-- the names that are ignored after a run that ends with this answer: after Ok no longer its output and the scratch
-- name, after an I/O error of the tree also the scratch name
abbrev pub ignored_after_answer : Answer → Run → (List ℕ → Bool) → List ℕ → Bool
ignored_after_answer Ok run ignored = ignored_except_output_and_scratch (output run.words) ignored
ignored_after_answer TreeFault run ignored = ignored_during_run run ignored
ignored_after_answer other run ignored = ignored

-- each name of the set `few` is in the set `many`
abbrev pub AreNamesAmong : (List ℕ → Bool) → (List ℕ → Bool) → Type 0
AreNamesAmong few many = (q : List ℕ) → few q ≡ true → many q ≡ true

-- the names `ignored`, and those of the names `theirs` that others may touch
abbrev pub touched_outside_journal_or_ignored : (List ℕ → Bool) → (List ℕ → Bool) → List ℕ → Bool
touched_outside_journal_or_ignored theirs ignored q = names_of_others_outside_journal theirs q || ignored q

-- the names `ignored`, and all names that others touched along a list of events
abbrev pub ignored_with_all_touched : List RootEvent → (List ℕ → Bool) → List ℕ → Bool
ignored_with_all_touched [] ignored = ignored
ignored_with_all_touched (Ends run ∷ earlier) ignored = ignored_with_all_touched earlier ignored
ignored_with_all_touched (Stops run ∷ earlier) ignored = ignored_with_all_touched earlier ignored
ignored_with_all_touched (Crashes ∷ earlier) ignored = ignored_with_all_touched earlier ignored
ignored_with_all_touched (Edits ∷ earlier) ignored = ignored_with_all_touched earlier ignored
ignored_with_all_touched (Touches theirs ∷ earlier) ignored =
    touched_outside_journal_or_ignored theirs (ignored_with_all_touched earlier ignored)

-- The names that are ignored after a list of events, the newest first. A run with an output adds its scratch name if it
-- is stopped or the tree fails. This name is no longer ignored once the output is written, or after a crash or an edit,
-- after which all files are synced. Names that others touched are ignored until then too.
abbrev pub ignored_after : (List ℕ → Bool) → List RootEvent → List ℕ → Bool
ignored_after ignored [] = ignored
ignored_after ignored (Ends run ∷ earlier) =
    ignored_after_answer run.answer run (ignored_after ignored earlier)
ignored_after ignored (Stops run ∷ earlier) = ignored_during_run run (ignored_after ignored earlier)
ignored_after ignored (Crashes ∷ earlier) = nothing_ignored
ignored_after ignored (Edits ∷ earlier) = nothing_ignored
ignored_after ignored (Touches theirs ∷ earlier) =
    touched_outside_journal_or_ignored theirs (ignored_after ignored earlier)

-- In a list of events, the newest first: since the last crash or edit, no run with an output was stopped or ended by an
-- I/O error of the tree. Since then, others touched nothing. (After a crash or an edit all files are synced.)
abbrev pub HasNoUnfinishedOutputOrTouchSinceSync : List RootEvent → Type 0
HasNoUnfinishedOutputOrTouchSinceSync [] = Unit {0}
HasNoUnfinishedOutputOrTouchSinceSync (Ends run ∷ earlier) =
    (run.answer ≡ TreeFault → output run.words ≡ None) × HasNoUnfinishedOutputOrTouchSinceSync earlier
HasNoUnfinishedOutputOrTouchSinceSync (Stops run ∷ earlier) =
    (output run.words ≡ None) × HasNoUnfinishedOutputOrTouchSinceSync earlier
HasNoUnfinishedOutputOrTouchSinceSync (Crashes ∷ earlier) = Unit {0}
HasNoUnfinishedOutputOrTouchSinceSync (Edits ∷ earlier) = Unit {0}
HasNoUnfinishedOutputOrTouchSinceSync (Touches theirs ∷ earlier) = ⊥
