-- What keeps a root recoverable, and the state after a run that was stopped. The rules are in
-- `docs/crash-safety.md`, "Recovery", its table of what is found and its last part.
use Rattle.std.specs.Prelude.{◌≡◌, ◌≢◌, ◌⊎◌, ℕ, Bool, true, List, [], ◌∷◌, None}
use Rattle.apk_front.specs.Moments.{IsOkRefusedOrOutputFault, HasOutcomeWithoutCommit}
use Rattle.apk_front.specs.declared.answer.Answer.TheVariants.{Refused}
use Rattle.base_core.specs.Calls.{HoldsNow}
use Rattle.base_core.specs.Undone.{IsCrashImage}
use Rattle.base_core.specs.Files.{Files}
use Rattle.base_core.specs.Tree.{TreeState, files_of}
use Rattle.base_core.specs.declared.cause.Cause.{Cause}
use Rattle.apk_front.specs.journal_core.Recovery.{intent_name, state_of}
use Rattle.apk_front.specs.journal_core.Staged.{HasNoStagedNames, unstaged_files}
use Rattle.apk_front.specs.outcome.Effect.{effect_of_arguments}
use Rattle.apk_front.specs.outcome.Outcome.{Outcome}
use Rattle.apk_front.specs.outcome.Work.{recovery_fault}
use Rattle.report_core.specs.declared.refusal.Refusal.TheVariants.{IntentBad}
use Rattle.apk_front.specs.words_core.Grammar.{command_of}
use Rattle.run_lists.specs.Events.{Crashes, Edits, Ends, RootEvent, IsOutcomeFrom, IsTransition, Run, Stops, Touches}
use Rattle.run_lists.specs.Reading.{HasBadIntent}

-- ---- no bad intent

-- no crash leaves a bad intent, so none is read either
abbrev pub EachCrashLeavesNoBadIntent : TreeState → Type 0
EachCrashLeavesNoBadIntent v = (image : Files) → IsCrashImage v image → HasBadIntent image → ⊥

-- if the event is an edit of files by others, there is no bad intent in the files of w, the state after it
abbrev pub PutsNoBadIntentIfEditByOthers : RootEvent → TreeState → Type 0
PutsNoBadIntentIfEditByOthers (Ends run) w = Unit {0}
PutsNoBadIntentIfEditByOthers (Stops run) w = Unit {0}
PutsNoBadIntentIfEditByOthers Crashes w = Unit {0}
PutsNoBadIntentIfEditByOthers Edits w = HasBadIntent (files_of w) → ⊥
PutsNoBadIntentIfEditByOthers (Touches theirs) w = Unit {0}

-- a root that was in the state `first` has seen these events, the newest first, and is in state w; after no edit by
-- others was there a bad intent
abbrev pub ReachesWithNoBadIntentPutByOthers : TreeState → List RootEvent → TreeState → Type 0
ReachesWithNoBadIntentPutByOthers first [] w = w ≡ first
ReachesWithNoBadIntentPutByOthers first (event ∷ earlier) w =
    (v : TreeState)
    × ReachesWithNoBadIntentPutByOthers first earlier v
    × IsTransition v event w
    × PutsNoBadIntentIfEditByOthers event w

-- the run does not answer that the intent is bad
abbrev pub IsNotRefusedForIntent : Run → Type 0
IsNotRefusedForIntent run = (cause : Cause) → run.answer ≢ Refused (IntentBad cause)

-- ---- after a run that was stopped

-- the files `files` have the same state as the files `others`, apart from the ignored names
abbrev pub HasSameState : (List ℕ → Bool) → Files → Files → Type 0
HasSameState ignored others files = state_of ignored files ≡ state_of ignored others

-- files have the state of some files that a crash in the state v might have left; the run begins in v
abbrev pub HasStateOfSomeCrashBefore : (List ℕ → Bool) → TreeState → Files → Type 0
HasStateOfSomeCrashBefore ignored v files =
    (was : Files) × IsCrashImage v was × HasSameState ignored was files

-- files have a state that a crash before the run might have left, or that of an outcome of the run, which commits
abbrev pub HasStateOfCrashBeforeOrOutcome : (List ℕ → Bool) → TreeState → Run → Files → Type 0
HasStateOfCrashBeforeOrOutcome ignored v run files =
    HasStateOfSomeCrashBefore ignored v files
    ⊎ ((outcome : Outcome)
    × IsOutcomeFrom v run outcome
    × (outcome.commits ≡ true)
    × HasSameState ignored outcome.files files)

-- files are recovered: there is no intent, the staging area is empty, and the files have this state
pub record HaveStateWithoutIntentOrStagedFiles (HasState : Files → Type 0) (files : Files) : Type 0 where
  -- there is no intent
  pub intent : files intent_name ≡ None
  -- there is no staged file
  pub stage : HasNoStagedNames files
  -- the files have the state
  pub state : HasState files

-- The run `next`, which finds the root in the state w, is not refused for an intent. It works on the recovered files,
-- and these are as *HaveStateWithoutIntentOrStagedFiles* says. If its outcome commits nothing, the files as read once this is
-- answered are the recovered ones.
pub record RecoversToStateWithoutRefusal (HasState : Files → Type 0) (w : TreeState) (next : Run) :
    Type 0 where
  -- the next run does not answer that the intent is bad
  pub unrefused : IsNotRefusedForIntent next
  -- the intent, if there is one, is not bad
  pub works : recovery_fault (effect_of_arguments (command_of next.words)) (files_of w) ≡ None
  -- recovery leaves files of this state, without an intent and staged files
  pub files : HaveStateWithoutIntentOrStagedFiles HasState (unstaged_files (files_of w))
  -- after an answer whose outcome commits nothing, the files as read are the recovered ones
  pub read : IsOkRefusedOrOutputFault next.answer → HasOutcomeWithoutCommit (IsOutcomeFrom w next)
      → HoldsNow next.now (λ u. files_of u ≡ unstaged_files (files_of w))
