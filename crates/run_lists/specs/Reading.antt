-- The files as read at each moment of a run, and after runs that follow each other without a crash. Serves laws in
-- `src/laws.rt`. The rules are in `docs/crash-safety.md`, "Recovery", its last two paragraphs.
use Rattle.std.specs.Prelude.{◌≡◌, ◌⊎◌, ℕ, Bool, true, false, List, [], ◌∷◌, Option}
use Rattle.apk_front.specs.Moments.{is_temporary_name, output_names}
use Rattle.base_core.specs.Undone.{IsCrashImage}
use Rattle.base_core.specs.Files.{Files}
use Rattle.base_core.specs.Tree.{TreeState, files_of}
use Rattle.base_core.specs.declared.cause.Cause.{Cause}
use Rattle.apk_front.specs.journal_core.Kept.{IsJournalName}
use Rattle.apk_front.specs.journal_core.Staged.{IsIntentFault, unstaged_files}
use Rattle.apk_front.specs.journal_intent.FreeNames.{IsNoneOf}
use Rattle.apk_front.specs.outcome.Effect.{does_recover, effect_of_arguments, output}
use Rattle.apk_front.specs.outcome.Outcome.{Outcome}
use Rattle.apk_front.specs.words_core.Grammar.{command_of}
use Rattle.run_lists.specs.Events.{Crashes, Edits, Ends, RootEvent, IsMomentOf, IsOutcomeFrom, IsTransition, Run, Stops, Touches}

-- ---- at each moment of a run

-- the name q is neither that of the intent, nor of a staged file, nor a temporary name of the run
pub record IsNoJournalOrTemporaryName (run : Run) (q : List ℕ) : Type 0 where
  -- the name is not that of the intent or of a staged file
  pub waits : IsJournalName q → ⊥
  -- the name is no temporary name, under which the run makes a new file
  pub drafts : is_temporary_name (effect_of_arguments (command_of run.words)) (output run.words) q ≡ false

-- at the moment m of a run that began in v, the name q has the bytes of an outcome of the run that commits
abbrev pub HasOutcomeBytes : TreeState → Run → TreeState → List ℕ → Type 0
HasOutcomeBytes v run m q =
    (outcome : Outcome)
    × IsOutcomeFrom v run outcome
    × (outcome.commits ≡ true)
    × (files_of m q ≡ outcome.files q)

-- at the moment m of a run that began in v, the name q has the bytes that it had in v; or its recovered bytes, if the
-- command recovers; or those of an outcome that commits
abbrev pub HasOldRecoveredOrOutcomeBytes : TreeState → Run → TreeState → List ℕ → Type 0
HasOldRecoveredOrOutcomeBytes v run m q =
    (files_of m q ≡ files_of v q)
    ⊎ (((does_recover (effect_of_arguments (command_of run.words)) ≡ true)
    × (files_of m q ≡ unstaged_files (files_of v) q))
    ⊎ HasOutcomeBytes v run m q)

-- ---- runs that follow each other without a crash

-- the event is a run from the state v with the property `Holds`, which ends, or is stopped between two calls in the
-- state w
abbrev pub IsRunWith : (TreeState → Run → Type 0) → TreeState → RootEvent → TreeState → Type 0
IsRunWith Holds v (Ends run) w = Holds v run
IsRunWith Holds v (Stops run) w = Holds v run × IsMomentOf run w
IsRunWith Holds v Crashes w = ⊥
IsRunWith Holds v Edits w = ⊥
IsRunWith Holds v (Touches theirs) w = ⊥

-- a root that was in the state `first` has seen these events, the newest first, and is in state w; all events are runs
-- with the property `Holds`, ended, or stopped between two calls
abbrev pub ReachesOnlyByRunsWith :
    (TreeState → Run → Type 0) → TreeState → List RootEvent → TreeState → Type 0
ReachesOnlyByRunsWith Holds first [] w = w ≡ first
ReachesOnlyByRunsWith Holds first (event ∷ earlier) w =
    (v : TreeState)
    × ReachesOnlyByRunsWith Holds first earlier v
    × IsRunWith Holds v event w
    × IsTransition v event w

-- true of every run: the property of *ReachesOnlyByRunsWith*, if nothing more is required of the runs
abbrev pub IsUnrestrictedRun : TreeState → Run → Type 0
IsUnrestrictedRun v run = Unit {0}

-- the test holds of the file under the name q, or of its absence (None), both in the files as read and after recovery
pub record HoldsAsReadAndAsRecovered (test : Option (List ℕ) → Bool) (q : List ℕ)
    (files : Files) : Type 0 where
  -- the test holds of the file as read
  pub read : test (files q) ≡ true
  -- the test holds of the file as recovery leaves it
  pub recovered : test (unstaged_files files q) ≡ true

-- The name q is no name of the journal, and no temporary name of the run. The test holds of the file, or None, that
-- each outcome of the run which commits leaves under q.
pub record EachCommitPassesTestAtName (test : Option (List ℕ) → Bool) (q : List ℕ) (v : TreeState)
    (run : Run) : Type 0 where
  -- q is no name of the journal, and no temporary name of the run
  pub no_draft : IsNoJournalOrTemporaryName run q
  -- the test holds of the file in each outcome of the run that commits
  pub outcomes : (outcome : Outcome) → IsOutcomeFrom v run outcome → outcome.commits ≡ true
      → test (outcome.files q) ≡ true

-- ---- a bad intent

-- there is a file under the intent's name, and it is no sound intent container
abbrev pub HasBadIntent : Files → Type 0
HasBadIntent files = (cause : Cause) × IsIntentFault files cause

-- ---- an intent's change

-- the name q is none of these: the intent's name, the name of a staged file, the name of the run's output or its
-- scratch name, an ignored name
pub record IsNoJournalOutputOrIgnoredName (ignored : List ℕ → Bool) (run : Run) (q : List ℕ) : Type 0 where
  -- the name is not that of the intent or of a staged file
  pub waits : IsJournalName q → ⊥
  -- the name is not that of the output or its scratch name
  pub other : IsNoneOf q (output_names (output run.words))
  -- the name is not ignored
  pub counts : ignored q ≡ false

-- At the moment m of a run that began in v, the change of the intent found in v is durable under the name q: the name
-- has its recovered bytes, or those of an outcome of the run that commits, and each crash leaves exactly these.
pub record HasRecoveredOrOutcomeBytesDurably (v : TreeState) (run : Run) (m : TreeState)
    (q : List ℕ) : Type 0 where
  -- the file is the recovered one, or that of an outcome of the run
  pub done : (files_of m q ≡ unstaged_files (files_of v) q) ⊎ HasOutcomeBytes v run m q
  -- each crash at this moment leaves exactly this file
  pub lasts : (image : Files) → IsCrashImage m image → image q ≡ files_of m q
