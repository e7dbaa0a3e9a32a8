-- A stage: how files are staged, what publishing (committing) the intent does, the actions after it,
-- and what a recovery leaves.
-- The rules are in `docs/crash-safety.md`, "A change of several files", and for what a recovery leaves
-- in "Recovery".
use Rattle.std.specs.Prelude.{◌≡◌, ◌⊎◌, ◌≤◌, ◌<◌, ℕ, ◌+◌, Bool, true, false, if◌then◌else◌, List, [], ◌∷◌, ◌++◌, length, Option, Some, None, IsSome, slice_get}
use Rattle.base_core.specs.Files.{Files, NameMap, IsFolderOf, put_name}
use Rattle.base_core.specs.Tree.{TreeState, files_under_map, files_of}
use Rattle.base_core.specs.Undone.{IsDurable, IsCrashMap}
use Rattle.base_core.specs.Restart.{EachMoment}
use Rattle.base_core.specs.declared.cause.Cause.{Cause}
use Rattle.journal_intent.specs.adb_schema.Soundness.{container_fault_except_contents}
use Rattle.adb_view.specs.declared.tables.Which.TheVariants.{Intent as IntentTable}
use Rattle.journal_core.specs.Recovery.{Intent, EachCrashLeavesOldOrNew, IsStagedNameOf, StateDependsOn, intent_name, intent_of, is_staged, recovered_files, stage_name, state_of}
use Rattle.journal_core.specs.Kept.{IsAbsentAfterEachCrash}
use Rattle.journal_core.specs.Quiet.{EachCrashLeavesOld}

-- the contents of a `Stage` of the program, as contracts see them: the actions of a change, and how far the
-- change has been carried out
pub record Staging : Type 0 where
  -- the removals and moves of the change
  pub intent : Intent
  -- how many of the intent's writes have a staged file that is ended, that is, complete and synced
  pub staged : ℕ
  -- whether the staged file of the next write is begun and not yet ended
  pub is_open : Bool
  -- whether the intent is under its final name
  pub published : Bool
  -- how many of the intent's actions are done: first the removals, then the moves
  pub acted : ℕ

-- how many actions an intent has: its removals and its writes
abbrev pub action_count : Intent → ℕ
action_count intent = length intent.removals + length intent.writes

-- a stage of these removals and writes, for which nothing is staged and no action is done yet
abbrev pub new_stage_of_removals_and_writes : List (List ℕ) → List (List ℕ) → Staging
new_stage_of_removals_and_writes removals writes = record {
  intent = record { removals = removals; writes = writes };
  staged = 0;
  is_open = false;
  published = false;
  acted = 0;
}

-- the file under the intent's name is no intent container, for this cause
abbrev pub IsIntentFault : Files → Cause → Type 0
IsIntentFault files cause = (file : List ℕ) × (files intent_name ≡ Some file)
    × (container_fault_except_contents IntentTable file ≡ Some cause)

-- ---- staging

-- the files with one more staged file for each element of `contents`, which is its bytes; the first
-- of them has the number k
abbrev pub files_with_staged : ℕ → List (List ℕ) → Files → Files
files_with_staged k [] files = files
files_with_staged k (bytes ∷ contents) files =
    files_with_staged (k + 1) contents (put_name files (stage_name k) bytes)

-- the files with the staged file number k, which is begun and has these bytes; without bytes no file is begun,
-- and the files are unchanged
abbrev pub files_with_begun_file : ℕ → Option (List ℕ) → Files → Files
files_with_begun_file k None files = files
files_with_begun_file k (Some bytes) files = put_name files (stage_name k) bytes

-- the name leads to a file to which, in each map that a crash may leave, no other name leads; and where such a map
-- leads from the name to this file, the intent read by that map has no action that moves it
pub record IsOnlyNameOfFile (name : List ℕ) (v : TreeState) : Type 0 where
  -- the number of the file
  pub number : ℕ
  -- the name leads to the file with this number
  pub there : v.names name ≡ Some number
  -- in each map that a crash may leave, no other name leads to this file
  pub alone : (map : NameMap) → IsCrashMap v map → (q : List ℕ) → map q ≡ Some number → q ≡ name
  -- if a map leads from the name to this file, the name is no staged file of the intent read by that map
  pub no_place : (map : NameMap) → IsCrashMap v map → map name ≡ Some number
      → IsStagedNameOf (intent_of (files_under_map v map)) name → ⊥

-- if there are bytes, the staged file number k is begun: its name is the only name of a file
abbrev pub IsStagedFileBegun : ℕ → Option (List ℕ) → TreeState → Type 0
IsStagedFileBegun k None v = Unit {0}
IsStagedFileBegun k (Some bytes) v = IsOnlyNameOfFile (stage_name k) v

-- If a file is staged or begun, no crash restores an intent of another change, which would count this file as one
-- of its own. `contents` are the bytes of the files that are ended; the option has those of the begun file.
abbrev pub HasNoOtherIntent : List (List ℕ) → Option (List ℕ) → TreeState → Type 0
HasNoOtherIntent contents (Some bytes) v = IsAbsentAfterEachCrash intent_name v
HasNoOtherIntent (bytes ∷ contents) None v = IsAbsentAfterEachCrash intent_name v
HasNoOtherIntent [] None v = Unit {0}

-- The files as read are `base`, which has no intent, and the staged files of a stage: for each element of `contents`
-- a synced file with these bytes, and, if `begun` has bytes, one that is begun and has these bytes so far.
pub record HasStagedContents (stage : Staging) (contents : List (List ℕ)) (begun : Option (List ℕ))
    (base : Files) (v : TreeState) : Type 0 where
  -- `contents` has as many elements as the stage counts staged files that are ended
  pub count : length contents ≡ stage.staged
  -- `base` has no intent
  pub absent : base intent_name ≡ None
  -- the files as read are `base`, with the staged files that are ended and the one that is begun
  pub reads : files_of v ≡ files_with_begun_file (1 + length contents) begun
      (files_with_staged 1 contents base)
  -- each staged file that is ended is synced; the staged files are numbered from 1
  pub synced : (k n : ℕ) → 1 ≤ k → k < 1 + length contents → v.names (stage_name k) ≡ Some n
      → (v.files n).synced ≡ true
  -- the file that is begun has no name except that of the next staged file
  pub alone : IsStagedFileBegun (1 + length contents) begun v
  -- once a file is staged or begun, no crash restores an intent
  pub gone : HasNoOtherIntent contents begun v

-- ---- the actions

-- a name that recovery still needs after the first `acted` actions of the intent: the intent's name, and, for each
-- move that is not done, the final name and the name of the staged file
abbrev pub IsStillNeeded : Intent → ℕ → List ℕ → Type 0
IsStillNeeded intent acted q =
    (q ≡ intent_name)
    ⊎ ((i : ℕ) × (acted ≤ length intent.removals + i)
    × ((slice_get intent.writes i ≡ Some q) ⊎ ((i < length intent.writes) × (q ≡ stage_name (i + 1)))))

-- no crash undoes a change of a name that recovery still needs after the first `acted` actions of the intent
abbrev pub NeededNamesAreDurable : Intent → ℕ → TreeState → Type 0
NeededNamesAreDurable intent acted v =
    (map : NameMap) → IsCrashMap v map → (q : List ℕ) → IsStillNeeded intent acted q → map q ≡ v.names q

-- in these files the first `acted` actions of the intent are done: the removed names and the moved
-- staged files are absent
pub record AreActionsDone (intent : Intent) (acted : ℕ) (files : Files) : Type 0 where
  -- each name that one of these actions removes is absent
  pub removed : (i : ℕ) (name : List ℕ) → i < acted → slice_get intent.removals i ≡ Some name
      → files name ≡ None
  -- each staged file that one of these actions moves is absent from the staging area
  pub moved : (k : ℕ) → 1 ≤ k → length intent.removals + k ≤ acted → files (stage_name k) ≡ None

-- The intent of the stage is committed: it is read, and recovery of the files as read yields `files`. The actions
-- that the stage counts as done are done, and no crash undoes a change of a name that recovery still needs.
pub record IsCarryingOutActions (stage : Staging) (files : Files) (v : TreeState) : Type 0 where
  -- the intent that is read is that of the stage
  pub located : intent_of (files_of v) ≡ Some stage.intent
  -- recovery of the files as read yields `files`
  pub reads : recovered_files (files_of v) ≡ files
  -- the actions that the stage counts as done are done
  pub done : AreActionsDone stage.intent stage.acted (files_of v)
  -- no crash undoes a change of a name that recovery still needs
  pub last : NeededNamesAreDurable stage.intent stage.acted v

-- ---- recovery

-- the files after a recovery: all actions of the intent are done, and the intent and the staged files are removed
abbrev pub unstaged_files : Files → Files
unstaged_files files q = if is_staged q then None else recovered_files files q

-- no name in the staging area has a file, in a map of names or in files
abbrev pub HasNoStagedNames : {X : Type 0} → (List ℕ → Option X) → Type 0
HasNoStagedNames files = (q : List ℕ) → is_staged q ≡ true → files q ≡ None

-- ---- moments

-- The intent's name has a file whose number is `made` or larger, so it was made after the first `made` files of the
-- tree. Recovery of the files as read yields the state of `files`.
abbrev pub HasIntentFileNumberedAtLeastForFiles : (List ℕ → Bool) → Files → ℕ → TreeState → Type 0
HasIntentFileNumberedAtLeastForFiles ignored files made v =
    (n : ℕ)
    × (v.names intent_name ≡ Some n)
    × (made ≤ n)
    × (state_of ignored (files_of v) ≡ state_of ignored files)

-- at one of these moments, the intent's name had a file made after the first `made` files of the tree, and recovery
-- of the files as read would have yielded the state of `files`
abbrev pub HasMomentOfIntentFileNumberedAtLeastForFiles : (List ℕ → Bool) → Files → ℕ → List TreeState
    → Type 0
HasMomentOfIntentFileNumberedAtLeastForFiles ignored files made [] = ⊥
HasMomentOfIntentFileNumberedAtLeastForFiles ignored files made (v ∷ earlier) =
    HasIntentFileNumberedAtLeastForFiles ignored files made v
    ⊎ HasMomentOfIntentFileNumberedAtLeastForFiles ignored files made earlier

-- A moment `v` of a run that leads to `files`; `earlier` are the moments of the run before it. A crash at `v` leaves
-- a state that a crash at `start` might have left, or the state of `files`. Until an intent of this run has been
-- under its name, a crash leaves a state that a crash at `start` might have left.
pub record IsOldUntilCommit (ignored : List ℕ → Bool) (files : Files) (start : TreeState)
    (earlier : List TreeState) (v : TreeState) : Type 0 where
  -- the tree is durable
  pub is_durable : IsDurable (StateDependsOn ignored) v
  -- each crash leaves a state that a crash at the start might have left, or that of `files`
  pub old_or_new : EachCrashLeavesOldOrNew ignored start files v
  -- if no intent of this run that leads to `files` has been under its name, each crash leaves a state that a crash at
  -- the start might have left
  pub unpublished : (HasMomentOfIntentFileNumberedAtLeastForFiles ignored files start.made (v ∷ earlier)
      → ⊥)
      → EachCrashLeavesOld ignored start v
  -- no fewer files have been made than at the start
  pub made : start.made ≤ v.made

-- A run has added moments to the history `old`, and leads to `files`. At one of these moments an intent of this run
-- was under its name, and recovery would have yielded the state of `files`.
pub record IsHistoryThatPublishesIntentForFiles (ignored : List ℕ → Bool) (files : Files)
    (start : TreeState)
    (old new : List TreeState) : Type 0 where
  -- the states that were added, the newest first
  pub added : List TreeState
  -- the new history is these states before the old history
  pub is : new ≡ added ++ old
  -- at each of them a crash leaves an old state or that of `files`, and before the commit an old one
  pub each : EachMoment (IsOldUntilCommit ignored files start) added
  -- at one of them an intent made since the start led to `files`
  pub published : HasMomentOfIntentFileNumberedAtLeastForFiles ignored files start.made added

-- ---- free paths

-- a name that is present in these files, or is that of the intent or of a staged file with any number
abbrev pub IsPresentOrOfJournal : Files → List ℕ → Type 0
IsPresentOrOfJournal files q =
    IsSome (files q) ⊎ ((q ≡ intent_name) ⊎ ((k : ℕ) × (q ≡ stage_name k)))

-- no name becomes a folder of another if an intent, and staged files with any numbers, are added to these files
pub record AreIntentAndStagedPathsFree (files : Files) : Type 0 where
  -- of two names that are present or belong to the journal, none is a folder of the other
  pub folders : (p q : List ℕ) → IsFolderOf p q → IsPresentOrOfJournal files p
      → IsPresentOrOfJournal files q → ⊥

-- these files have no staged file, and no name becomes a folder of another if an intent and staged files are added
pub record HasEmptyStageAndFreeJournalPaths (files : Files) : Type 0 where
  -- no name in the staging area has a file
  pub empty : HasNoStagedNames files
  -- no name becomes a folder of another if an intent and staged files are added
  pub beside : AreIntentAndStagedPathsFree files

-- if these files have an intent, no name becomes a folder of another if an intent and staged files are added to the
-- files that recovery yields
abbrev pub AreJournalPathsFreeAfterReplayIfAny : Files → Type 0
AreJournalPathsFreeAfterReplayIfAny files =
    IsSome (intent_of files) → AreIntentAndStagedPathsFree (recovered_files files)
