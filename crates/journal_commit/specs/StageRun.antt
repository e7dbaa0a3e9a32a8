-- What a change does to a tree in which no intent is read: its files are staged, the intent is
-- published (committed), and all its actions are done. The rules are in `docs/crash-safety.md`, "A
-- change of several files": what is proved of the whole.
use Rattle.std.specs.Prelude.{◌≡◌, ◌⊎◌, ℕ, Bool, false, List, Option, None, IsSome}
use Rattle.base_core.specs.Calls.{HoldsNow}
use Rattle.base_core.specs.Crash.{Since}
use Rattle.base_core.specs.Undone.{IsDurable}
use Rattle.base_core.specs.Files.{Files}
use Rattle.base_core.specs.Restart.{SinceGivenEarlierAddedMoments}
use Rattle.base_core.specs.Tree.{TreeState, files_of}
use Rattle.journal_core.specs.Kept.{ReadsOldOrNewBytesOutsideJournal, IsAbsentAfterEachCrash, NamesOutsideJournalAreDurable}
use Rattle.journal_core.specs.Quiet.{StateIsUnchanged}
use Rattle.journal_core.specs.Recovery.{EachCrashLeavesStateOf, StateDependsOn, intent_name, is_staged}
use Rattle.journal_core.specs.Staged.{HasNoStagedNames, IsOldUntilCommit, HasStagedContents, Staging, unstaged_files}

-- ---- what is read

-- the files as read are `files`, except for names in the staging area
abbrev pub HasSameFilesExceptStaged : Files → TreeState → Type 0
HasSameFilesExceptStaged files w = (q : List ℕ) → is_staged q ≡ false → files_of w q ≡ files q

-- an intent is under its name, and a recovery leaves the new files; each name outside the staging
-- area has its old bytes or its new ones
pub record RecoversToNewByIntentFromOld (new old : Files) (w : TreeState) : Type 0 where
  -- the name of the intent leads to a file
  pub intent : IsSome (w.names intent_name)
  -- recovery of the files as read leaves the new files
  pub leads : unstaged_files (files_of w) ≡ new
  -- each name outside the staging area has its old bytes or its new ones
  pub bytes : ReadsOldOrNewBytesOutsideJournal old new w

-- the files as read are the old ones, except for staged files; or an intent is read, and recovery leaves the new
-- files; or the files as read are the new ones
abbrev pub IsStateDuringChangeToNewFromOld : Files → Files → TreeState → Type 0
IsStateDuringChangeToNewFromOld new old w =
    HasSameFilesExceptStaged old w ⊎ (RecoversToNewByIntentFromOld new old w ⊎ (files_of w ≡ new))

-- if no intent is read, no crash undoes a change of a name outside the staging area (and other than the intent's)
abbrev pub NamesOutsideJournalAreDurableIfNoIntent : TreeState → Type 0
NamesOutsideJournalAreDurableIfNoIntent w = w.names intent_name ≡ None → NamesOutsideJournalAreDurable w

-- ---- a change

-- What holds at each moment of a change that leads to `files`. The change begins at the tree `v`, the newest state of
-- the history `old`; `now` is the history since.
pub record IsRunOfStagedChange (files : Files) (v : TreeState) (old now : List TreeState) : Type 0 where
  -- If the tree `v` is durable, each later moment is durable, and a crash at it leaves a state from before or that
  -- of the files. Until an intent of this change has been under its name, a crash leaves a state from before.
  pub moments : (ignored : List ℕ → Bool) → IsDurable (StateDependsOn ignored) v
      → SinceGivenEarlierAddedMoments (IsOldUntilCommit ignored files v) old now
  -- at each moment the files as read are the old ones, except for staged files; or recovery by an intent leaves the
  -- new ones; or they are the new ones
  pub reads : Since (IsStateDuringChangeToNewFromOld files (files_of v)) old now
  -- if at the start no crash could undo a change of a name outside the journal, the same holds at each moment at
  -- which no intent is read
  pub last : NamesOutsideJournalAreDurable v → Since NamesOutsideJournalAreDurableIfNoIntent old now

-- A change that leads to `files` is complete in the newest state of the history `now`; it began at the tree `v`. No
-- intent is read, and no crash restores one, or undoes a change of a name outside the journal.
pub record IsStagedChangeComplete (files : Files) (v : TreeState) (now : List TreeState) : Type 0 where
  -- the files as read are the new ones, and no intent is read
  pub reads : HoldsNow now (λ w. (files_of w ≡ files) × (w.names intent_name ≡ None))
  -- if the tree was durable at the start, each crash leaves the state of the new files
  pub settled : (ignored : List ℕ → Bool) → IsDurable (StateDependsOn ignored) v
      → HoldsNow now (EachCrashLeavesStateOf ignored files)
  -- no crash undoes a change of a name outside the journal
  pub last : HoldsNow now NamesOutsideJournalAreDurable
  -- no crash restores the intent
  pub gone : HoldsNow now (IsAbsentAfterEachCrash intent_name)

-- ---- the staging of files, the first part of a change

-- A run that only stages files. It begins at the tree `v`, the newest state of the history `old`; `now` is the
-- history since.
pub record IsStagingRun (v : TreeState) (old now : List TreeState) : Type 0 where
  -- from a durable tree on, each moment is durable and has the same state
  pub moments : (ignored : List ℕ → Bool) → IsDurable (StateDependsOn ignored) v
      → Since (StateIsUnchanged ignored v) old now
  -- at each moment the files as read are those of `v`, except for staged files
  pub reads : Since (HasSameFilesExceptStaged (files_of v)) old now
  -- if at the start no crash could undo a change of a name outside the journal, none can at any moment
  pub last : NamesOutsideJournalAreDurable v → Since NamesOutsideJournalAreDurable old now

-- A staging run that began at the tree `v` with an empty staging area. Now there is a staged file for each element of
-- `contents`, with these bytes, and, if `begun` has bytes, a further one with these, which is not yet ended.
pub record IsRunThatStagedAndBeganFiles (stage : Staging) (contents : List (List ℕ))
    (begun : Option (List ℕ))
    (v : TreeState) (old now : List TreeState) : Type 0 where
  -- `v` is the newest state at the start of staging
  pub start : HoldsNow old (λ w. w ≡ v)
  -- nothing was staged then
  pub empty : HasNoStagedNames (files_of v)
  -- the moments since then are those of a staging run
  pub run : IsStagingRun v old now
  -- the newest state has the staged files
  pub waiting : HoldsNow now (HasStagedContents stage contents begun (files_of v))
