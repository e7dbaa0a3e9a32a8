-- What a call of a stage keeps: the files under other names, and the durable changes of names.
-- The rules are in `docs/crash-safety.md`, "A change of several files", the list of what is proved, and
-- in "Recovery".
use Rattle.std.specs.Prelude.{◌≡◌, ◌≢◌, ◌⊎◌, ℕ, ◌+◌, true, false, List, [], length, None, Some, slice_get}
use Rattle.base_core.specs.Crash.{Since}
use Rattle.base_core.specs.Files.{Files, NameMap}
use Rattle.base_core.specs.Tree.{TreeState, files_of}
use Rattle.base_core.specs.Undone.{IsCrashMap}
use Rattle.journal_core.specs.Recovery.{Intent, intent_name, is_staged, recovered_files, stage_name}
use Rattle.journal_intent.specs.FreeNames.{IsNoneOf}

-- ---- the files as read: the files that calls on the tree return now, without a crash

-- the files as read are the same in `v` as in `start`, under each name except those of which `these` holds
abbrev pub KeepsFilesExcept : (List ℕ → Type 0) → TreeState → TreeState → Type 0
KeepsFilesExcept these start v = (q : List ℕ) → (these q → ⊥) → files_of v q ≡ files_of start q

-- `q` is a name that the next action of the intent changes, if its first `acted` actions are done: the name to be
-- removed; or the name to be written, or that of the staged file
abbrev pub IsNameOfNextAction : Intent → ℕ → List ℕ → Type 0
IsNameOfNextAction intent acted q =
    (slice_get intent.removals acted ≡ Some q)
    ⊎ ((i : ℕ) × (acted ≡ length intent.removals + i)
    × ((slice_get intent.writes i ≡ Some q) ⊎ (q ≡ stage_name (i + 1))))

-- recovery of the files as read yields these files
abbrev pub RecoversTo : Files → TreeState → Type 0
RecoversTo files v = recovered_files (files_of v) ≡ files

-- a name of the journal: the intent's, or one in the staging area
abbrev pub IsJournalName : List ℕ → Type 0
IsJournalName name = (name ≡ intent_name) ⊎ (is_staged name ≡ true)

-- in the files as read, the intent and each file in the staging area are as they were in `start`, or are gone
abbrev pub JournalOnlyShrinks : TreeState → TreeState → Type 0
JournalOnlyShrinks start v = (q : List ℕ) → IsJournalName q
    → (files_of v q ≡ None) ⊎ (files_of v q ≡ files_of start q)

-- each name outside the journal has, as read, the bytes that it has in the files `old`, or those in the files `new`
abbrev pub ReadsOldOrNewBytesOutsideJournal : Files → Files → TreeState → Type 0
ReadsOldOrNewBytesOutsideJournal old new v =
    (q : List ℕ) → (IsJournalName q → ⊥) → (files_of v q ≡ old q) ⊎ (files_of v q ≡ new q)

-- At each moment added to the history `old`, each name outside the journal has the bytes of `base` or those of
-- `files`. Here `base` are any files for which this held at the start `v`.
abbrev pub KeepsOldOrNewBytes : Files → TreeState → List TreeState → List TreeState → Type 0
KeepsOldOrNewBytes files v old new =
    (base : Files) → ReadsOldOrNewBytesOutsideJournal base files v
    → Since (ReadsOldOrNewBytesOutsideJournal base files) old new

-- the intent's name leads to the same file as in `start`, and each staged file is unchanged or gone
pub record KeepsIntentWhileStageShrinks (start v : TreeState) : Type 0 where
  -- the intent's name leads to the same file as at the start
  pub intent : v.names intent_name ≡ start.names intent_name
  -- in the files as read, the intent and each file in the staging area are unchanged or gone
  pub waiting : JournalOnlyShrinks start v

-- ---- the maps of names

-- in each map of names that a crash may leave, each name except `these` leads to the same file as in the newest map;
-- so no crash undoes a change of such a name
abbrev pub NamesAreDurableExcept : List (List ℕ) → TreeState → Type 0
NamesAreDurableExcept these v =
    (map : NameMap) → IsCrashMap v map → (q : List ℕ) → IsNoneOf q these → map q ≡ v.names q

-- in each map of names that a crash may leave, each name except the intent's and those in the staging area leads to
-- the same file as in the newest map; so no crash undoes a change of such a name
abbrev pub NamesOutsideJournalAreDurable : TreeState → Type 0
NamesOutsideJournalAreDurable v = (map : NameMap) → IsCrashMap v map → (q : List ℕ) → q ≢ intent_name
    → is_staged q ≡ false → map q ≡ v.names q

-- In each map of names that a crash may leave, each name except `these`, the intent's and those in the staging area
-- leads to the same file as in the newest map. So no crash undoes a change of such a name.
abbrev pub NamesOutsideJournalAreDurableExcept : List (List ℕ) → TreeState → Type 0
NamesOutsideJournalAreDurableExcept these v = (map : NameMap) → IsCrashMap v map → (q : List ℕ)
    → IsNoneOf q these
    → q ≢ intent_name → is_staged q ≡ false → map q ≡ v.names q

-- in no map of names that a crash may leave the name leads to a file
abbrev pub IsAbsentAfterEachCrash : List ℕ → TreeState → Type 0
IsAbsentAfterEachCrash name v = (map : NameMap) → IsCrashMap v map → map name ≡ None

-- each map of names that a crash of `v` may leave agrees, except for the names `these`, with one that a crash of
-- `start` might have left
abbrev pub KeepsCrashMapsExcept : List (List ℕ) → TreeState → TreeState → Type 0
KeepsCrashMapsExcept these start v = (map : NameMap) → IsCrashMap v map
    → (was : NameMap) × IsCrashMap start was × ((q : List ℕ) → IsNoneOf q these → map q ≡ was q)

-- the tree has no older map of names, so no crash undoes a change of names; and the file under this name, if there
-- is one, is synced
pub record IsSyncedAt (name : List ℕ) (v : TreeState) : Type 0 where
  -- there is no older map of names
  pub one_map : v.older ≡ []
  -- the file under the name, if there is one, is synced
  pub file : (n : ℕ) → v.names name ≡ Some n → (v.files n).synced ≡ true
