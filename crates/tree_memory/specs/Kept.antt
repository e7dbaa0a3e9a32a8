-- What a store has besides its record of changes: the names and the files after all changes. The invariant
-- of `Store` uses *IsConsistentStore*, and the contract of `put` uses *CanPut*. `docs/crash-safety.md`, "A tree
-- at one moment", says when a state is sound.
use Rattle.std.specs.Prelude.{◌≡◌, ℕ, true, false, List, [], ◌∷◌, length, slice_index_or, All}
use Rattle.base_core.specs.Files.{NameMap, put_name, AreNames, AreFileBytes, HasNoFileAsFolder}
use Rattle.base_core.specs.Tree.{TreeState, IsCurrentOrOlderMap}
use Rattle.tree_memory.specs.Changes.{contents_of, synced_flags, empty_state, state_after_changes, earlier_states, can_record_changes}
use Rattle.tree_memory.specs.Table.{lookup}
use Rattle.tree_memory.specs.declared.store.Change.{Change}
use Rattle.tree_memory.specs.declared.store.Stored.{Stored}
use Rattle.tree_memory.specs.declared.table.NameAndFile.{NameAndFile}

-- a table of names and a list of files, by their numbers, are the names and the files of the state `v`
pub record HoldsState (v : TreeState) (entries : List NameAndFile) (files : List Stored) : Type 0 where
  -- each name leads in the state to the file number that the table has for it
  pub names : (q : List ℕ) → v.names q ≡ lookup entries q
  -- the state has as many made files as the list
  pub made : v.made ≡ length files
  -- file n has the bytes of entry n of the list, and no bytes beyond the list
  pub bytes : (n : ℕ) → (v.files n).bytes ≡ slice_index_or (contents_of files) n []
  -- file n is synced exactly if entry n of the list is
  pub synced : (n : ℕ) → (v.files n).synced ≡ slice_index_or (synced_flags files) n false

-- a state is sound: in each map of names, the current one and the older ones, no name is a folder
-- of another and each is a name; and each file has bytes that a file may have
pub record IsSoundState (v : TreeState) : Type 0 where
  -- in no map of names is one name a folder of another
  pub folders : (map : NameMap) → IsCurrentOrOlderMap v map → HasNoFileAsFolder map
  -- in each map of names each name is a valid name
  pub named : (map : NameMap) → IsCurrentOrOlderMap v map → AreNames map
  -- each file has bytes that a file may have
  pub bytes : (n : ℕ) → AreFileBytes (v.files n).bytes

-- the invariant of a store: its changes can be recorded one after the other, its table of names and its files
-- are those of the state after all changes, and each state so far is sound
pub record IsConsistentStore (changes : List Change) (entries : List NameAndFile)
    (files : List Stored) : Type 0 where
  -- each change may be recorded at the state to which the changes before it lead
  pub recorded : can_record_changes (contents_of files) empty_state changes ≡ true
  -- the table and the files are those of the state after all changes
  pub kept : HoldsState (state_after_changes (contents_of files) empty_state changes) entries files
  -- each state so far is sound, the newest one included
  pub sound : All IsSoundState (state_after_changes (contents_of files) empty_state changes ∷ earlier_states
      (contents_of files) empty_state [] changes)

-- a file may be put under this name in the state `v`: no present name becomes a folder of another
pub record CanPut (name : List ℕ) (v : TreeState) : Type 0 where
  -- after the put no name is a folder of another
  pub folders : HasNoFileAsFolder (put_name v.names name v.made)
