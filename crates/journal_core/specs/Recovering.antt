-- How a recovery changes the tree, and which fault it returns for a failed read or a failed call.
-- The rules are in `docs/crash-safety.md`, "Recovery". It serves the contracts of `journal_recovery`.
use Rattle.std.specs.Prelude.{◌≡◌, ℕ, true, if◌then◌else◌, List, Option, None, All}
use Rattle.std.specs.List.{list_any}
use Rattle.std.specs.Str.{bytes_eq}
use Rattle.journal_intent.specs.adb_schema.declared.read.ReadFault.{ReadFault}
use Rattle.journal_intent.specs.adb_schema.declared.read.ReadFault.TheVariants.{Bad, Memory as NoMemoryToRead}
use Rattle.base_core.specs.Tree.{TreeState, files_of}
use Rattle.base_core.specs.declared.tree.TreeFault.{TreeFault}
use Rattle.base_core.specs.declared.tree.TreeFault.TheVariants.{Disk as TreeFailed, Memory as NoMemory}
use Rattle.journal_core.specs.declared.fault.RecoverFault.{RecoverFault}
use Rattle.journal_core.specs.declared.fault.RecoverFault.TheVariants.{Disk, IntentBad, Memory}
use Rattle.journal_core.specs.Recovery.{recovered_files, intent_name, is_staged}

-- the fault that a recovery returns if the read of the intent failed with this fault
abbrev pub recover_fault_of : ReadFault → RecoverFault
recover_fault_of (Bad cause) = IntentBad cause
recover_fault_of NoMemoryToRead = Memory

-- the fault that a recovery returns if a call on the tree failed with this fault
abbrev pub recover_fault_of_tree : TreeFault → RecoverFault
recover_fault_of_tree TreeFailed = Disk
recover_fault_of_tree NoMemory = Memory

-- a moment `v` after the intent of the tree `start` was carried out: the files as read are those that recovery of
-- the files of `start` yields, and no intent is read
pub record IsIntentReplayed (start v : TreeState) : Type 0 where
  -- the files as read are those that recovery yields
  pub reads : files_of v ≡ recovered_files (files_of start)
  -- no intent is read
  pub absent : v.names intent_name ≡ None

-- a map, or files, without the staged files: no name in the staging area has an entry
abbrev pub without_staged_names : {X : Type 0} → (List ℕ → Option X) → List ℕ → Option X
without_staged_names map q = if is_staged q then None else map q

-- each of these names is in the staging area
abbrev pub AreStagedNames : List (List ℕ) → Type 0
AreStagedNames names = All (λ name. is_staged name ≡ true) names

-- the tree `v` is the tree `start` without these names: none of them leads to a file, and each other name leads to
-- the same file. No file has changed
pub record HasRemovedNames (names : List (List ℕ)) (start v : TreeState) : Type 0 where
  -- none of the names leads to a file, and each other name leads to the same file as in `start`
  pub map : (q : List ℕ) → v.names q
      ≡ (if list_any (bytes_eq q) names then None else start.names q)
  -- no file's bytes have changed, nor whether it is synced
  pub files : v.files ≡ start.files

-- the tree `v` is the tree `start` without staged files: no name in the staging area leads to a file. No file has
-- changed
pub record HasEmptiedStage (start v : TreeState) : Type 0 where
  -- no name in the staging area leads to a file, and each other name leads to the same file as in `start`
  pub map : (q : List ℕ) → v.names q ≡ without_staged_names start.names q
  -- no file's bytes have changed, nor whether it is synced
  pub files : v.files ≡ start.files
