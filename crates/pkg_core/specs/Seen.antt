-- Which bytes of a file were read, and the effect of reads on the tree. The result of a read of a tree is
-- defined in `docs/crash-safety.md`, "What each call does". That the tests depend only on bytes that were
-- read is stated in `docs/formats.md`, "The other blocks", point 1 of the last list (the front).
use Rattle.std.specs.Prelude.{◌≡◌, ◌≤◌, ℕ, ◌+◌, List, length, take, drop, Some, IfSome, Result, OnOk, IfErr, IsErrOf}
use Rattle.base_core.specs.Calls.{IfObservable}
use Rattle.base_core.specs.Faults.{Counts, CountsOnlyRise, CountsNewFaultWithCause, CountsNoNewFaultOrLackOfMemory}
use Rattle.base_core.specs.Tree.{TreeState, files_of}
use Rattle.base_core.specs.declared.tree.Disk.{Disk}

-- the file has these bytes from the offset `at` on
abbrev pub HasBytesAtOffset : List ℕ → ℕ → List ℕ → Type 0
HasBytesAtOffset file at bytes = take (length bytes) (drop at file) ≡ bytes

-- a read of the file under this name, from the offset `at` on, returned these bytes. If the tree is
-- observable, and its file has the length `len`, the file has these bytes there
abbrev pub AreBytesRead : List TreeState → List ℕ → ℕ → ℕ → List ℕ → Type 0
AreBytesRead history name len at bytes =
    IfObservable history
    (λ v. IfSome (files_of v name) (λ file. length file ≡ len → HasBytesAtOffset file at bytes))

-- a read from the offset `at` on returned these bytes, and they end within a file of the length `len`
pub record IsSeenIn (history : List TreeState) (name : List ℕ) (len at : ℕ)
    (bytes : List ℕ) : Type 0 where
  -- the read returned these bytes
  pub seen : AreBytesRead history name len at bytes
  -- they end within the length
  pub within : at + length bytes ≤ len

-- the file under this name exists and has this length
pub record IsFileOfLength (name : List ℕ) (len : ℕ) (v : TreeState) : Type 0 where
  -- the bytes of the file
  pub file : List ℕ
  -- the tree has them under the name
  pub present : files_of v name ≡ Some file
  -- they have this length
  pub long : length file ≡ len

-- the fault of a failed call of a tree, which has one value only
abbrev pub tree_fault : Disk
tree_fault = record {}

-- a call that only reads the tree, and is no misuse if the file under the name has this length.
-- `disk_fault` is the error of the call if the tree failed; `before` and `now` are the counts of the tree
-- before and after the call
pub record ReadsFile {A E : Type 0} (name : List ℕ) (len : ℕ) (disk_fault : E)
    (old new : List TreeState) (before now : Counts) (result : Result A E) : Type 0 where
  -- the history of the tree is unchanged
  pub same : new ≡ old
  -- no count falls
  pub goes_on : CountsOnlyRise before now
  -- the call reports a failure of the tree only if a call on the tree failed, and its cause was counted
  pub disk : IsErrOf result disk_fault → CountsNewFaultWithCause before now
  -- a result that is no failure of the tree raised neither the count of faults nor that of memory faults
  pub kept : OnOk result (CountsNoNewFaultOrLackOfMemory before now)
  -- an error that is no failure of the tree raised neither of these counts
  pub others : IfErr result (λ fault. (fault ≡ disk_fault → ⊥) → CountsNoNewFaultOrLackOfMemory before now)
  -- the call is no misuse if the file under the name has this length
  pub proper : IfObservable old (λ v. IsFileOfLength name len v → now.misuses ≡ before.misuses)
