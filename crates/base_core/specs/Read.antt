-- What a call that only reads a tree ensures: the tree is unchanged, as `docs/crash-safety.md`,
-- "Misuses, faults and counts", says of the commands that only read.
use Rattle.std.specs.Prelude.{◌≡◌, ◌++◌, ℕ, List, length, take, drop, Option, IfSome, Result, OnOk, IfErr, IsErrOf, Vec}
use Rattle.std.specs.Option.{option_map}
use Rattle.std.specs.declared.alloc.Global.{Global}
use Rattle.base_core.specs.Calls.{IfObservable}
use Rattle.base_core.specs.Faults.{Counts, CountsOnlyRise, CountsNewFaultWithCause, CountsNoNewFaultOrLackOfMemory}
use Rattle.base_core.specs.Tree.{TreeState, files_of}

-- the bytes that `read_all` returned, as a list; None if it found no file
abbrev pub bytes_in : Option (Vec ℕ Global) → Option (List ℕ)
bytes_in found = option_map (λ bytes. bytes.items) found

-- `now` are the bytes `before`, followed by `len` read bytes. If the history of the tree is observable, the read bytes
-- are those of the file under the name from the offset `at` on
pub record AppendsReadBytes (history : List TreeState) (name : List ℕ) (at len : ℕ)
    (before now : List ℕ) : Type 0 where
  -- what was read
  pub read : List ℕ
  -- the read bytes follow the bytes `before`
  pub behind : now ≡ before ++ read
  -- as many bytes as asked for were read
  pub long : length read ≡ len
  -- if the history is observable, the read bytes are those of the file from the offset `at` on
  pub told : IfObservable history
      (λ v. IfSome (files_of v name) (λ file. read ≡ take len (drop at file)))

-- a call only reads a tree, which changes its history from `old` to `new` and its counts from `before` to `now`.
-- `disk_fault` is the error that the call returns if the tree failed
pub record OnlyReads {A E : Type 0} (disk_fault : E) (old new : List TreeState)
    (before now : Counts)
    (result : Result A E) : Type 0 where
  -- the history is unchanged
  pub same : new ≡ old
  -- no count falls
  pub goes_on : CountsOnlyRise before now
  -- the error `disk_fault` is returned only if a fault with its cause was counted
  pub disk : IsErrOf result disk_fault → CountsNewFaultWithCause before now
  -- a success adds neither a fault nor a lack of memory
  pub kept : OnOk result (CountsNoNewFaultOrLackOfMemory before now)
  -- an error other than `disk_fault` adds neither a fault nor a lack of memory
  pub others : IfErr result (λ fault. (fault ≡ disk_fault → ⊥) → CountsNoNewFaultOrLackOfMemory before now)
  -- if the history is observable, no call was a misuse
  pub proper : IfObservable old (λ v. now.misuses ≡ before.misuses)
