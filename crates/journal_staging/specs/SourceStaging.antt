-- What the calls that stage the file of one write ensure: `stage_file`, `stage_packaged` and
-- `stage_write`; and how the tree's counts explain their results, and that of `stage_each`. Serves the
-- contracts of these calls. The rules are in `docs/crash-safety.md`, "A change of several files" and
-- "Misuses, faults and counts".
use Rattle.std.specs.Prelude.{◌≡◌, ◌+◌, ◌++◌, ◌∷◌, [], ℕ, List, None, Result, IfErr, IsErrOf, OnOk}
use Rattle.base_core.specs.Faults.{Counts, CountsOnlyRise, CountsNewFaultWithCause, CountsNoNewFaultOrLackOfMemory}
use Rattle.base_core.specs.Files.{Files}
use Rattle.base_core.specs.Tree.{TreeState, files_of}
use Rattle.journal_commit.specs.StageRun.{IsRunThatStagedAndBeganFiles, IsStagingRun}
use Rattle.journal_commit.specs.journal_core.Staged.{Staging, AreIntentAndStagedPathsFree}

-- how the tree's counts before a call (`before`) and after it (`now`) explain its result, whose error `failed`
-- reports a fault of the tree
pub record IsFaultExplainedByCounts {T F : Type 0} (failed : F) (before now : Counts)
    (result : Result T F) : Type 0 where
  -- no count falls
  pub goes_on : CountsOnlyRise before now
  -- the error `failed` is returned only if a fault was counted, with its cause
  pub disk : IsErrOf result failed → CountsNewFaultWithCause before now
  -- Ok is returned only if no fault was counted
  pub kept : OnOk result (CountsNoNewFaultOrLackOfMemory before now)
  -- another error than `failed` is returned only if no fault was counted
  pub others : IfErr result (λ fault. (fault ≡ failed → ⊥) → CountsNoNewFaultOrLackOfMemory before now)

-- A call that stages the file of one write, and changes the stage from `stage` to `next`. `Denotes` says which bytes
-- the write's source denotes over some files. `first` is the tree's history when the staging began, `v` its newest
-- state then, and `contents` are the bytes of the files staged before. `failed` is the error for a fault of the tree.
pub record StagesSource {T F : Type 0} (stage next : Staging) (Denotes : Files → List ℕ → Type 0)
    (failed : F) (old now : List TreeState) (before after : Counts) (result : Result T F) : Type 0 where
  -- whatever bytes the source has, and whatever the call returns, only staged files have changed at
  -- each moment
  pub run : (contents : List (List ℕ)) (v : TreeState) (first : List TreeState)
      → IsRunThatStagedAndBeganFiles stage contents None v first old → IsStagingRun v first now
  -- if the source denotes bytes: on Ok these are staged, after the files staged before
  pub staging : (contents : List (List ℕ)) (v : TreeState) (first : List TreeState) (bytes : List ℕ)
      → IsRunThatStagedAndBeganFiles stage contents None v first old → Denotes (files_of v) bytes
      → OnOk result (IsRunThatStagedAndBeganFiles next (contents ++ bytes ∷ []) None v first now)
  -- if the source denotes bytes, the only possible error is that of the tree
  pub good : (contents : List (List ℕ)) (v : TreeState) (first : List TreeState) (bytes : List ℕ)
      → IsRunThatStagedAndBeganFiles stage contents None v first old → Denotes (files_of v) bytes
      → IfErr result (λ fault. fault ≡ failed)
  -- on Ok, one more write of the stage has its staged file
  pub view : OnOk result (next ≡ record stage { staged = stage.staged + 1 })
  -- how the tree's counts explain the result
  pub counts : IsFaultExplainedByCounts failed before after result
  -- no call is a misuse, if the source denotes bytes, and the paths of the intent and of the staged files are free
  pub proper : (contents : List (List ℕ)) (v : TreeState) (first : List TreeState) (bytes : List ℕ)
      → IsRunThatStagedAndBeganFiles stage contents None v first old → Denotes (files_of v) bytes
      → AreIntentAndStagedPathsFree (files_of v) → after.misuses ≡ before.misuses
