-- What the calls that stage files ensure: `begin_file`, `append_piece` and `end_file`, and `stage_bytes` and
-- `stage_pieces`, which stage a whole file. Serves the contracts of these calls. In each clause `first` is the
-- tree's history when the staging began, `v` its newest state then, and `contents` the files staged before.
-- The rules are in `docs/crash-safety.md`, "A change of several files": the lines of `file_begin`,
-- `file_append` and `file_end` in the example.
use Rattle.std.specs.Prelude.{◌≡◌, ◌+◌, ◌++◌, ◌∷◌, [], ℕ, List, Some, None, Result, OnOk}
use Rattle.base_core.specs.Faults.{Counts}
use Rattle.base_core.specs.Tree.{TreeState, files_of}
use Rattle.journal_core.specs.CallCounts.{IsResultExplainedByCounts}
use Rattle.journal_core.specs.Staged.{Staging, AreIntentAndStagedPathsFree}
use Rattle.journal_commit.specs.StageRun.{IsRunThatStagedAndBeganFiles, IsStagingRun}

-- how a call changes the tree and its counts, if before it no staged file is begun and not yet ended
pub record ChangesOnlyStagedFiles {T E : Type 0} (stage : Staging) (old now : List TreeState)
    (before after : Counts) (result : Result T E) : Type 0 where
  -- whatever is returned, only staged files have changed at each moment
  pub run : (contents : List (List ℕ)) (v : TreeState) (first : List TreeState)
      → IsRunThatStagedAndBeganFiles stage contents None v first old → IsStagingRun v first now
  -- how the tree's counts explain the result
  pub counts : IsResultExplainedByCounts before after result
  -- no call on the tree is a misuse, if the paths of the intent and of the staged files were free at the start
  pub proper : (contents : List (List ℕ)) (v : TreeState) (first : List TreeState)
      → IsRunThatStagedAndBeganFiles stage contents None v first old
      → AreIntentAndStagedPathsFree (files_of v)
      → after.misuses ≡ before.misuses

-- how a call changes the tree and its counts, if before it a staged file is begun and has the bytes `so_far`; no
-- path has to be free for the call
pub record ChangesOnlyBegunFile {T E : Type 0} (stage : Staging) (old now : List TreeState)
    (before after : Counts) (result : Result T E) : Type 0 where
  -- whatever is returned, only staged files have changed at each moment
  pub run : (contents : List (List ℕ)) (so_far : List ℕ) (v : TreeState) (first : List TreeState)
      → IsRunThatStagedAndBeganFiles stage contents (Some so_far) v first old → IsStagingRun v first now
  -- how the tree's counts explain the result
  pub counts : IsResultExplainedByCounts before after result
  -- no call on the tree is a misuse
  pub proper : (contents : List (List ℕ)) (so_far : List ℕ) (v : TreeState) (first : List TreeState)
      → IsRunThatStagedAndBeganFiles stage contents (Some so_far) v first old → after.misuses
      ≡ before.misuses

-- a call that stages one whole file with these bytes, and changes the stage from `stage` to `next`
pub record StagesFile {T E : Type 0} (stage next : Staging) (bytes : List ℕ) (old now : List TreeState)
    (before after : Counts) (result : Result T E) : Type 0 where
  -- how the call changes the tree and its counts
  pub only : ChangesOnlyStagedFiles stage old now before after result
  -- once Ok is returned, the bytes are staged after the files staged before
  pub staging : (contents : List (List ℕ)) (v : TreeState) (first : List TreeState)
      → IsRunThatStagedAndBeganFiles stage contents None v first old
      → OnOk result (IsRunThatStagedAndBeganFiles next (contents ++ bytes ∷ []) None v first now)
  -- on Ok, one more write of the stage has its staged file
  pub view : OnOk result (next ≡ record stage { staged = stage.staged + 1 })
