-- Trees in which the state has not changed since a start. The rules are in `docs/crash-safety.md`,
-- "What files stand for", the table, *quiet* and *unchanged*.
use Rattle.std.specs.Prelude.{◌≡◌, ◌≤◌, ℕ, Bool, List}
use Rattle.base_core.specs.Undone.{IsDurable, IsCrashImage}
use Rattle.base_core.specs.Files.{Files}
use Rattle.base_core.specs.Tree.{TreeState, files_of}
use Rattle.journal_core.specs.Recovery.{StateDependsOn, state_of}

-- each crash of the tree `v` leaves a state that a crash of the tree `start` might have left; ignored names do not
-- count
abbrev pub EachCrashLeavesOld : (List ℕ → Bool) → TreeState → TreeState → Type 0
EachCrashLeavesOld ignored start v =
    (image : Files) → IsCrashImage v image → (was : Files) × IsCrashImage start was
    × (state_of ignored image ≡ state_of ignored was)

-- The tree `v` is durable. Each crash of it leaves a state that a crash of `start` might have left, and the files as
-- read have the state of those of `start`. Ignored names do not count, and new files may have been made.
pub record StateIsUnchanged (ignored : List ℕ → Bool) (start v : TreeState) : Type 0 where
  -- the tree is durable
  pub is_durable : IsDurable (StateDependsOn ignored) v
  -- each crash leaves a state that a crash at the start might have left
  pub quiet : EachCrashLeavesOld ignored start v
  -- the state of the files as read is that at the start
  pub reads : state_of ignored (files_of v) ≡ state_of ignored (files_of start)
  -- `v` counts at least as many files made as `start`
  pub made : start.made ≤ v.made
