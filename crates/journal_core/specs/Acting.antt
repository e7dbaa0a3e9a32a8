-- What holds while the actions of a stage are done, one after another.
-- The rules are in `docs/crash-safety.md`, "A change of several files". Serves the contracts of
-- `acting`, and those of `publishing`.
use Rattle.std.specs.Prelude.{◌≡◌, ◌⊎◌, ◌<◌, ◌+◌, ◌^◌, ℕ, Bool, true, false, List, ◌∷◌, length, None, Result, OnOk, OnErr}
use Rattle.base_core.specs.Calls.{IfObservable}
use Rattle.base_core.specs.Crash.{Since}
use Rattle.base_core.specs.Files.{Files}
use Rattle.base_core.specs.Tree.{TreeState, after_rename}
use Rattle.base_core.specs.Undone.{IsDurable}
use Rattle.journal_core.specs.Kept.{KeepsOldOrNewBytes, RecoversTo}
use Rattle.journal_core.specs.Quiet.{StateIsUnchanged}
use Rattle.journal_core.specs.Recovery.{Intent, StateDependsOn, stage_name}
use Rattle.journal_core.specs.Staged.{Staging, IsCarryingOutActions}

-- a stage with this intent, which is committed, and of whose actions the first `acted` are done
abbrev pub stage_with_actions_done : Intent → ℕ → Staging
stage_with_actions_done intent acted = record {
  intent = intent;
  staged = 0;
  is_open = false;
  published = true;
  acted = acted;
}

-- a stage with this intent, all of whose files are staged
abbrev pub fully_staged_stage : Intent → Staging
fully_staged_stage intent = record {
  intent = intent;
  staged = length intent.writes;
  is_open = false;
  published = false;
  acted = 0;
}

-- How a call that moves the staged file under the name `place` to `name` changes the tree. Nothing changes if there
-- is no such file. After an error the file may have been moved, or not.
pub record MovesIfPresent {T E : Type 0} (place name : List ℕ) (old new : List TreeState)
    (result : Result T E) : Type 0 where
  -- on Ok, nothing changed because no file was under `place`, or the file was moved
  pub ok : OnOk result (IfObservable old (λ v.
      ((v.names place ≡ None) × (new ≡ old)) ⊎ (new ≡ after_rename place name v ∷ old)))
  -- on an error nothing changed, or the file was moved
  pub err : OnErr result (IfObservable old (λ v.
      (new ≡ old) ⊎ (new ≡ after_rename place name v ∷ old)))

-- the name is that of the staged file of the stage's next write; its number has at most 64 bits
pub record IsNextStagedName (name : List ℕ) (stage : Staging) : Type 0 where
  -- the number of the staged file is one more than that of the last one
  pub is : name ≡ stage_name (stage.staged + 1)
  -- this number has at most 64 bits
  pub few : stage.staged + 1 < 2 ^ 64

-- a moment `v` while the actions are done: the state is unchanged since the moment `start`, and the first actions of
-- the stage are done, as many as it counts
pub record IsDuringActions (ignored : List ℕ → Bool) (files : Files) (stage : Staging)
    (start v : TreeState) : Type 0 where
  -- the state of files is the one at the start
  pub is_unchanged : StateIsUnchanged ignored start v
  -- the intent is committed and leads to `files`, and as many of its actions are done as the stage counts
  pub acting : IsCarryingOutActions stage files v

-- what a call that does actions of a stage preserves, if the actions that the stage counts as done
-- are done in the tree at the start
pub record CarriesOutActions (stage : Staging) (old now : List TreeState) : Type 0 where
  -- from a durable tree on, each moment is durable, and the state is unchanged
  pub moments : IfObservable old (λ v. (ignored : List ℕ → Bool) (files : Files)
      → IsDurable (StateDependsOn ignored) v → IsCarryingOutActions stage files v
      → Since (StateIsUnchanged ignored v) old now)
  -- whether the tree is durable or not, recovery of the files as read yields the same at each moment
  pub reads : IfObservable old (λ v. (files : Files) → IsCarryingOutActions stage files v
      → Since (RecoversTo files) old now)
  -- at each moment a name outside the staging area has its old bytes or its new ones
  pub bytes : IfObservable old (λ v. (files : Files) → IsCarryingOutActions stage files v
      → KeepsOldOrNewBytes files v old now)
