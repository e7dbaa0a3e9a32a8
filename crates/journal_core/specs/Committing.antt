-- How an intent is written as the staged file 0 and moved to its name, which commits it.
-- The rules are in `docs/crash-safety.md`, "A change of several files": the lines of `publish` in the
-- example. Serves the contracts of `publishing`, and that of `Stage::publish`.
use Rattle.std.specs.Prelude.{◌≡◌, ◌≢◌, ◌⊎◌, ◌≤◌, ◌<◌, ℕ, ◌+◌, ◌^◌, Bool, true, List, ◌∷◌, [], Some, None, IsSome, Result, OnOk, length}
use Rattle.base_core.specs.Calls.{HoldsNow, IfObservable}
use Rattle.base_core.specs.Crash.{Since}
use Rattle.base_core.specs.Files.{Files}
use Rattle.base_core.specs.Restart.{SinceGivenEarlierAddedMoments}
use Rattle.base_core.specs.Tree.{TreeState, File, files_of}
use Rattle.base_core.specs.Undone.{IsDurable}
use Rattle.journal_core.specs.Filling.{synced_file}
use Rattle.journal_core.specs.Kept.{KeepsCrashMapsExcept, KeepsFilesExcept, NamesAreDurableExcept, RecoversTo}
use Rattle.journal_core.specs.Recovery.{Intent, EachCrashLeavesOldOrNew, EachCrashLeavesStateOf, StateDependsOn, files_after_actions, intent_name, read_intent, stage_name}
use Rattle.journal_intent.specs.FreeNames.{HasFreeNamesAndUnrepeatedWrites}
use Rattle.journal_core.specs.Quiet.{EachCrashLeavesOld}
use Rattle.journal_core.specs.Staged.{Staging, IsHistoryThatPublishesIntentForFiles, HasIntentFileNumberedAtLeastForFiles, IsOldUntilCommit, HasStagedContents}

-- the tree `v` differs from `start` only by a file under the name `place`, which was absent in `start`; the file was
-- made since
pub record HasOnlyAddedFile (place : List ℕ) (file : File) (start v : TreeState) : Type 0 where
  -- the name was absent
  pub absent : start.names place ≡ None
  -- the number of the new file, in the order in which files are made
  pub number : ℕ
  -- the file was made since
  pub later : start.made ≤ number
  -- the name leads to this file
  pub there : v.names place ≡ Some number
  -- the file has these bytes, and is synced or not as `file` says
  pub holds : v.files number ≡ file
  -- every other name leads to the same file as in `start`
  pub names : (q : List ℕ) → q ≢ place → v.names q ≡ start.names q
  -- the file of every other name is unchanged
  pub kept : (q : List ℕ) (n : ℕ) → q ≢ place → v.names q ≡ Some n → v.files n ≡ start.files n

-- A moment `v` before the publishing, at which all files are staged: the intent as number 0, and the files of its
-- writes from number 1 on. `base` are the files as read without the staged intent, and `made` is how many files had
-- been made before the staged intent was.
pub record IsReadyToPublish (intent : Intent) (base : Files) (made : ℕ) (v : TreeState) : Type 0 where
  -- no intent is under its name
  pub absent : v.names intent_name ≡ None
  -- `base` has no file under the name of the staged intent
  pub no_staged_intent : base (stage_name 0) ≡ None
  -- under each other name, the files as read are those of `base`
  pub reads : (q : List ℕ) → q ≢ stage_name 0 → files_of v q ≡ base q
  -- these bytes encode the intent
  pub bytes : List ℕ
  -- the bytes are read as this intent
  pub spells : read_intent bytes ≡ Some intent
  -- the number of the staged intent's file, in the order in which files are made
  pub number : ℕ
  -- the file was made after the first `made` files
  pub later : made ≤ number
  -- the name of the staged intent leads to this file
  pub there : v.names (stage_name 0) ≡ Some number
  -- the file has exactly these bytes, and is synced
  pub holds : v.files number ≡ synced_file bytes
  -- the staged file of each write is synced; the writes are numbered from 1
  pub synced : (k n : ℕ) → 1 ≤ k → k < 1 + length intent.writes → v.names (stage_name k) ≡ Some n
      → (v.files n).synced ≡ true
  -- the intent has so few writes that their numbers fit into 64 bits
  pub few : length intent.writes < 2 ^ 63
  -- the names of the intent are outside the journal, no name is written twice, and none is both written and removed
  pub free : HasFreeNamesAndUnrepeatedWrites intent

-- A moment `v` of the commit. Each crash leaves a state that a crash at `start` might have left, or that of `files`.
-- It leaves the former unless an intent made after the first `number` files, which leads to `files`, is published.
pub record IsCommitting (ignored : List ℕ → Bool) (files : Files) (number : ℕ)
    (start v : TreeState) : Type 0 where
  -- the tree is durable
  pub is_durable : IsDurable (StateDependsOn ignored) v
  -- each crash leaves a state that a crash at the start might have left, or that of `files`
  pub old_or_new : EachCrashLeavesOldOrNew ignored start files v
  -- if no intent made since is under its name and leads to `files`, each crash leaves a state that a crash at the
  -- start might have left
  pub unpublished : (HasIntentFileNumberedAtLeastForFiles ignored files number v → ⊥)
      → EachCrashLeavesOld ignored start v
  -- no fewer files have been made than at the start
  pub made : start.made ≤ v.made

-- a moment `v` after the commit: each crash leaves the state of `files`, and an intent that leads to `files`, made
-- after the first `made` files of the tree, is under its name
pub record HasCommittedIntent (ignored : List ℕ → Bool) (files : Files) (made : ℕ)
    (v : TreeState) : Type 0 where
  -- each crash leaves the state of these files
  pub settled : EachCrashLeavesStateOf ignored files v
  -- the intent is under its name, in a file made after the first `made` files
  pub publishes : HasIntentFileNumberedAtLeastForFiles ignored files made v

-- in a run from the history `old` to `now`, only the intent's name, and that of the staged file 0, have changed
pub record ChangesOnlyIntentNames (old now : List TreeState) : Type 0 where
  -- if the intent is absent at the start: at each moment at which it is present, no crash undoes a change of any other
  -- name than these two
  pub last : IfObservable old (λ v. v.names intent_name ≡ None
      → Since (λ w. IsSome (w.names intent_name)
      → NamesAreDurableExcept (intent_name ∷ stage_name 0 ∷ []) w)
      old now)
  -- at each moment the files as read are unchanged under every other name
  pub others : IfObservable old (λ v.
      Since (KeepsFilesExcept (λ q. (q ≡ intent_name) ⊎ (q ≡ stage_name 0)) v) old now)
  -- at each moment a crash leaves every other name as a crash at the start might have left it
  pub maps : IfObservable old (λ v.
      Since (KeepsCrashMapsExcept (intent_name ∷ stage_name 0 ∷ []) v) old now)

-- how a call publishes (commits) the intent of a stage, all of whose files are staged
pub record PublishesIntent {T E : Type 0} (stage : Staging) (old now : List TreeState)
    (result : Result T E) : Type 0 where
  -- at each moment a crash leaves an old state or the one with all actions done; it leaves an old one before an
  -- intent of this call, which leads to all actions done, is under its name
  pub moments : IfObservable old (λ v. (ignored : List ℕ → Bool) (contents : List (List ℕ)) (base : Files)
      → IsDurable (StateDependsOn ignored) v → HasStagedContents stage contents None base v
      → SinceGivenEarlierAddedMoments
      (IsOldUntilCommit ignored (files_after_actions stage.intent (files_of v)) v)
      old now)
  -- once Ok is returned, the change is committed by an intent of this call
  pub published : IfObservable old (λ v. (ignored : List ℕ → Bool) (contents : List (List ℕ)) (base : Files)
      → IsDurable (StateDependsOn ignored) v → HasStagedContents stage contents None base v
      → OnOk result (IsHistoryThatPublishesIntentForFiles ignored
      (files_after_actions stage.intent (files_of v)) v old now))
  -- once Ok is returned, each crash leaves the state of the files with all actions done
  pub settled : IfObservable old (λ v. (ignored : List ℕ → Bool) (contents : List (List ℕ)) (base : Files)
      → IsDurable (StateDependsOn ignored) v → HasStagedContents stage contents None base v
      → OnOk result (HoldsNow now
      (EachCrashLeavesStateOf ignored (files_after_actions stage.intent (files_of v)))))
  -- at each moment at which the intent is read, recovery of the files as read yields the files with all actions done
  pub reads : IfObservable old (λ v. (contents : List (List ℕ)) (base : Files)
      → HasStagedContents stage contents None base v → Since (λ w. IsSome (w.names intent_name)
      → RecoversTo (files_after_actions stage.intent (files_of v)) w) old now)
  -- whatever is returned, only the names of the intent and of the staged file 0 have changed
  pub names : ChangesOnlyIntentNames old now
  -- once Ok is returned, the files as read are unchanged under each name except the intent's
  pub only_intent : IfObservable old (λ v.
      OnOk result (HoldsNow now (KeepsFilesExcept (λ q. q ≡ intent_name) v)))
