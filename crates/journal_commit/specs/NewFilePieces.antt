-- A new file while it is made, piece by piece, under the scratch name of the file that it replaces.
-- The rules are in `docs/crash-safety.md`, "A whole file replaced". Serves the contracts of
-- `src/new_file.rt`.
use Rattle.std.specs.Prelude.{◌≡◌, ℕ, false, List, [], ◌∷◌}
use Rattle.base_core.specs.Calls.{HoldsNow, IfObservable}
use Rattle.base_core.specs.Crash.{Since}
use Rattle.base_core.specs.Tree.{TreeState, File}
use Rattle.journal_core.specs.Filling.{MayHaveChangedOnly, HasChangedOnlyByNewFile, HasOneMoreName}
use Rattle.journal_core.specs.Kept.{KeepsCrashMapsExcept}

-- Since the tree's history was `first`, only the file under the scratch name has changed; the history is now `now`.
-- A tree that was not observable is still not observable.
pub record OnlyScratchHasChanged (scratch : List ℕ) (first now : List TreeState) : Type 0 where
  -- at each moment only the file under the scratch name may have changed
  pub moments : IfObservable first (λ v. Since (MayHaveChangedOnly scratch v) first now)
  -- at each moment a crash leaves every other name as a crash at the start might have left it
  pub others : IfObservable first (λ v. Since (KeepsCrashMapsExcept (scratch ∷ []) v) first now)
  -- a tree that was not observable is still not observable: its history is empty
  pub unobservable : first ≡ [] → now ≡ []

-- a file with these bytes that is not synced
abbrev pub unsynced_file : List ℕ → File
unsynced_file bytes = record { bytes = bytes; synced = false }

-- since the tree's history was `first`, a new file was made under the scratch name; it has these bytes so far, and
-- is not synced
pub record IsNewFile (scratch bytes : List ℕ) (first now : List TreeState) : Type 0 where
  -- only the file under the scratch name has changed
  pub only : OnlyScratchHasChanged scratch first now
  -- the scratch name leads to the new file, and no other name leads to it in any map that a crash may leave
  pub file : IfObservable first
      (λ v. HoldsNow now (HasChangedOnlyByNewFile scratch (unsynced_file bytes) v))
  -- the scratch name leads to a file, and the other names lead to the same files as at the start
  pub names : IfObservable first (λ v. HoldsNow now (HasOneMoreName scratch v))
