-- A new file is synced and moved to its name.
use Rattle.std.proofs.Common.{◌≡◌, ℕ, List, [], ◌∷◌, Result, Ok, Err, OnOk, subst}
use Rattle.base_core.specs.Calls.{IfObservable, HoldsNow, ChangesHistory, IsCounted}
use Rattle.base_core.specs.Crash.{Since}
use Rattle.base_core.specs.Faults.{Counts}
use Rattle.base_core.specs.Tree.{TreeState, CanRename, HasName, after_append, after_failed_append, unchanged_after_failed_call, after_sync}
use Rattle.journal_core.specs.Filling.{CanAddBothNames, MayHaveChangedOnly, HasChangedOnlyByNewFile, IsNewFileDurablyMoved, IsNewFileReadyToMove, synced_file}
use Rattle.journal_core.specs.Replacing.{scratch_name_of}
use Rattle.journal_core.proofs.History.{History, observable_map, on_observable}
use Rattle.journal_core.proofs.Images.{crash_laws}
use Rattle.journal_core.proofs.Maps.{Keeps, maps_more, maps_on, sync_maps}
use Rattle.journal_commit.proofs.JoinedParts.{fill_moments, moved_called, moving_moments}
use Rattle.journal_commit.proofs.NewFilePieces.{named_proper, synced_moments, synced_names, synced_now}
use Rattle.journal_commit.proofs.Proper.{settle_proper}
use Rattle.journal_commit.specs.NewFilePieces.{IsNewFile, OnlyScratchHasChanged}

now_observed : (h : History) (P : TreeState → Type 0) → HoldsNow h P → IfObservable h P
now_observed [] P now = tt
now_observed (v ∷ h) P now = now

-- a moment at which only the scratch name's file has changed is one of replacing
pub only_ready : (name bytes : List ℕ) (old new : History) → OnlyScratchHasChanged (scratch_name_of name) old new → IfObservable old (λ v. Since (IsNewFileReadyToMove (scratch_name_of name) name bytes v) old new)
only_ready name bytes old new only = on_observable old _ (λ v rest is. fill_moments (scratch_name_of name) name bytes v old new rest is only.moments)

-- ---- calls whose names are told otherwise

pub append_at : {T E : Type 0} (scratch place piece : List ℕ) (old new : History) (r : Result T E) → scratch ≡ place
    → ChangesHistory (HasName scratch) (after_append scratch piece) (after_failed_append scratch) old new r
    → ChangesHistory (HasName place) (after_append place piece) (after_failed_append place) old new r
append_at scratch place piece old new r same moves = subst (λ (s : List ℕ). ChangesHistory (HasName s) (after_append s piece) (after_failed_append s) old new r) same moves

pub sync_at : {T E : Type 0} (scratch place : List ℕ) (old new : History) (r : Result T E) → scratch ≡ place → ChangesHistory (HasName scratch) (after_sync scratch) unchanged_after_failed_call old new r
    → ChangesHistory (HasName place) (after_sync place) unchanged_after_failed_call old new r
sync_at scratch place old new r same moves = subst (λ (s : List ℕ). ChangesHistory (HasName s) (after_sync s) unchanged_after_failed_call old new r) same moves

pub counted_at : {T E : Type 0} (scratch place : List ℕ) (old : History) (a b : Counts) (r : Result T E) → scratch ≡ place → IsCounted (HasName scratch) old a b r → IsCounted (HasName place) old a b r
counted_at scratch place old a b r same counted = subst (λ (s : List ℕ). IsCounted (HasName s) old a b r) same counted

abbrev pub Settles : List ℕ → List ℕ → History → History → Type 0
Settles from to mid new = IfObservable mid (λ w. (b : List ℕ) (start : TreeState) → HasChangedOnlyByNewFile from (synced_file b) start w → Since (IsNewFileReadyToMove from to b start) mid new)

abbrev pub Lasts : {S F : Type 0} → List ℕ → List ℕ → History → History → Result S F → Type 0
Lasts from to mid new r = IfObservable mid (λ w. (b : List ℕ) (start : TreeState) → HasChangedOnlyByNewFile from (synced_file b) start w → OnOk r (IfObservable new (IsNewFileDurablyMoved from to b start)))

module _ (from to name : List ℕ) (scratch_is : from ≡ scratch_name_of name) (name_is : to ≡ name) (mid new : History) where
  pub settles_at : Settles from to mid new → Settles (scratch_name_of name) name mid new
  settles_at s = subst (λ (f : List ℕ). Settles f name mid new) scratch_is (subst (λ (t : List ℕ). Settles from t mid new) name_is s)

  pub lasts_at : {S F : Type 0} (r : Result S F) → Lasts from to mid new r → Lasts (scratch_name_of name) name mid new r
  lasts_at r l = subst (λ (f : List ℕ). Lasts f name mid new r) scratch_is (subst (λ (t : List ℕ). Lasts from t mid new r) name_is l)

  pub keeps_at : Keeps (to ∷ from ∷ []) mid new → Keeps (name ∷ scratch_name_of name ∷ []) mid new
  keeps_at k = subst (λ (f : List ℕ). Keeps (name ∷ f ∷ []) mid new) scratch_is (subst (λ (t : List ℕ). Keeps (t ∷ from ∷ []) mid new) name_is k)

  pub renames_at : (a b : ℕ) → IfObservable mid (λ w. CanRename from to w → b ≡ a) → IfObservable mid (λ w. CanRename (scratch_name_of name) name w → b ≡ a)
  renames_at a b p = subst (λ (f : List ℕ). IfObservable mid (λ w. CanRename f name w → b ≡ a)) scratch_is (subst (λ (t : List ℕ). IfObservable mid (λ w. CanRename from t w → b ≡ a)) name_is p)

-- what is told of a new file, once for all bytes of it
pub moved_by : {S F : Type 0} (r : Result S F) (name : List ℕ) (old new : History)
    → ((bytes : List ℕ) (first : History) → IsNewFile (scratch_name_of name) bytes first old → IfObservable first (λ v. OnOk r (HoldsNow new (IsNewFileDurablyMoved (scratch_name_of name) name bytes v))))
    → OnOk r ((bytes : List ℕ) (first : History) → IsNewFile (scratch_name_of name) bytes first old → IfObservable first (λ v. HoldsNow new (IsNewFileDurablyMoved (scratch_name_of name) name bytes v)))
moved_by (Ok x) name old new h = h
moved_by (Err e) name old new h = tt

module _ (name bytes : List ℕ) (first old : History) (was : IsNewFile (scratch_name_of name) bytes first old) where
  abbrev Moves : {T E : Type 0} → History → Result T E → Type 0
  Moves mid r = ChangesHistory (HasName (scratch_name_of name)) (after_sync (scratch_name_of name)) unchanged_after_failed_call old mid r

  pub cut_moments : {T E : Type 0} (mid : History) (r : Result T E) → Moves mid r → IfObservable first (λ v. Since (IsNewFileReadyToMove (scratch_name_of name) name bytes v) first mid)
  cut_moments mid r moves = on_observable first _ (λ v rest is.
      fill_moments (scratch_name_of name) name bytes v first mid rest is (synced_moments crash_laws (scratch_name_of name) bytes first old mid was r moves))

  pub cut_others : {T E : Type 0} (mid : History) (r : Result T E) → Moves mid r → Keeps (name ∷ scratch_name_of name ∷ []) first mid
  cut_others mid r moves =
      maps_more name (scratch_name_of name ∷ []) first mid (maps_on (scratch_name_of name ∷ []) first old mid was.only.others (sync_maps old mid r (scratch_name_of name ∷ []) (scratch_name_of name) moves))

  pub cut_proper : {T E : Type 0} (r : Result T E) (before now : Counts) → IsCounted (HasName (scratch_name_of name)) old before now r
      → IfObservable first (λ v. CanAddBothNames (scratch_name_of name) name v → now.misuses ≡ before.misuses)
  cut_proper r before now counted = observable_map first _ _ (named_proper crash_laws (scratch_name_of name) bytes first old old was r before now counted) (λ v same room. same)

  module _ {T E : Type 0} (mid new : History) (x : T) (moves : Moves {E = E} mid (Ok x)) where
    fills : IfObservable first (λ w. Since (MayHaveChangedOnly (scratch_name_of name) w) first mid)
    fills = synced_moments crash_laws (scratch_name_of name) bytes first old mid was (Ok x) moves

    filled : IfObservable first (λ w. IfObservable mid (HasChangedOnlyByNewFile (scratch_name_of name) (synced_file bytes) w))
    filled = observable_map first _ _ (synced_now crash_laws (scratch_name_of name) bytes first old mid was x moves) (λ v. now_observed mid (HasChangedOnlyByNewFile (scratch_name_of name) (synced_file bytes) v))

    pub finish_moments : Settles (scratch_name_of name) name mid new → IfObservable first (λ v. Since (IsNewFileReadyToMove (scratch_name_of name) name bytes v) first new)
    finish_moments settles = on_observable first _ (λ v rest is. moving_moments (scratch_name_of name) name bytes v first mid rest is new fills filled settles)

    pub finish_moved : {S F : Type 0} (r : Result S F) → Settles (scratch_name_of name) name mid new → Lasts (scratch_name_of name) name mid new r
        → IfObservable first (λ v. OnOk r (HoldsNow new (IsNewFileDurablyMoved (scratch_name_of name) name bytes v)))
    finish_moved r settles lasts = on_observable first _ (λ v rest is. moved_called (scratch_name_of name) name bytes v first mid rest is new r fills filled settles lasts)

    pub finish_others : Keeps (name ∷ scratch_name_of name ∷ []) mid new → Keeps (name ∷ scratch_name_of name ∷ []) first new
    finish_others keeps = maps_on (name ∷ scratch_name_of name ∷ []) first mid new (cut_others mid (Ok x) moves) keeps

    pub finish_proper : (a b c : Counts) → IsCounted {E = E} (HasName (scratch_name_of name)) old a b (Ok x) → IfObservable mid (λ w. CanRename (scratch_name_of name) name w → c.misuses ≡ b.misuses)
        → IfObservable first (λ v. CanAddBothNames (scratch_name_of name) name v → c.misuses ≡ a.misuses)
    finish_proper a b c counted second = on_observable first _ (λ v rest is room.
        settle_proper (scratch_name_of name) name v first rest is room a.misuses b.misuses mid c.misuses
        (observable_map first _ _ (named_proper crash_laws (scratch_name_of name) bytes first old old was (Ok x) a b counted) (λ w same added. same))
        (synced_names crash_laws (scratch_name_of name) bytes first old mid was x moves) second)
