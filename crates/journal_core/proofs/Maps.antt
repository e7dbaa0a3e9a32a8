-- Each map of names that a crash may leave is one from before, but for some names.
use Rattle.std.proofs.Common.{◌≡◌, inl, inr, ℕ, true, false, List, ◌∷◌, [], ◌++◌, Option, None, Some, Result, refl, ap, subst, ◌∙◌}
use Rattle.base_core.specs.Calls.{IfObservable, HoldsNow, ChangesHistory}
use Rattle.base_core.specs.Crash.{Since}
use Rattle.base_core.specs.Files.{drop_name, move_name, put_name}
use Rattle.base_core.specs.Tree.{TreeState, File, after_append, after_create, after_failed_append, after_remove, after_rename, after_sync, after_sync_names, with_file_changed, with_file_moved, with_name_removed, unchanged_after_failed_call, IsAlwaysAllowed, CanCreate, CanRename, HasName}
use Rattle.journal_core.specs.Filling.{IsNewFileDurablyMoved}
use Rattle.journal_core.specs.Kept.{IsSyncedAt, KeepsCrashMapsExcept}
use Rattle.journal_core.specs.Replacing.{scratch_name_of}
use Rattle.journal_core.proofs.History.{History, no_more, none_since, now_map, observable_map, on_observable, since_weaker}
use Rattle.journal_core.proofs.Changes.{left_off, synced_left}
use Rattle.journal_core.proofs.Lasting.{off_first, off_rest}
use Rattle.journal_core.proofs.Leaving.{told_called, told_on}
use Rattle.journal_intent.proofs.AtName.{put_name-off, drop_name-off}

abbrev pub Keeps : List (List ℕ) → History → History → Type 0
Keeps these old new = IfObservable old (λ v. Since (KeepsCrashMapsExcept these v) old new)

maps_same : (these : List (List ℕ)) (v : TreeState) → KeepsCrashMapsExcept these v v
maps_same these v map among = (map, among, λ q off. refl)

maps_through : (these : List (List ℕ)) (a b c : TreeState) → KeepsCrashMapsExcept these a b → KeepsCrashMapsExcept these b c → KeepsCrashMapsExcept these a c
maps_through these a b c first then map among =
    let (mid, is_mid, same) = then map among in
    let (was, is_was, before) = first mid is_mid in
    (was, is_was, λ q off. same q off ∙ before q off)

pub maps_on : (these : List (List ℕ)) (old h new : History) → Keeps these old h → Keeps these h new → Keeps these old new
maps_on these = told_on (KeepsCrashMapsExcept these) (maps_same these) (maps_through these)

pub maps_none : (these : List (List ℕ)) (old new : History) → new ≡ old → Keeps these old new
maps_none these old new same = on_observable old _ (λ v rest is. no_more (KeepsCrashMapsExcept these v) old old new (none_since (KeepsCrashMapsExcept these v) old) same)

pub maps_more : (name : List ℕ) (these : List (List ℕ)) (old new : History) → Keeps these old new → Keeps (name ∷ these) old new
maps_more name these old new told = observable_map old _ _ told (λ v t.
    since_weaker (KeepsCrashMapsExcept these v) (KeepsCrashMapsExcept (name ∷ these) v) old new
    (λ w keeps map among. let (was, is_was, same) = keeps map among in (was, is_was, λ q off. same q (off_rest q name these off))) t)

-- the same name, told otherwise
pub maps_at : (name place : List ℕ) → name ≡ place → (old new : History) → Keeps (name ∷ []) old new → Keeps (place ∷ []) old new
maps_at name place is old new told = subst (λ (p : List ℕ). Keeps (p ∷ []) old new) is told

-- ---- one call

changed_maps : (these : List (List ℕ)) (change : File → File) (v : TreeState) (o : Option ℕ) → KeepsCrashMapsExcept these v (with_file_changed change v o)
changed_maps these change v None map among = maps_same these v map among
changed_maps these change v (Some n) map among = (map, among, λ q off. refl)

created_maps : (name : List ℕ) (these : List (List ℕ)) (v : TreeState) → KeepsCrashMapsExcept (name ∷ these) v (after_create name v)
created_maps name these v map (inl (kept, left, is)) = (kept, left, λ q off. left_off v.names (put_name v.names name v.made) kept map is q (put_name-off v.names name v.made q (off_first q name these off)))
created_maps name these v map (inr among) = (map, among, λ q off. refl)

removed_maps : (name : List ℕ) (these : List (List ℕ)) (v : TreeState) (o : Option ℕ) → KeepsCrashMapsExcept (name ∷ these) v (with_name_removed name v o)
removed_maps name these v None map among = maps_same (name ∷ these) v map among
removed_maps name these v (Some n) map (inl (kept, left, is)) = (kept, left, λ q off. left_off v.names (drop_name v.names name) kept map is q (drop_name-off v.names name q (off_first q name these off)))
removed_maps name these v (Some n) map (inr among) = (map, among, λ q off. refl)

moved_maps : (from to : List ℕ) (v : TreeState) (o : Option ℕ) → KeepsCrashMapsExcept (to ∷ from ∷ []) v (with_file_moved from to v o)
moved_maps from to v None map among = maps_same (to ∷ from ∷ []) v map among
moved_maps from to v (Some n) map (inl (kept, left, is)) = (
  kept,
  left,
  λ q off.
      left_off v.names (move_name v.names from to n) kept map is q
      (put_name-off (drop_name v.names from) to n q (off_first q to (from ∷ []) off)
      ∙ drop_name-off v.names from q (off_first q from [] (off_rest q to (from ∷ []) off))),
)
moved_maps from to v (Some n) map (inr among) = (map, among, λ q off. refl)

synced_maps : (these : List (List ℕ)) (v : TreeState) → KeepsCrashMapsExcept these v (after_sync_names v)
synced_maps these v map left = (map, synced_left v map left, λ q off. refl)

module _ {T E : Type 0} (old new : History) (r : Result T E) where
  pub create_maps : (name : List ℕ) → ChangesHistory (CanCreate name) (after_create name) (after_create name) old new r → Keeps (name ∷ []) old new
  create_maps name moves = told_called (KeepsCrashMapsExcept (name ∷ [])) old new r moves (created_maps name []) (created_maps name [])

  pub append_maps : (these : List (List ℕ)) (name piece : List ℕ) → ChangesHistory (HasName name) (after_append name piece) (after_failed_append name) old new r → Keeps these old new
  append_maps these name piece moves =
      told_called (KeepsCrashMapsExcept these) old new r moves
      (λ v. changed_maps these (λ f. record { bytes = f.bytes ++ piece; synced = false }) v (v.names name)) (λ v. changed_maps these (λ f. record { bytes = f.bytes; synced = false }) v (v.names name))

  pub sync_maps : (these : List (List ℕ)) (name : List ℕ) → ChangesHistory (HasName name) (after_sync name) unchanged_after_failed_call old new r → Keeps these old new
  sync_maps these name moves = told_called (KeepsCrashMapsExcept these) old new r moves (λ v. changed_maps these (λ f. record { bytes = f.bytes; synced = true }) v (v.names name)) (maps_same these)

  pub remove_maps : (name : List ℕ) → ChangesHistory IsAlwaysAllowed (after_remove name) (after_remove name) old new r → Keeps (name ∷ []) old new
  remove_maps name moves = told_called (KeepsCrashMapsExcept (name ∷ [])) old new r moves (λ v. removed_maps name [] v (v.names name)) (λ v. removed_maps name [] v (v.names name))

  pub rename_maps : (from to : List ℕ) → ChangesHistory (CanRename from to) (after_rename from to) (after_rename from to) old new r → Keeps (to ∷ from ∷ []) old new
  rename_maps from to moves = told_called (KeepsCrashMapsExcept (to ∷ from ∷ [])) old new r moves (λ v. moved_maps from to v (v.names from)) (λ v. moved_maps from to v (v.names from))

  pub names_maps : (these : List (List ℕ)) → ChangesHistory IsAlwaysAllowed after_sync_names unchanged_after_failed_call old new r → Keeps these old new
  names_maps these moves = told_called (KeepsCrashMapsExcept these) old new r moves (synced_maps these) (maps_same these)

-- ---- a replacement

pub scratch_maps : (scratch name : List ℕ) (old new : History) → scratch ≡ scratch_name_of name → Keeps (name ∷ scratch ∷ []) old new → Keeps (name ∷ scratch_name_of name ∷ []) old new
scratch_maps scratch name old new is told = subst (λ (s : List ℕ). Keeps (name ∷ s ∷ []) old new) is told

pub lasting_synced : (scratch name bytes : List ℕ) (old new : History) → IfObservable old (λ v. HoldsNow new (IsNewFileDurablyMoved scratch name bytes v)) → IfObservable old (λ v. HoldsNow new (IsSyncedAt name))
lasting_synced scratch name bytes old new lasts = observable_map old _ _ lasts (λ v now. now_map new (IsNewFileDurablyMoved scratch name bytes v) (IsSyncedAt name) now (λ w l. l.synced))
