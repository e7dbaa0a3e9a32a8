-- One action, clause by clause.
use Rattle.std.proofs.Common.{◌≡◌, ◌⊎◌, inl, inr, ⊎_elim, ℕ, ◌+◌, ◌<◌, ◌^◌, Bool, List, ◌∷◌, length, slice_get, None, Some, IsSome, Result, Ok, Err, OnOk, refl, ◌∙◌, arith}
use Rattle.base_core.specs.Files.{Files}
use Rattle.base_core.specs.Tree.{TreeState, after_remove, after_rename, IsAlwaysAllowed, CanRename}
use Rattle.base_core.specs.Calls.{IfObservable, HoldsNow, ChangesHistory}
use Rattle.base_core.specs.Crash.{Since}
use Rattle.base_core.specs.Undone.{IsDurable}
use Rattle.journal_core.specs.Recovery.{Intent, StateDependsOn, stage_name}
use Rattle.journal_intent.specs.FreeNames.{HasFreeNamesAndUnrepeatedWrites}
use Rattle.journal_core.specs.Kept.{RecoversTo}
use Rattle.journal_core.specs.Quiet.{StateIsUnchanged}
use Rattle.journal_core.specs.Staged.{Staging, IsCarryingOutActions, AreIntentAndStagedPathsFree}
use Rattle.journal_core.specs.Acting.{stage_with_actions_done, MovesIfPresent}
use Rattle.journal_core.proofs.History.{History, none_since, one_more, no_more, on_observable, observable_at}
use Rattle.journal_core.proofs.OneCall.{one_called, now_done, now_is}
use Rattle.journal_core.proofs.Acts.{absent_acting, move_acting, move_still, remove_acting, remove_still}
use Rattle.journal_core.proofs.Replayed.{IsProper, proper_of}
use Rattle.journal_core.proofs.Room.{can_move}
use Rattle.journal_core.proofs.Images.{CrashLaws}

module _ (laws : CrashLaws) (intent : Intent) (free : HasFreeNamesAndUnrepeatedWrites intent) (few : length intent.removals + length intent.writes < 2 ^ 63) where
  proper : IsProper intent
  proper = proper_of intent free (omega (arith, few))

  -- ---- a removal
  module _ {T E : Type 0} (old new : History) (i : ℕ) (within : i < length intent.removals) (name : List ℕ) (at : slice_get intent.removals i ≡ Some name) (r : Result T E) (moves : ChangesHistory IsAlwaysAllowed (after_remove name) (after_remove name) old new r) where
    pub remove_moments : IfObservable old (λ v. (ignored : List ℕ → Bool) (files : Files) → IsDurable (StateDependsOn ignored) v → IsCarryingOutActions (stage_with_actions_done intent i) files v → Since (StateIsUnchanged ignored v) old new)
    remove_moments = on_observable old _ (λ v rest is ignored files is_durable acting.
        let is_unchanged = remove_still laws (stage_with_actions_done intent i) (stage_with_actions_done intent (i + 1)) files v name acting proper at within refl refl ignored is_durable in
        one_called old new v rest is (StateIsUnchanged ignored v) r moves is_unchanged (λ may. is_unchanged))

    pub remove_reads : IfObservable old (λ v. (files : Files) → IsCarryingOutActions (stage_with_actions_done intent i) files v → Since (RecoversTo files) old new)
    remove_reads = on_observable old _ (λ v rest is files acting.
        let reads = (remove_acting laws (stage_with_actions_done intent i) (stage_with_actions_done intent (i + 1)) files v name acting proper at within refl refl).reads in
        one_called old new v rest is (RecoversTo files) r moves reads (λ may. reads))

  pub removed_acting : {T E : Type 0} (old new : History) (i : ℕ) → i < length intent.removals → (name : List ℕ) → slice_get intent.removals i ≡ Some name → (r : Result T E) → ChangesHistory IsAlwaysAllowed (after_remove name) (after_remove name) old new r
      → IfObservable old (λ v. (files : Files) → IsCarryingOutActions (stage_with_actions_done intent i) files v → OnOk r (HoldsNow new (IsCarryingOutActions (stage_with_actions_done intent (i + 1)) files)))
  removed_acting old new i within name at (Err e) moves = on_observable old _ (λ v rest is files acting. tt)
  removed_acting old new i within name at (Ok x) moves = on_observable old _ (λ v rest is files acting.
      now_done old new v rest is (IsCarryingOutActions (stage_with_actions_done intent (i + 1)) files) x moves (remove_acting laws (stage_with_actions_done intent i) (stage_with_actions_done intent (i + 1)) files v name acting proper at within refl refl))

  -- ---- a move
  module _ (old new : History) (j acted : ℕ) (within : j < length intent.writes) (behind : acted ≡ length intent.removals + j) (place name : List ℕ) (place_is : place ≡ stage_name (j + 1)) (at : slice_get intent.writes j ≡ Some name) where
    abbrev before : Staging
    before = stage_with_actions_done intent acted

    abbrev after : Staging
    after = stage_with_actions_done intent (acted + 1)

    pub move_moments : {T E : Type 0} (r : Result T E) → MovesIfPresent place name old new r
        → IfObservable old (λ v. (ignored : List ℕ → Bool) (files : Files) → IsDurable (StateDependsOn ignored) v → IsCarryingOutActions before files v → Since (StateIsUnchanged ignored v) old new)
    move_moments (Ok x) moves = on_observable old _ (λ v rest is ignored files is_durable acting. ⊎_elim
        (λ none. no_more (StateIsUnchanged ignored v) old old new (none_since (StateIsUnchanged ignored v) old) none.1)
        (λ more. one_more (StateIsUnchanged ignored v) old old new (after_rename place name v) (none_since (StateIsUnchanged ignored v) old) more (move_still laws before after files v place name j (j + 1) acting proper place_is refl at within behind refl refl ignored is_durable))
        (observable_at old v rest is (λ u. ((u.names place ≡ None) × (new ≡ old)) ⊎ (new ≡ after_rename place name u ∷ old)) moves.ok))
    move_moments (Err e) moves = on_observable old _ (λ v rest is ignored files is_durable acting. ⊎_elim
        (λ none. no_more (StateIsUnchanged ignored v) old old new (none_since (StateIsUnchanged ignored v) old) none)
        (λ more. one_more (StateIsUnchanged ignored v) old old new (after_rename place name v) (none_since (StateIsUnchanged ignored v) old) more (move_still laws before after files v place name j (j + 1) acting proper place_is refl at within behind refl refl ignored is_durable))
        (observable_at old v rest is (λ u. (new ≡ old) ⊎ (new ≡ after_rename place name u ∷ old)) moves.err))

    pub moved_acting : {T E : Type 0} (r : Result T E) → MovesIfPresent place name old new r
        → IfObservable old (λ v. (files : Files) → IsCarryingOutActions before files v → OnOk r (HoldsNow new (IsCarryingOutActions after files)))
    moved_acting (Err e) moves = on_observable old _ (λ v rest is files acting. tt)
    moved_acting (Ok x) moves = on_observable old _ (λ v rest is files acting. ⊎_elim
        (λ none. now_is new v rest (IsCarryingOutActions after files) (none.1 ∙ is) (absent_acting laws before after files v place name j (j + 1) acting proper place_is refl at within behind refl refl none.0))
        (λ more. now_is new (after_rename place name v) old (IsCarryingOutActions after files) more (move_acting laws before after files v place name j (j + 1) acting proper place_is refl at within behind refl refl))
        (observable_at old v rest is (λ u. ((u.names place ≡ None) × (new ≡ old)) ⊎ (new ≡ after_rename place name u ∷ old)) moves.ok))

    move_reads_at : (v : TreeState) (rest : History) → old ≡ v ∷ rest → (files : Files) → IsCarryingOutActions before files v → (new ≡ old) ⊎ (new ≡ after_rename place name v ∷ old) → Since (RecoversTo files) old new
    move_reads_at v rest is files acting = ⊎_elim
        (λ none. no_more (RecoversTo files) old old new (none_since (RecoversTo files) old) none)
        (λ more. one_more (RecoversTo files) old old new (after_rename place name v) (none_since (RecoversTo files) old) more (move_acting laws before after files v place name j (j + 1) acting proper place_is refl at within behind refl refl).reads)

    pub move_reads : {T E : Type 0} (r : Result T E) → MovesIfPresent place name old new r → IfObservable old (λ v. (files : Files) → IsCarryingOutActions before files v → Since (RecoversTo files) old new)
    move_reads (Ok x) moves = on_observable old _ (λ v rest is files acting. move_reads_at v rest is files acting
        (⊎_elim (λ none. inl none.1) (λ more. inr more) (observable_at old v rest is (λ u. ((u.names place ≡ None) × (new ≡ old)) ⊎ (new ≡ after_rename place name u ∷ old)) moves.ok)))
    move_reads (Err e) moves = on_observable old _ (λ v rest is files acting. move_reads_at v rest is files acting
        (observable_at old v rest is (λ u. (new ≡ old) ⊎ (new ≡ after_rename place name u ∷ old)) moves.err))

    pub move_proper : (a b : ℕ) → IfObservable old (λ v. (IsSome (v.names place) → CanRename place name v) → b ≡ a) → IfObservable old (λ v. (files : Files) → IsCarryingOutActions before files v → AreIntentAndStagedPathsFree files → b ≡ a)
    move_proper a b told = on_observable old _ (λ v rest is files acting room.
        observable_at old v rest is (λ u. (IsSome (u.names place) → CanRename place name u) → b ≡ a) told (λ there. can_move before files v place name j (j + 1) acting proper place_is refl at within behind room there))
