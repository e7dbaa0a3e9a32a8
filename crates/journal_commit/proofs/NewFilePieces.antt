-- The calls that make a new file piece by piece.
use Rattle.std.proofs.Common.{◌≡◌, ℕ, Bool, true, false, List, [], ◌∷◌, ◌++◌, Option, None, Some, IsSome, Result, Ok, Err, OnOk, refl, sym, subst, ◌∙◌}
use Rattle.std.specs.List.{All}
use Rattle.base_core.specs.Calls.{IfObservable, HoldsNow, ChangesHistory, IsCounted}
use Rattle.base_core.specs.Crash.{Since}
use Rattle.base_core.specs.Faults.{Counts}
use Rattle.base_core.specs.Tree.{TreeState, File, after_create, after_append, after_failed_append, after_sync}
use Rattle.base_core.specs.Tree.{after_remove, unchanged_after_failed_call, with_file_changed, IsAlwaysAllowed, CanCreate, HasName, IsWellFormed}
use Rattle.journal_core.specs.Filling.{MayHaveChangedOnly, HasChangedOnlyByNewFile, HasOneMoreName, CanAddName}
use Rattle.journal_core.proofs.Chain.{Runs, run_begun, run_called, step_now, proper_now}
use Rattle.journal_core.proofs.History.{History, no_more, none_since, observable_all, observable_at, on_observable}
use Rattle.journal_core.proofs.Images.{CrashLaws}
use Rattle.journal_core.proofs.Maps.{append_maps, create_maps, maps_none, maps_on, remove_maps}
use Rattle.journal_core.proofs.OneCall.{now_is}
use Rattle.journal_core.proofs.Steps.{filling-created, filling_on, untouched-created, untouched-removed, untouched_start}
use Rattle.journal_core.proofs.journal_intent.AtName.{put_name-at, put_name-off}
use Rattle.journal_commit.proofs.Proper.{IsFree, can_create, free-removed}
use Rattle.journal_commit.specs.NewFilePieces.{OnlyScratchHasChanged, IsNewFile}

-- what is said of each newest state, beside what holds of it
now_beside : (h : History) (P Q : TreeState → Type 0) → HoldsNow h P → IfObservable h Q → HoldsNow h (λ v. P v × Q v)
now_beside [] P Q p q = absurd p
now_beside (v ∷ h) P Q p q = (p, q)

-- ---- one more name

named-created : (name : List ℕ) (start v : TreeState) → IsFree name start v → HasOneMoreName name start (after_create name v)
named-created name start v free = record {
  there = subst IsSome (sym (put_name-at v.names name v.made name refl)) refl;
  others = λ q ne. put_name-off v.names name v.made q ne ∙ free.others q ne;
}

changed_names : (change : File → File) (v : TreeState) (n : Option ℕ) → (with_file_changed change v n).names ≡ v.names
changed_names change v None = refl
changed_names change v (Some n) = refl

named-changed : (name : List ℕ) (change : File → File) (start v : TreeState) → HasOneMoreName name start v → HasOneMoreName name start (with_file_changed change v (v.names name))
named-changed name change start v more =
    let same = changed_names change v (v.names name) in
    record {
      there = subst (λ (m : List ℕ → Option ℕ). IsSome (m name)) (sym same) more.there;
      others = λ q ne. subst (λ (m : List ℕ → Option ℕ). m q ≡ start.names q) (sym same) (more.others q ne);
    }

-- ---- a call before it changed nothing

pub only_from : (name : List ℕ) (old mid new : History) → mid ≡ old → OnlyScratchHasChanged name mid new → OnlyScratchHasChanged name old new
only_from name old mid new same only = subst (λ (h : History). OnlyScratchHasChanged name h new) same only

pub begun_from : {T E : Type 0} (name : List ℕ) (old mid new : History) (r : Result T E) → mid ≡ old → OnOk r (IsNewFile name [] mid new) → OnOk r (IsNewFile name [] old new)
begun_from name old mid new r same begun = subst (λ (h : History). OnOk r (IsNewFile name [] h new)) same begun

-- ---- the same of a name that is told otherwise

module _ (name place : List ℕ) (old new : History) where
  pub only_as : name ≡ place → OnlyScratchHasChanged name old new → OnlyScratchHasChanged place old new
  only_as same only = subst (λ (n : List ℕ). OnlyScratchHasChanged n old new) same only

  pub begun_as : name ≡ place → IsNewFile name [] old new → IsNewFile place [] old new
  begun_as same begun = subst (λ (n : List ℕ). IsNewFile n [] old new) same begun

pub proper_as : (name place : List ℕ) (old : History) (a b : ℕ) → name ≡ place → IfObservable old (λ v. CanAddName name v → b ≡ a) → IfObservable old (λ v. CanAddName place v → b ≡ a)
proper_as name place old a b same proper = subst (λ (n : List ℕ). IfObservable old (λ v. CanAddName n v → b ≡ a)) same proper

module _ (laws : CrashLaws) (name : List ℕ) where
  abbrev Only : TreeState → TreeState → Type 0
  Only = MayHaveChangedOnly name

  abbrev Fills : List ℕ → Bool → TreeState → TreeState → Type 0
  Fills bytes synced start = HasChangedOnlyByNewFile name (record { bytes = bytes; synced = synced }) start

  -- ---- no call was made

  pub only_none : (old new : History) → new ≡ old → OnlyScratchHasChanged name old new
  only_none old new same = record {
    moments = on_observable old _ (λ v rest is. no_more (Only v) old old new (none_since (Only v) old) same);
    others = maps_none (name ∷ []) old new same;
    unobservable = λ none. same ∙ none;
  }

  -- ---- the file is created

  removed : (start v : TreeState) → v ≡ start → Only start (after_remove name v)
  removed start v is = subst (λ (u : TreeState). Only start (after_remove name u)) (sym is) (untouched-removed laws name start start (untouched_start name start))

  freed : (start v : TreeState) → v ≡ start → IsFree name start (after_remove name v)
  freed start v is = subst (λ (u : TreeState). IsFree name start (after_remove name u)) (sym is) (free-removed name start)

  module _ {T E : Type 0} (old new : History) where
    pub removed_only : (r : Result T E) → ChangesHistory IsAlwaysAllowed (after_remove name) (after_remove name) old new r → OnlyScratchHasChanged name old new
    removed_only r moves = record {
      moments = on_observable old _ (λ v rest is.
          run_called (Only v) (λ w. w ≡ v) old old new r (run_begun (Only v) (λ w. w ≡ v) old v rest is refl) moves (removed v) (λ w can. removed v w));
      others = remove_maps old new r name moves;
      unobservable = moves.unobservable;
    }

    -- what holds once the name is removed
    free_now : (x : T) (v : TreeState) (rest : History) → old ≡ v ∷ rest → ChangesHistory {E = E} IsAlwaysAllowed (after_remove name) (after_remove name) old new (Ok x)
        → HoldsNow new (λ w. Only v w × IsFree name v w)
    free_now x v rest is moves = step_now (λ w. w ≡ v) (λ w. Only v w × IsFree name v w) new x old (now_is old v rest (λ w. w ≡ v) is refl) moves (λ w e. (removed v w e, freed v w e))

  module _ {T E : Type 0} (old mid : History) (x : T) (whole : All IsWellFormed mid)
      (first : ChangesHistory {E = E} IsAlwaysAllowed (after_remove name) (after_remove name) old mid (Ok x)) where
    ready : (v : TreeState) (rest : History) → old ≡ v ∷ rest → HoldsNow mid (λ w. (Only v w × IsFree name v w) × IsWellFormed w)
    ready v rest is = now_beside mid (λ w. Only v w × IsFree name v w) IsWellFormed (free_now old mid x v rest is first) (observable_all IsWellFormed mid whole)

    module _ {S F : Type 0} (new : History) where
      pub created_only : (r : Result S F) → ChangesHistory (CanCreate name) (after_create name) (after_create name) mid new r → OnlyScratchHasChanged name old new
      created_only r moves = record {
        moments = on_observable old _ (λ v rest is.
            let since = observable_at old v rest is (λ w. Since (Only w) old mid) (removed_only old mid (Ok x) first).moments in
            run_called (Only v) (λ w. (Only v w × IsFree name v w) × IsWellFormed w) old mid new r (record { since = since; now = ready v rest is }) moves
            (λ w q. untouched-created laws name v w q.1 q.0.0) (λ w can q. untouched-created laws name v w q.1 q.0.0));
        others = maps_on (name ∷ []) old mid new (remove_maps old mid (Ok x) name first) (create_maps mid new r name moves);
        unobservable = λ none. moves.unobservable (first.unobservable none);
      }

      created_new : (y : S) → ChangesHistory {E = F} (CanCreate name) (after_create name) (after_create name) mid new (Ok y) → IsNewFile name [] old new
      created_new y moves = record {
        only = created_only (Ok y) moves;
        file = on_observable old _ (λ v rest is.
            step_now (λ w. (Only v w × IsFree name v w) × IsWellFormed w) (Fills [] false v) new y mid (ready v rest is) moves (λ w q. filling-created laws name v w q.1 q.0.0));
        names = on_observable old _ (λ v rest is.
            step_now (λ w. (Only v w × IsFree name v w) × IsWellFormed w) (HasOneMoreName name v) new y mid (ready v rest is) moves (λ w q. named-created name v w q.0.1));
      }

      pub created_called : (r : Result S F) → ChangesHistory (CanCreate name) (after_create name) (after_create name) mid new r → OnOk r (IsNewFile name [] old new)
      created_called (Ok y) moves = created_new y moves
      created_called (Err f) moves = tt

      pub created_proper : (r : Result S F) (before now : Counts) → IsCounted (CanCreate name) mid before now r → IfObservable old (λ v. CanAddName name v → now.misuses ≡ before.misuses)
      created_proper r before now counted = on_observable old _ (λ v rest is room.
          proper_now (λ w. (Only v w × IsFree name v w) × IsWellFormed w) before now mid r (ready v rest is) counted (λ w q. can_create name v w room q.0.1))

  -- ---- a piece is added, and the file is synced

  module _ (bytes : List ℕ) (first old new : History) (was : IsNewFile name bytes first old) where
    runs : (v : TreeState) (rest : History) → first ≡ v ∷ rest → Runs (Only v) (Fills bytes false v) first old
    runs v rest is = record {
      since = observable_at first v rest is (λ w. Since (Only w) first old) was.only.moments;
      now = observable_at first v rest is (λ w. HoldsNow old (Fills bytes false w)) was.file;
    }

    more : (v : TreeState) (rest : History) → first ≡ v ∷ rest → HoldsNow old (HasOneMoreName name v)
    more v rest is = observable_at first v rest is (λ w. HoldsNow old (HasOneMoreName name w)) was.names

    pub named_proper : {T E : Type 0} (r : Result T E) (before now : Counts) → IsCounted (HasName name) old before now r → IfObservable first (λ v. now.misuses ≡ before.misuses)
    named_proper r before now counted = on_observable first _ (λ v rest is. proper_now (HasOneMoreName name v) before now old r (more v rest is) counted (λ w q. q.there))

    module _ (piece : List ℕ) where
      appends : (v w : TreeState) → Fills bytes false v w → Fills (bytes ++ piece) false v (after_append name piece w)
      appends v w = filling_on laws name (λ f. record { bytes = f.bytes ++ piece; synced = false }) _ v w

      fails : (v w : TreeState) → Fills bytes false v w → Only v (after_failed_append name w)
      fails v w q = (filling_on laws name (λ f. record { bytes = f.bytes; synced = false }) _ v w q).untouched

      module _ {T E : Type 0} where
        pub appended_only : (r : Result T E) → ChangesHistory (HasName name) (after_append name piece) (after_failed_append name) old new r → OnlyScratchHasChanged name first new
        appended_only r moves = record {
          moments = on_observable first _ (λ v rest is.
              run_called (Only v) (Fills bytes false v) first old new r (runs v rest is) moves (λ w q. (appends v w q).untouched) (λ w can. fails v w));
          others = maps_on (name ∷ []) first old new was.only.others (append_maps old new r (name ∷ []) name piece moves);
          unobservable = λ none. moves.unobservable (was.only.unobservable none);
        }

        appended_new : (x : T) → ChangesHistory {E = E} (HasName name) (after_append name piece) (after_failed_append name) old new (Ok x) → IsNewFile name (bytes ++ piece) first new
        appended_new x moves = record {
          only = appended_only (Ok x) moves;
          file = on_observable first _ (λ v rest is.
              step_now (Fills bytes false v) (Fills (bytes ++ piece) false v) new x old (runs v rest is).now moves (appends v));
          names = on_observable first _ (λ v rest is.
              step_now (HasOneMoreName name v) (HasOneMoreName name v) new x old (more v rest is) moves
              (λ w. named-changed name (λ f. record { bytes = f.bytes ++ piece; synced = false }) v w));
        }

        pub appended_called : (r : Result T E) → ChangesHistory (HasName name) (after_append name piece) (after_failed_append name) old new r → OnOk r (IsNewFile name (bytes ++ piece) first new)
        appended_called (Ok x) moves = appended_new x moves
        appended_called (Err e) moves = tt

    syncs : (v w : TreeState) → Fills bytes false v w → Fills bytes true v (after_sync name w)
    syncs v w = filling_on laws name (λ f. record { bytes = f.bytes; synced = true }) _ v w

    module _ {T E : Type 0} where
      pub synced_moments : (r : Result T E) → ChangesHistory (HasName name) (after_sync name) unchanged_after_failed_call old new r → IfObservable first (λ v. Since (Only v) first new)
      synced_moments r moves = on_observable first _ (λ v rest is.
          run_called (Only v) (Fills bytes false v) first old new r (runs v rest is) moves (λ w q. (syncs v w q).untouched) (λ w can q. q.untouched))

      pub synced_now : (x : T) → ChangesHistory {E = E} (HasName name) (after_sync name) unchanged_after_failed_call old new (Ok x) → IfObservable first (λ v. HoldsNow new (Fills bytes true v))
      synced_now x moves = on_observable first _ (λ v rest is.
          step_now (Fills bytes false v) (Fills bytes true v) new x old (runs v rest is).now moves (syncs v))

      pub synced_names : (x : T) → ChangesHistory {E = E} (HasName name) (after_sync name) unchanged_after_failed_call old new (Ok x) → IfObservable first (λ v. HoldsNow new (HasOneMoreName name v))
      synced_names x moves = on_observable first _ (λ v rest is.
          step_now (HasOneMoreName name v) (HasOneMoreName name v) new x old (more v rest is) moves
          (λ w. named-changed name (λ f. record { bytes = f.bytes; synced = true }) v w))
