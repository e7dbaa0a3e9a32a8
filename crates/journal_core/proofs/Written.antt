-- A waiting file is made, filled and synced.
use Rattle.std.proofs.Common.{◌≡◌, ◌≢◌, inl, ℕ, Bool, true, false, List, [], ◌∷◌, ◌++◌, Option, None, Some, IsSome, Result, Ok, Err, OnOk, refl, sym, ap, subst, ◌∙◌, arith}
use Rattle.base_core.specs.Tree.{TreeState, File, IsWellFormed, files_under_map, with_file_changed, after_create, after_append, after_failed_append, after_sync, unchanged_after_failed_call, CanCreate, HasName}
use Rattle.base_core.specs.Calls.{HoldsNow, ChangesHistory}
use Rattle.base_core.specs.Crash.{Since}
use Rattle.base_core.specs.Undone.{IsDurable}
use Rattle.journal_core.specs.Committing.{HasOnlyAddedFile}
use Rattle.journal_core.specs.Filling.{synced_file}
use Rattle.base_core.proofs.Undone.{read_may_be_left}
use Rattle.journal_core.specs.Recovery.{IsStagedNameOf, StateDependsOn, intent_name, intent_of, is_staged, stage_name}
use Rattle.journal_core.specs.Quiet.{StateIsUnchanged}
use Rattle.journal_core.specs.Staged.{IsOnlyNameOfFile}
use Rattle.journal_core.proofs.Acts.{still_on}
use Rattle.journal_intent.proofs.AtName.{put_name-at, put_name-off}
use Rattle.journal_core.proofs.Chain.{Runs, run_begun, run_failed, run_called, run_done, step_now, step_called}
use Rattle.journal_core.proofs.History.{History}
use Rattle.journal_core.proofs.OneCall.{now_is}
use Rattle.journal_intent.proofs.StageNames.{stage_name_no_intent}
use Rattle.journal_core.proofs.Steps.{set_file-at, file_at-set_file, made_later}
use Rattle.journal_core.proofs.First.{no_place_first}
use Rattle.journal_core.proofs.Waiting.{IsOffIn, still_self, still_created, alone_created, still_changed, alone_changed}
use Rattle.journal_core.proofs.Images.{CrashLaws}

-- ---- no state rests on it

module _ (laws : CrashLaws) (place : List ℕ) (place_is : place ≡ stage_name 0) (ignored : List ℕ → Bool) (start : TreeState) (old rest : History) (is : old ≡ start ∷ rest) (whole : IsWellFormed start) (is_durable : IsDurable (StateDependsOn ignored) start) where
  abbrev P : TreeState → Type 0
  P = StateIsUnchanged ignored start

  pub record Open (v : TreeState) : Type 0 where
    is_unchanged : P v
    off : IsOffIn v place
    entire : IsWellFormed v

  pub record Made (v : TreeState) : Type 0 where
    is_unchanged : P v
    alone : IsOnlyNameOfFile place v

  no_intent : place ≢ intent_name
  no_intent e = stage_name_no_intent 0 (sym place_is ∙ e)

  waiting : is_staged place ≡ true
  waiting = ap is_staged place_is

  off : (v : TreeState) → IsOffIn v place
  off v m left = record { waiting = waiting; no_intent = no_intent; no_place = λ at. no_place_first (intent_of (files_under_map v m)) (subst (IsStagedNameOf (intent_of (files_under_map v m))) place_is at) }

  created : (v : TreeState) → Open v → Made (after_create place v)
  created v q = record { is_unchanged = still_on ignored start v (after_create place v) q.is_unchanged (still_created laws ignored place v q.off q.entire q.is_unchanged.is_durable); alone = alone_created place v q.off q.entire }

  changed : (change : File → File) (v : TreeState) → Made v → Made (with_file_changed change v (v.names place))
  changed change v q = record {
    is_unchanged = still_on ignored start v (with_file_changed change v (v.names place)) q.is_unchanged (still_changed laws place waiting no_intent change v q.alone ignored q.is_unchanged.is_durable);
    alone = alone_changed laws place waiting no_intent change v q.alone;
  }

  pub begun : Runs P Open old old
  begun = run_begun P Open old start rest is (record { is_unchanged = still_self ignored start is_durable; off = off start; entire = whole })

  module _ {T E : Type 0} (h new : History) where
    pub make_failed : (e : E) → ChangesHistory {T = T} (CanCreate place) (after_create place) (after_create place) old new (Err e) → Since P old new
    make_failed e moves = run_failed P Open old old new e begun moves (λ v may q. (created v q).is_unchanged)

    pub make_done : (x : T) → ChangesHistory {E = E} (CanCreate place) (after_create place) (after_create place) old new (Ok x) → Runs P Made old new
    make_done x moves = run_done P Open Made old old new x begun moves (λ v q. q.is_unchanged) created

    pub extend_failed : (piece : List ℕ) (e : E) → Runs P Made old h → ChangesHistory {T = T} (HasName place) (after_append place piece) (after_failed_append place) h new (Err e) → Since P old new
    extend_failed piece e runs moves = run_failed P Made old h new e runs moves (λ v may q. (changed (λ f. record { bytes = f.bytes; synced = false }) v q).is_unchanged)

    pub extend_done : (piece : List ℕ) (x : T) → Runs P Made old h → ChangesHistory {E = E} (HasName place) (after_append place piece) (after_failed_append place) h new (Ok x) → Runs P Made old new
    extend_done piece x runs moves = run_done P Made Made old h new x runs moves (λ v q. q.is_unchanged) (changed (λ f. record { bytes = f.bytes ++ piece; synced = false }))

    pub sync_called : (r : Result T E) → Runs P Made old h → ChangesHistory (HasName place) (after_sync place) unchanged_after_failed_call h new r → Since P old new
    sync_called r runs moves = run_called P Made old h new r runs moves (λ v q. (changed (λ f. record { bytes = f.bytes; synced = true }) v q).is_unchanged) (λ v may q. q.is_unchanged)

-- ---- what it holds

module _ (place : List ℕ) (start : TreeState) (whole : IsWellFormed start) where
  written_created : start.names place ≡ None → HasOnlyAddedFile place (record { bytes = []; synced = false }) start (after_create place start)
  written_created absent = record {
    absent = absent;
    number = start.made;
    later = omega arith;
    there = put_name-at start.names place start.made place refl;
    holds = set_file-at start.files start.made _ start.made refl;
    names = λ q ne. put_name-off start.names place start.made q ne;
    kept = λ q n ne at.
        let here : start.names q ≡ Some n = sym (put_name-off start.names place start.made q ne) ∙ at in
        let same : Some ((after_create place start).files n) ≡ Some (start.files n) = file_at-set_file start.files start.made _ (Some n) (λ e. made_later start whole start.names (read_may_be_left start) q (here ∙ e)) in
        cc;
  }

  written_at : (change : File → File) (file : File) (v : TreeState) → (was : HasOnlyAddedFile place file start v) → HasOnlyAddedFile place (change file) start (with_file_changed change v (Some was.number))
  written_at change file v was = record {
    absent = was.absent;
    number = was.number;
    later = was.later;
    there = was.there;
    holds = set_file-at v.files was.number _ was.number refl ∙ ap change was.holds;
    names = was.names;
    kept = λ q n ne at.
        let here : start.names q ≡ Some n = sym (was.names q ne) ∙ at in
        let below = whole.made start.names (inl refl) q n here in
        let late = was.later in
        let same : Some ((with_file_changed change v (Some was.number)).files n) ≡ Some (v.files n) = file_at-set_file v.files was.number _ (Some n) (λ e. let equal : n ≡ was.number = cc in absurd (omega (arith, below, late, equal))) in
        let first : (with_file_changed change v (Some was.number)).files n ≡ v.files n = cc in
        first ∙ was.kept q n ne at;
  }

  written_on : (change : File → File) (file : File) (v : TreeState) → HasOnlyAddedFile place file start v → HasOnlyAddedFile place (change file) start (with_file_changed change v (v.names place))
  written_on change file v was = subst (λ o. HasOnlyAddedFile place (change file) start (with_file_changed change v o)) (sym was.there) (written_at change file v was)

  pub last_written : {T E : Type 0} (bytes : List ℕ) (old rest h k new : History) → old ≡ start ∷ rest → start.names place ≡ None → (x y : T) (r : Result T E)
      → ChangesHistory {E = E} (CanCreate place) (after_create place) (after_create place) old h (Ok x) → ChangesHistory {E = E} (HasName place) (after_append place bytes) (after_failed_append place) h k (Ok y) → ChangesHistory (HasName place) (after_sync place) unchanged_after_failed_call k new r
      → OnOk r (HoldsNow new (HasOnlyAddedFile place (synced_file bytes) start))
  last_written bytes old rest h k new is absent x y r first second last =
      let a = step_now (λ w. w ≡ start) (HasOnlyAddedFile place (record { bytes = []; synced = false }) start) h x old (now_is old start rest (λ w. w ≡ start) is refl) first
      (λ v e. subst (λ (u : TreeState). HasOnlyAddedFile place (record { bytes = []; synced = false }) start (after_create place u)) (sym e) (written_created absent)) in
      let b = step_now (HasOnlyAddedFile place (record { bytes = []; synced = false }) start) (HasOnlyAddedFile place (record { bytes = bytes; synced = false }) start) k y h a second
      (written_on (λ f. record { bytes = f.bytes ++ bytes; synced = false }) (record { bytes = []; synced = false })) in
      step_called (HasOnlyAddedFile place (record { bytes = bytes; synced = false }) start) (HasOnlyAddedFile place (synced_file bytes) start) new r k b last
      (written_on (λ f. record { bytes = f.bytes; synced = true }) (record { bytes = bytes; synced = false }))

-- ---- it is there

pub some_created : (place : List ℕ) (v : TreeState) → HasName place (after_create place v)
some_created place v = subst IsSome (sym (put_name-at v.names place v.made place refl)) refl

pub some_changed : (change : File → File) (place : List ℕ) (v : TreeState) → HasName place v → HasName place (with_file_changed change v (v.names place))
some_changed change place v some = by (v.names place)
  where
    by : (o : Option ℕ) → IsSome ((with_file_changed change v o).names place)
    by None = some
    by (Some n) = some
