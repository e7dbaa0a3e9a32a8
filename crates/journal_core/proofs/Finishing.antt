-- The end of a stage, call by call.
use Rattle.std.proofs.Common.{◌≡◌, ℕ, Bool, List, [], ◌∷◌, refl, None, Result, Ok, Err, OnOk, sym, ap, subst, ◌∙◌}
use Rattle.base_core.specs.Files.{Files}
use Rattle.base_core.specs.Tree.{TreeState, bytes_of_file_number, files_of, after_remove, after_sync_names, unchanged_after_failed_call, IsAlwaysAllowed}
use Rattle.base_core.specs.Calls.{HoldsNow, ChangesHistory}
use Rattle.base_core.specs.Crash.{Since}
use Rattle.base_core.specs.Undone.{IsDurable}
use Rattle.journal_core.specs.Recovery.{EachCrashLeavesStateOf, StateDependsOn, intent_in_file, intent_name, files_after_intent}
use Rattle.journal_core.specs.Kept.{RecoversTo}
use Rattle.journal_core.specs.Quiet.{StateIsUnchanged}
use Rattle.journal_core.specs.Staged.{Staging, IsCarryingOutActions, action_count}
use Rattle.journal_core.proofs.History.{History}
use Rattle.journal_core.proofs.OneCall.{now_is}
use Rattle.journal_core.proofs.Chain.{Runs, run_begun, run_failed, run_called, run_done, step_now, step_called}
use Rattle.journal_core.proofs.Waiting.{still_self}
use Rattle.journal_core.proofs.Acts.{IsGone, drop_gone, drop_still, still_on, sync_acting, sync_settled, sync_still}
use Rattle.journal_core.proofs.Images.{CrashLaws}

module _ (laws : CrashLaws) (stage : Staging) (all : stage.acted ≡ action_count stage.intent) (name : List ℕ) (name_is : name ≡ intent_name) (ignored : List ℕ → Bool) (files : Files) (start : TreeState) (old rest : History) (is : old ≡ start ∷ rest) (is_durable : IsDurable (StateDependsOn ignored) start) (acting : IsCarryingOutActions stage files start) where
  abbrev P : TreeState → Type 0
  P = StateIsUnchanged ignored start

  pub record Acting (v : TreeState) : Type 0 where
    is_unchanged : P v
    acts : IsCarryingOutActions stage files v

  -- and no crash undoes a change of names
  pub record Once (v : TreeState) : Type 0 where
    goes : Acting v
    one : v.older ≡ []

  pub record Gone (v : TreeState) : Type 0 where
    is_unchanged : P v
    gone : IsGone files v

  synced : (v : TreeState) → Acting v → Once (after_sync_names v)
  synced v q = record { goes = record { is_unchanged = still_on ignored start v (after_sync_names v) q.is_unchanged (sync_still ignored v q.is_unchanged.is_durable); acts = sync_acting stage files v q.acts }; one = refl }

  dropped : (v : TreeState) → Once v → Gone (after_remove name v)
  dropped v q = subst (λ (n : List ℕ). Gone (after_remove n v)) (sym name_is) (record {
    is_unchanged = still_on ignored start v (after_remove intent_name v) q.goes.is_unchanged (drop_still laws stage files v q.goes.acts all ignored q.one q.goes.is_unchanged.is_durable);
    gone = drop_gone laws stage files v q.goes.acts all;
  })

  pub begun : Runs P Acting old old
  begun = run_begun P Acting old start rest is (record { is_unchanged = still_self ignored start is_durable; acts = acting })

  module _ {T E : Type 0} (h new : History) where
    pub sync_failed : (e : E) → ChangesHistory {T = T} IsAlwaysAllowed after_sync_names unchanged_after_failed_call old new (Err e) → Since P old new
    sync_failed e moves = run_failed P Acting old old new e begun moves (λ v may q. q.is_unchanged)

    pub sync_done : (x : T) → ChangesHistory {E = E} IsAlwaysAllowed after_sync_names unchanged_after_failed_call old new (Ok x) → Runs P Once old new
    sync_done x moves = run_done P Acting Once old old new x begun moves (λ v q. q.goes.is_unchanged) synced

    pub drop_failed : (e : E) → Runs P Once old h → ChangesHistory {T = T} IsAlwaysAllowed (after_remove name) (after_remove name) h new (Err e) → Since P old new
    drop_failed e runs moves = run_failed P Once old h new e runs moves (λ v may q. (dropped v q).is_unchanged)

    pub drop_done : (x : T) → Runs P Once old h → ChangesHistory {E = E} IsAlwaysAllowed (after_remove name) (after_remove name) h new (Ok x) → Runs P Gone old new
    drop_done x runs moves = run_done P Once Gone old h new x runs moves (λ v q. q.is_unchanged) dropped

    pub last_called : (r : Result T E) → Runs P Gone old h → ChangesHistory IsAlwaysAllowed after_sync_names unchanged_after_failed_call h new r → Since P old new
    last_called r runs moves = run_called P Gone old h new r runs moves (λ v q. still_on ignored start v (after_sync_names v) q.is_unchanged (sync_still ignored v q.is_unchanged.is_durable)) (λ v may q. q.is_unchanged)

    pub last_settled : (r : Result T E) → Runs P Gone old h → ChangesHistory IsAlwaysAllowed after_sync_names unchanged_after_failed_call h new r → OnOk r (HoldsNow new (EachCrashLeavesStateOf ignored files))
    last_settled r runs moves = step_called Gone (EachCrashLeavesStateOf ignored files) new r h runs.now moves (λ v q. subst (λ (F : Files). EachCrashLeavesStateOf ignored F (after_sync_names v)) q.gone.reads (sync_settled laws ignored v q.is_unchanged.is_durable))

-- what is read, whatever the order
module _ (laws : CrashLaws) (stage : Staging) (all : stage.acted ≡ action_count stage.intent) (name : List ℕ) (name_is : name ≡ intent_name) (files : Files) (start : TreeState) (old rest : History) (is : old ≡ start ∷ rest) (acting : IsCarryingOutActions stage files start) where
  module _ {T E : Type 0} (h k new : History) where
    pub last_files : (x y : T) (r : Result T E) → ChangesHistory {E = E} IsAlwaysAllowed after_sync_names unchanged_after_failed_call old h (Ok x) → ChangesHistory {E = E} IsAlwaysAllowed (after_remove name) (after_remove name) h k (Ok y) → ChangesHistory IsAlwaysAllowed after_sync_names unchanged_after_failed_call k new r
        → OnOk r (HoldsNow new (λ w. (files_of w ≡ files) × (w.names intent_name ≡ None)))
    last_files x y r first second last =
        let a = step_now (IsCarryingOutActions stage files) (IsCarryingOutActions stage files) h x old (now_is old start rest (IsCarryingOutActions stage files) is acting) first (sync_acting stage files) in
        let b = step_now (IsCarryingOutActions stage files) (IsGone files) k y h a second (λ v q. subst (λ (n : List ℕ). IsGone files (after_remove n v)) (sym name_is) (drop_gone laws stage files v q all)) in
        step_called (IsGone files) (λ w. (files_of w ≡ files) × (w.names intent_name ≡ None)) new r k b last (λ v q. (q.reads, q.absent))

  abbrev S : TreeState → Type 0
  S = RecoversTo files

  abbrev A : TreeState → Type 0
  A = IsCarryingOutActions stage files

  gone_stands : (v : TreeState) → IsGone files v → S v
  gone_stands v gone = ap (λ o. files_after_intent o (files_of v)) (ap intent_in_file (ap (bytes_of_file_number v.files) gone.absent)) ∙ gone.reads

  gone_at : (v : TreeState) → A v → IsGone files (after_remove name v)
  gone_at v q = subst (λ (n : List ℕ). IsGone files (after_remove n v)) (sym name_is) (drop_gone laws stage files v q all)

  begun_acting : Runs S A old old
  begun_acting = run_begun S A old start rest is acting

  module _ {T E : Type 0} (h new : History) where
    pub stands_synced : (x : T) → ChangesHistory {E = E} IsAlwaysAllowed after_sync_names unchanged_after_failed_call old new (Ok x) → Runs S A old new
    stands_synced x moves = run_done S A A old old new x begun_acting moves (λ v q. q.reads) (sync_acting stage files)

    pub stands_drop_failed : (e : E) → Runs S A old h → ChangesHistory {T = T} IsAlwaysAllowed (after_remove name) (after_remove name) h new (Err e) → Since S old new
    stands_drop_failed e runs moves = run_failed S A old h new e runs moves (λ v may q. gone_stands (after_remove name v) (gone_at v q))

    pub stands_dropped : (x : T) → Runs S A old h → ChangesHistory {E = E} IsAlwaysAllowed (after_remove name) (after_remove name) h new (Ok x) → Runs S (IsGone files) old new
    stands_dropped x runs moves = run_done S A (IsGone files) old h new x runs moves gone_stands gone_at

    pub stands_last : (r : Result T E) → Runs S (IsGone files) old h → ChangesHistory IsAlwaysAllowed after_sync_names unchanged_after_failed_call h new r → Since S old new
    stands_last r runs moves = run_called S (IsGone files) old h new r runs moves (λ v q. gone_stands v q) (λ v may q. gone_stands v q)
