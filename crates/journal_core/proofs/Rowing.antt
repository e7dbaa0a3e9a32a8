-- The actions of a stage, one after another.
use Rattle.std.proofs.Common.{◌≡◌, ◌≤◌, ◌<◌, ◌+◌, ℕ, nat_lt, Bool, true, List, refl, sym, ap, subst, ◌∙◌, arith}
use Rattle.std.proofs.lemmas.Bool.{ltb-true}
use Rattle.base_core.specs.Files.{Files}
use Rattle.base_core.specs.Tree.{TreeState}
use Rattle.base_core.specs.Calls.{IfObservable, HoldsNow}
use Rattle.base_core.specs.Crash.{Since}
use Rattle.base_core.specs.Undone.{IsDurable}
use Rattle.journal_core.specs.Recovery.{StateDependsOn}
use Rattle.journal_core.specs.Kept.{RecoversTo}
use Rattle.journal_core.specs.Quiet.{StateIsUnchanged}
use Rattle.journal_core.specs.Staged.{Staging, AreIntentAndStagedPathsFree, IsCarryingOutActions, action_count}
use Rattle.journal_core.specs.Acting.{IsDuringActions}
use Rattle.journal_core.proofs.Acts.{still_on}
use Rattle.journal_core.proofs.Chain.{Runs, by_now, now_both, run_begun}
use Rattle.journal_core.proofs.History.{History, none_since, now_map, now_since, on_observable, since_on, since_weaker, observable_at, observable_map}
use Rattle.journal_core.proofs.OneCall.{now_is}
use Rattle.journal_core.proofs.Waiting.{still_self}

abbrev pub Rowed : Staging → Staging → History → History → Type 0
Rowed first now old h = IfObservable old (λ v. (ignored : List ℕ → Bool) (files : Files) → IsDurable (StateDependsOn ignored) v → IsCarryingOutActions first files v → Runs (StateIsUnchanged ignored v) (IsDuringActions ignored files now v) old h)

abbrev pub ActsOn : Staging → Staging → History → History → Type 0
ActsOn first now old h = IfObservable old (λ v. (files : Files) → IsCarryingOutActions first files v → HoldsNow h (IsCarryingOutActions now files))

abbrev pub Proper : Staging → History → ℕ → ℕ → Type 0
Proper first old a b = IfObservable old (λ v. (files : Files) → IsCarryingOutActions first files v → AreIntentAndStagedPathsFree files → b ≡ a)

pub rowed_start : (s : Staging) (old : History) → Rowed s s old old
rowed_start s old = on_observable old _ (λ v rest is ignored files is_durable acting. run_begun (StateIsUnchanged ignored v) (IsDuringActions ignored files s v) old v rest is (record { is_unchanged = still_self ignored v is_durable; acting = acting }))

pub acts_start : (s : Staging) (old : History) → ActsOn s s old old
acts_start s old = on_observable old _ (λ v rest is files acting. now_is old v rest (IsCarryingOutActions s files) is acting)

pub proper_start : (s : Staging) (old : History) (a : ℕ) → Proper s old a a
proper_start s old a = on_observable old _ (λ v rest is files acting room. refl)

module _ (first now : Staging) (old h new : History) where
  abbrev Moments : Type 0
  Moments = IfObservable h (λ u. (ignored : List ℕ → Bool) (files : Files) → IsDurable (StateDependsOn ignored) u → IsCarryingOutActions now files u → Since (StateIsUnchanged ignored u) h new)

  since_more : (ignored : List ℕ → Bool) (files : Files) (v : TreeState) → Runs (StateIsUnchanged ignored v) (IsDuringActions ignored files now v) old h → Moments → Since (StateIsUnchanged ignored v) old new
  since_more ignored files v runs moments =
      since_on (StateIsUnchanged ignored v) old h new runs.since
      (by_now h (IsDuringActions ignored files now v) (Since (StateIsUnchanged ignored v) h new) runs.now
      (observable_map h _ (λ u. IsDuringActions ignored files now v u → Since (StateIsUnchanged ignored v) h new) moments (λ u t goes. since_weaker (StateIsUnchanged ignored u) (StateIsUnchanged ignored v) h new (λ w. still_on ignored v u w goes.is_unchanged) (t ignored files goes.is_unchanged.is_durable goes.acting))))

  pub rowed_called : Rowed first now old h → Moments → IfObservable old (λ v. (ignored : List ℕ → Bool) (files : Files) → IsDurable (StateDependsOn ignored) v → IsCarryingOutActions first files v → Since (StateIsUnchanged ignored v) old new)
  rowed_called rowed moments = observable_map old _ _ rowed (λ v r ignored files is_durable acting. since_more ignored files v (r ignored files is_durable acting) moments)

  module _ (next : Staging) (acting : IfObservable h (λ u. (files : Files) → IsCarryingOutActions now files u → HoldsNow new (IsCarryingOutActions next files))) where
    pub rowed_done : Rowed first now old h → Moments → Rowed first next old new
    rowed_done rowed moments = on_observable old _ (λ v rest is ignored files is_durable at.
        let runs = observable_at old v rest is (λ u. (Y : List ℕ → Bool) (F : Files) → IsDurable (StateDependsOn Y) u → IsCarryingOutActions first F u → Runs (StateIsUnchanged Y u) (IsDuringActions Y F now u) old h) rowed ignored files is_durable at in
        let since = since_more ignored files v runs moments in
        record {
          since = since;
          now = now_map new (λ w. StateIsUnchanged ignored v w × IsCarryingOutActions next files w) (IsDuringActions ignored files next v)
              (now_both new (StateIsUnchanged ignored v) (IsCarryingOutActions next files) (now_since (StateIsUnchanged ignored v) old new v rest is (still_self ignored v is_durable) since)
              (by_now h (IsDuringActions ignored files now v) (HoldsNow new (IsCarryingOutActions next files)) runs.now (observable_map h _ (λ u. IsDuringActions ignored files now v u → HoldsNow new (IsCarryingOutActions next files)) acting (λ u t goes. t files goes.acting))))
              (λ w q. record { is_unchanged = q.0; acting = q.1 });
        })

    pub acts_done : ActsOn first now old h → ActsOn first next old new
    acts_done acts = observable_map old _ _ acts (λ v a files at. by_now h (IsCarryingOutActions now files) (HoldsNow new (IsCarryingOutActions next files)) (a files at) (observable_map h _ (λ u. IsCarryingOutActions now files u → HoldsNow new (IsCarryingOutActions next files)) acting (λ u t. t files)))

-- what the files as read stand for so far
abbrev pub ReadsOn : Staging → History → History → Type 0
ReadsOn first old h = IfObservable old (λ v. (files : Files) → IsCarryingOutActions first files v → Since (RecoversTo files) old h)

pub reads_start : (s : Staging) (old : History) → ReadsOn s old old
reads_start s old = on_observable old _ (λ v rest is files acting. none_since (RecoversTo files) old)

pub reads_called : (first now : Staging) (old h new : History) → ActsOn first now old h → ReadsOn first old h → IfObservable h (λ u. (files : Files) → IsCarryingOutActions now files u → Since (RecoversTo files) h new) → ReadsOn first old new
reads_called first now old h new acts reads more = on_observable old _ (λ v rest is files at.
    since_on (RecoversTo files) old h new (observable_at old v rest is (λ u. (F : Files) → IsCarryingOutActions first F u → Since (RecoversTo F) old h) reads files at)
    (by_now h (IsCarryingOutActions now files) (Since (RecoversTo files) h new) (observable_at old v rest is (λ u. (F : Files) → IsCarryingOutActions first F u → HoldsNow h (IsCarryingOutActions now F)) acts files at)
    (observable_map h _ (λ u. IsCarryingOutActions now files u → Since (RecoversTo files) h new) more (λ u t. t files))))

-- the misuses so far
module _ (first now : Staging) (old h : History) (a b c : ℕ) where
  pub proper_done : ActsOn first now old h → Proper first old a b → IfObservable h (λ u. (files : Files) → IsCarryingOutActions now files u → AreIntentAndStagedPathsFree files → c ≡ b) → Proper first old a c
  proper_done acts so_far more = on_observable old _ (λ v rest is files at room.
      by_now h (IsCarryingOutActions now files) (c ≡ b) (observable_at old v rest is (λ u. (F : Files) → IsCarryingOutActions first F u → HoldsNow h (IsCarryingOutActions now F)) acts files at) (observable_map h _ (λ u. IsCarryingOutActions now files u → c ≡ b) more (λ u t acting. t files acting room))
      ∙ observable_at old v rest is (λ u. (F : Files) → IsCarryingOutActions first F u → AreIntentAndStagedPathsFree F → b ≡ a) so_far files at room)

pub rowed_ends : (first now : Staging) (old h : History) → Rowed first now old h → IfObservable old (λ v. (ignored : List ℕ → Bool) (files : Files) → IsDurable (StateDependsOn ignored) v → IsCarryingOutActions first files v → Since (StateIsUnchanged ignored v) old h)
rowed_ends first now old h rowed = observable_map old _ _ rowed (λ v r ignored files is_durable acting. (r ignored files is_durable acting).since)

-- ---- counts, and how many are left

pub left_of : (b : Bool) (n m : ℕ) → b ≡ nat_lt n m → b ≡ true → n < m
left_of b n m is holds = ltb-true n m (sym is ∙ holds)

pub within_next : (old new : Staging) → old.acted < action_count old.intent → new ≡ record old { acted = old.acted + 1 } → new.acted ≤ action_count new.intent
within_next old new less is = subst (λ (s : Staging). s.acted ≤ action_count s.intent) (sym is) (omega (arith, less))

pub published_next : (now next : Staging) → now.published ≡ true → next ≡ record now { acted = now.acted + 1 } → next.published ≡ true
published_next now next published is = ap (λ (s : Staging). s.published) is ∙ published
