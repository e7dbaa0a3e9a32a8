-- All actions of an intent, and the end behind them.
use Rattle.std.proofs.Common.{◌≡◌, ℕ, Bool, List, None, Result, OnOk}
use Rattle.base_core.specs.Calls.{HoldsNow, IfObservable}
use Rattle.base_core.specs.Crash.{Since}
use Rattle.base_core.specs.Undone.{IsDurable}
use Rattle.base_core.specs.Files.{Files}
use Rattle.base_core.specs.Tree.{files_of}
use Rattle.journal_core.specs.Acting.{IsDuringActions}
use Rattle.journal_core.specs.Quiet.{StateIsUnchanged}
use Rattle.journal_core.specs.Recovery.{EachCrashLeavesStateOf, StateDependsOn, intent_name}
use Rattle.journal_core.specs.Staged.{AreIntentAndStagedPathsFree, IsCarryingOutActions, Staging}
use Rattle.journal_core.proofs.Chain.{by_now}
use Rattle.journal_core.proofs.History.{History, observable_map}
use Rattle.journal_core.proofs.Rowing.{Rowed, proper_done, rowed_called, rowed_done, rowed_start}

module _ (first next : Staging) (old mid new : History)
    (acting : IfObservable old (λ v. (files : Files) → IsCarryingOutActions first files v → HoldsNow mid (IsCarryingOutActions next files))) where
  module _ (moments : IfObservable old (λ v. (ignored : List ℕ → Bool) (files : Files) → IsDurable (StateDependsOn ignored) v → IsCarryingOutActions first files v → Since (StateIsUnchanged ignored v) old mid)) where
    rowed : Rowed first next old mid
    rowed = rowed_done first first old old mid next acting (rowed_start first old) moments

    pub end_moments : IfObservable mid (λ u. (ignored : List ℕ → Bool) (files : Files) → IsDurable (StateDependsOn ignored) u → IsCarryingOutActions next files u → Since (StateIsUnchanged ignored u) mid new)
        → IfObservable old (λ v. (ignored : List ℕ → Bool) (files : Files) → IsDurable (StateDependsOn ignored) v → IsCarryingOutActions first files v → Since (StateIsUnchanged ignored v) old new)
    end_moments last = rowed_called first next old mid new rowed last

    pub end_settled : {T E : Type 0} (r : Result T E)
        → IfObservable mid (λ u. (ignored : List ℕ → Bool) (files : Files) → IsDurable (StateDependsOn ignored) u → IsCarryingOutActions next files u → OnOk r (HoldsNow new (EachCrashLeavesStateOf ignored files)))
        → IfObservable old (λ v. (ignored : List ℕ → Bool) (files : Files) → IsDurable (StateDependsOn ignored) v → IsCarryingOutActions first files v → OnOk r (HoldsNow new (EachCrashLeavesStateOf ignored files)))
    end_settled r last = observable_map old _ _ rowed (λ v runs ignored files is_durable at.
        by_now mid (IsDuringActions ignored files next v) (OnOk r (HoldsNow new (EachCrashLeavesStateOf ignored files))) (runs ignored files is_durable at).now
        (observable_map mid _ (λ u. IsDuringActions ignored files next v u → OnOk r (HoldsNow new (EachCrashLeavesStateOf ignored files))) last (λ u t goes. t ignored files goes.is_unchanged.is_durable goes.acting)))

  pub end_files : {T E : Type 0} (r : Result T E) → IfObservable mid (λ u. (files : Files) → IsCarryingOutActions next files u → OnOk r (HoldsNow new (λ w. (files_of w ≡ files) × (w.names intent_name ≡ None))))
      → IfObservable old (λ v. (files : Files) → IsCarryingOutActions first files v → OnOk r (HoldsNow new (λ w. (files_of w ≡ files) × (w.names intent_name ≡ None))))
  end_files r last = observable_map old _ _ acting (λ v a files at.
      by_now mid (IsCarryingOutActions next files) (OnOk r (HoldsNow new (λ w. (files_of w ≡ files) × (w.names intent_name ≡ None)))) (a files at)
      (observable_map mid _ (λ u. IsCarryingOutActions next files u → OnOk r (HoldsNow new (λ w. (files_of w ≡ files) × (w.names intent_name ≡ None)))) last (λ u t. t files)))

  pub end_proper : (a b c : ℕ) → IfObservable old (λ v. (files : Files) → IsCarryingOutActions first files v → AreIntentAndStagedPathsFree files → b ≡ a) → IfObservable mid (λ u. c ≡ b)
      → IfObservable old (λ v. (files : Files) → IsCarryingOutActions first files v → AreIntentAndStagedPathsFree files → c ≡ a)
  end_proper a b c proper last = proper_done first next old mid a b c acting proper (observable_map mid _ _ last (λ u same files acts room. same))
