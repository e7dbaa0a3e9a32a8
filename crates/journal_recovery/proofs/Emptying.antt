-- All staged files are removed, as they are listed.
use Rattle.std.proofs.Common.{◌≡◌, ℕ, Bool, List, None, Result, Ok, OnOk}
use Rattle.base_core.specs.Calls.{IfObservable}
use Rattle.base_core.specs.Crash.{Since}
use Rattle.base_core.specs.Listed.{AreSortedAndEachBelowFolder, IsSortedListingOfFolder}
use Rattle.base_core.specs.Undone.{IsDurable}
use Rattle.journal_core.specs.Quiet.{StateIsUnchanged}
use Rattle.journal_core.specs.Recovering.{AreStagedNames}
use Rattle.journal_core.specs.Recovery.{StateDependsOn, intent_name, stage_folder}
use Rattle.journal_core.proofs.Cleaned.{empty_emptied, empty_idle, empty_moments, empty_none, empty_shown, empty_shown_none}
use Rattle.journal_core.proofs.History.{History, on_observable}
use Rattle.journal_core.proofs.Lasting.{stays_back}
use Rattle.journal_core.proofs.Leaving.{empty_lasts, empty_lasts_none, waiting_back, waiting_none}
use Rattle.journal_recovery.specs.RecoveryContracts.{EmptiesStage, RemovesStagedNames}
use Rattle.journal_recovery.proofs.Replaying.{off_ok}

-- no call changed the tree
pub emptying_stops : {T E : Type 0} (old new : History) → new ≡ old → (r : Result T E) → OnOk r ⊥ → EmptiesStage old new r
emptying_stops old new same r error = record {
  moments = empty_none old new same;
  shown = empty_shown_none old new same;
  waiting = waiting_none old new same;
  last = empty_lasts_none old new same;
  emptied = on_observable old _ (λ v rest is. off_ok _ r error);
  gone = on_observable old _ (λ v rest is. off_ok _ r error);
  idle = on_observable old _ (λ v rest is none. same);
}

-- the names were listed, which changed nothing, and removed
module _ {T E A B : Type 0} (names : List (List ℕ)) (folder : List ℕ) (folder_is : folder ≡ stage_folder) (old mid new : History) (same : mid ≡ old)
    (listed : IfObservable old (λ v. IsSortedListingOfFolder folder v names)) (below : AreSortedAndEachBelowFolder folder names)
    (moments : IfObservable mid (λ v. (ignored : List ℕ → Bool) → IsDurable (StateDependsOn ignored) v → v.names intent_name ≡ None → AreStagedNames names → Since (StateIsUnchanged ignored v) mid new)) where
  pub emptying_fails : (s : Result A B) → RemovesStagedNames names mid new s → (r : Result T E) → OnOk r ⊥ → EmptiesStage old new r
  emptying_fails s removal r error = record {
    moments = empty_moments names folder folder_is old mid new same below moments;
    shown = empty_shown names folder folder_is old mid new same below removal.shown;
    waiting = waiting_back old mid new same removal.waiting;
    last = empty_lasts names folder folder_is old mid new same below removal.last;
    emptied = on_observable old _ (λ v rest is. off_ok _ r error);
    gone = on_observable old _ (λ v rest is. off_ok _ r error);
    idle = empty_idle names folder folder_is old mid new same listed removal.none;
  }

  pub emptying_done : (a : A) → RemovesStagedNames {E = B} names mid new (Ok a) → (x : T) → EmptiesStage {E = E} old new (Ok x)
  emptying_done a removal x = record {
    moments = empty_moments names folder folder_is old mid new same below moments;
    shown = empty_shown names folder folder_is old mid new same below removal.shown;
    waiting = waiting_back old mid new same removal.waiting;
    last = empty_lasts names folder folder_is old mid new same below removal.last;
    emptied = empty_emptied names folder folder_is old mid new same listed removal.cleared;
    gone = stays_back old mid new same removal.gone;
    idle = empty_idle names folder folder_is old mid new same listed removal.none;
  }
