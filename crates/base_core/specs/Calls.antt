-- What holds of the tree's history and counts over a call. The rules are in `docs/crash-safety.md`,
-- "Moments" (the history) and "Misuses, faults and counts".
use Rattle.std.specs.Prelude.{◌≡◌, ◌⊎◌, List, [], ◌∷◌, Result, OnOk, OnErr}
use Rattle.base_core.specs.Tree.{TreeState}
use Rattle.base_core.specs.Faults.{Counts, CountsOnlyRise, CountsNewFaultWithCause, CountsNoNewFaultOrLackOfMemory, saturating_increment}

-- The history of a tree is the list of its states so far, the newest first. It is observable if it is not empty. A tree
-- whose states contracts cannot know, such as the host's tree, has an empty history.

-- P holds of the newest state, if the history is observable
abbrev pub IfObservable : List TreeState → (TreeState → Type 0) → Type 0
IfObservable [] P = Unit {0}
IfObservable (v ∷ earlier) P = P v

-- the history is observable, and P holds of the newest state
abbrev pub HoldsNow : List TreeState → (TreeState → Type 0) → Type 0
HoldsNow [] P = ⊥
HoldsNow (v ∷ earlier) P = P v

-- how a call that writes changes the history from `old` to `new`: a success adds the state that `done` makes of the
-- newest state; a failure adds the state that `failed` makes of it, or none, and none if the call was a misuse. `can`
-- says at which states the call is no misuse
pub record ChangesHistory {T E : Type 0} (can : TreeState → Type 0) (done failed : TreeState
    → TreeState)
    (old new : List TreeState) (result : Result T E) : Type 0 where
  -- a history that is not observable (empty) stays so
  pub unobservable : old ≡ [] → new ≡ []
  -- success adds exactly the state that `done` makes of the newest state
  pub ok : OnOk result (IfObservable old (λ v. new ≡ done v ∷ old))
  -- failure adds no state, or, if the call was no misuse, the state that `failed` makes of the newest state
  pub err : OnErr result (IfObservable old (λ v. (new ≡ old) ⊎ (can v × (new ≡ failed v ∷ old))))

-- how a call of a tree changes the counts, from `before` to `now`, given its result. `can` says at which states the
-- call is no misuse, and `history` is the history before the call
pub record IsCounted {T E : Type 0} (can : TreeState → Type 0) (history : List TreeState)
    (before now : Counts) (result : Result T E) : Type 0 where
  -- no count falls
  pub goes_on : CountsOnlyRise before now
  -- an error is counted as a fault, and a reason for it is counted or allowed
  pub cause : OnErr result (CountsNewFaultWithCause before now)
  -- a call that succeeds counts neither a fault nor a lack of memory
  pub kept : OnOk result (CountsNoNewFaultOrLackOfMemory before now)
  -- a call that succeeds was allowed at the newest state
  pub allowed : OnOk result (IfObservable history can)
  -- if the state allows the call, no misuse is counted
  pub proper : IfObservable history (λ v. can v → now.misuses ≡ before.misuses)
  -- if the state does not allow the call, one more misuse is counted
  pub misuse : IfObservable history (λ v. (can v → ⊥) → now.misuses ≡ saturating_increment before.misuses)
