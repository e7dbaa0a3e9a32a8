-- What follows of the newest state, if the history is observable.
use Rattle.std.proofs.Common.{◌≡◌, List, [], ◌∷◌, subst, arith}
use Rattle.std.specs.List.{All}
use Rattle.base_core.specs.Calls.{IfObservable}
use Rattle.base_core.specs.Tree.{IsWellFormed, TreeState}

pub observed_by : (h : List TreeState) (P Q : TreeState → Type 0) → ((v : TreeState) → P v → Q v) → IfObservable h P → IfObservable h Q
observed_by [] P Q step p = tt
observed_by (v ∷ h) P Q step p = step v p

-- from two facts, the second of a history that is the same
pub observed_by_two : (old h : List TreeState) (P Q R : TreeState → Type 0) → h ≡ old → ((v : TreeState) → P v → Q v → R v) → IfObservable old P → IfObservable h Q → IfObservable old R
observed_by_two [] h P Q R same step p q = tt
observed_by_two (v ∷ old) h P Q R same step p q = step v p (subst (λ (l : List TreeState). IfObservable l Q) same q)

pub observed_whole : (h : List TreeState) → All IsWellFormed h → IfObservable h IsWellFormed
observed_whole [] all = tt
observed_whole (v ∷ h) all = all 0 v (omega arith)

-- what holds without a state holds of the newest one
pub observed_always : (h : List TreeState) (P : Type 0) → P → IfObservable h (λ v. P)
observed_always [] P holds = tt
observed_always (v ∷ h) P holds = holds

-- what holds of each state holds of the newest one
pub observed_each : (h : List TreeState) (P : TreeState → Type 0) → ((v : TreeState) → P v) → IfObservable h P
observed_each [] P each = tt
observed_each (v ∷ h) P each = each v
