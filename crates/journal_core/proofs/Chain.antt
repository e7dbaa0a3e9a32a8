-- Calls of the tree in a row, each with what it finds of the newest state.
use Rattle.std.proofs.Common.{◌≡◌, ⊎_elim, [], ◌∷◌, Result, Ok, Err, OnOk}
use Rattle.base_core.specs.Tree.{TreeState}
use Rattle.base_core.specs.Calls.{IfObservable, HoldsNow, ChangesHistory, IsCounted}
use Rattle.base_core.specs.Faults.{Counts}
use Rattle.base_core.specs.Crash.{Since}
use Rattle.journal_core.proofs.History.{History, none_since, one_more, no_more}
use Rattle.journal_core.proofs.OneCall.{now_is}

-- the moments since, and a fact of the newest state
pub record Runs (P Q : TreeState → Type 0) (old h : History) : Type 0 where
  pub since : Since P old h
  pub now : HoldsNow h Q

pub run_begun : (P Q : TreeState → Type 0) (old : History) (v : TreeState) (rest : History) → old ≡ v ∷ rest → Q v → Runs P Q old old
run_begun P Q old v rest is q = record { since = none_since P old; now = now_is old v rest Q is q }

module _ {T E : Type 0} {can : TreeState → Type 0} {done failed : TreeState → TreeState} (P Q : TreeState → Type 0) (old h new : History) where
  failed_by : (e : E) (h : History) → Since P old h → HoldsNow h Q → ChangesHistory {T = T} can done failed h new (Err e) → ((v : TreeState) → can v → Q v → P (failed v)) → Since P old new
  failed_by e [] since now moves fails = absurd now
  failed_by e (v ∷ h) since now moves fails = ⊎_elim (λ same. no_more P old (v ∷ h) new since same) (λ more. one_more P old (v ∷ h) new (failed v) since more.1 (fails v more.0 now)) moves.err

  done_by : (x : T) (h : History) → Since P old h → HoldsNow h Q → ChangesHistory {E = E} can done failed h new (Ok x) → ((v : TreeState) → Q v → P (done v)) → Since P old new
  done_by x [] since now moves keeps = absurd now
  done_by x (v ∷ h) since now moves keeps = one_more P old (v ∷ h) new (done v) since moves.ok (keeps v now)

  pub run_failed : (e : E) → Runs P Q old h → ChangesHistory {T = T} can done failed h new (Err e) → ((v : TreeState) → can v → Q v → P (failed v)) → Since P old new
  run_failed e runs moves fails = failed_by e h runs.since runs.now moves fails

  pub run_called : (r : Result T E) → Runs P Q old h → ChangesHistory can done failed h new r → ((v : TreeState) → Q v → P (done v)) → ((v : TreeState) → can v → Q v → P (failed v)) → Since P old new
  run_called (Ok x) runs moves keeps fails = done_by x h runs.since runs.now moves keeps
  run_called (Err e) runs moves keeps fails = failed_by e h runs.since runs.now moves fails

module _ {T E : Type 0} {can : TreeState → Type 0} {done failed : TreeState → TreeState} (Q R : TreeState → Type 0) (new : History) where
  pub step_now : (x : T) (h : History) → HoldsNow h Q → ChangesHistory {E = E} can done failed h new (Ok x) → ((v : TreeState) → Q v → R (done v)) → HoldsNow new R
  step_now x [] now moves step = absurd now
  step_now x (v ∷ h) now moves step = now_is new (done v) (v ∷ h) R moves.ok (step v now)

  pub step_called : (r : Result T E) (h : History) → HoldsNow h Q → ChangesHistory can done failed h new r → ((v : TreeState) → Q v → R (done v)) → OnOk r (HoldsNow new R)
  step_called (Ok x) h now moves step = step_now x h now moves step
  step_called (Err e) h now moves step = tt

pub run_done : {T E : Type 0} {can : TreeState → Type 0} {done failed : TreeState → TreeState} (P Q R : TreeState → Type 0) (old h new : History) (x : T) → Runs P Q old h → ChangesHistory {E = E} can done failed h new (Ok x)
    → ((v : TreeState) → R v → P v) → ((v : TreeState) → Q v → R (done v)) → Runs P R old new
run_done {done = done} P Q R old h new x runs moves keeps step = record {
  since = done_by P Q old h new x h runs.since runs.now moves (λ v q. keeps (done v) (step v q));
  now = step_now Q R new x h runs.now moves step;
}

-- ---- misuses

pub proper_now : {T E : Type 0} {can : TreeState → Type 0} (Q : TreeState → Type 0) (before now : Counts) (h : History) (r : Result T E) → HoldsNow h Q → IsCounted can h before now r → ((v : TreeState) → Q v → can v) → now.misuses ≡ before.misuses
proper_now Q before now [] r told counted may = absurd told
proper_now Q before now (v ∷ h) r told counted may = counted.proper (may v told)

abbrev pub IsAny : TreeState → Type 0
IsAny v = Unit {0}

pub any_now : (h : History) (v : TreeState) (rest : History) → h ≡ v ∷ rest → HoldsNow h IsAny
any_now h v rest is = now_is h v rest IsAny is tt

pub any_step : {T E : Type 0} {can : TreeState → Type 0} {done failed : TreeState → TreeState} (h new : History) (x : T) → HoldsNow h IsAny → ChangesHistory {E = E} can done failed h new (Ok x) → HoldsNow new IsAny
any_step h new x now moves = step_now IsAny IsAny new x h now moves (λ v q. tt)

-- ---- the newest state

-- what the newest state allows
pub by_now : (h : History) (Q : TreeState → Type 0) (C : Type 0) → HoldsNow h Q → IfObservable h (λ w. Q w → C) → C
by_now [] Q C q f = absurd q
by_now (w ∷ h) Q C q f = f q

pub now_both : (h : History) (P Q : TreeState → Type 0) → HoldsNow h P → HoldsNow h Q → HoldsNow h (λ w. P w × Q w)
now_both [] P Q p q = absurd p
now_both (w ∷ h) P Q p q = (p, q)
