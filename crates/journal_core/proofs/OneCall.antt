-- What one call of the tree makes of what is told.
use Rattle.std.proofs.Common.{◌≡◌, ◌⊎◌, ⊎_elim, ◌∷◌, Result, Ok, Err, sym, subst, ◌∙◌}
use Rattle.base_core.specs.Tree.{TreeState, IsWellFormed}
use Rattle.std.specs.List.{All}
use Rattle.std.proofs.lemmas.List.Elements.{All-head}
use Rattle.base_core.specs.Faults.{Counts}
use Rattle.base_core.specs.Calls.{IfObservable, HoldsNow, ChangesHistory, IsCounted}
use Rattle.base_core.specs.Crash.{Since}
use Rattle.journal_core.proofs.History.{History, none_since, one_more, no_more}

pub now_is : (h : History) (v : TreeState) (rest : History) (Q : TreeState → Type 0) → h ≡ v ∷ rest → Q v → HoldsNow h Q
now_is h v rest Q is q = subst (λ (l : History). HoldsNow l Q) (sym is) q

-- the newest state of a told history is whole
pub whole_now : (h : History) (v : TreeState) (rest : History) → h ≡ v ∷ rest → All IsWellFormed h → IsWellFormed v
whole_now h v rest is all = All-head IsWellFormed v rest (subst (λ (l : History). All IsWellFormed l) is all)

module _ (old new : History) (v : TreeState) (rest : History) (is : old ≡ v ∷ rest) where
  told : (B : TreeState → Type 0) → IfObservable old B → B v
  told B t = subst (λ (l : History). IfObservable l B) is t

  untouched : new ≡ old → new ≡ v ∷ rest
  untouched same = same ∙ is

failed_new : (A B C P : Type 0) → A ⊎ (B × C) → (A → P) → (B → C → P) → P
failed_new A B C P x same more = ⊎_elim same (λ m. more m.0 m.1) x

-- a call that may be made is no misuse
pub one_proper : {T E : Type 0} {can : TreeState → Type 0} (old : History) (v : TreeState) (rest : History) → old ≡ v ∷ rest → (before now : Counts) (r : Result T E) → IsCounted can old before now r → can v → now.misuses ≡ before.misuses
one_proper {can = can} old v rest is before now r counted may = told old old v rest is (λ u. can u → now.misuses ≡ before.misuses) counted.proper may

module _ {T E : Type 0} {can : TreeState → Type 0} {done failed : TreeState → TreeState} (old new : History) (v : TreeState) (rest : History) (is : old ≡ v ∷ rest) where
  err_of : (e : E) → ChangesHistory {T = T} can done failed old new (Err e) → (new ≡ old) ⊎ (can v × (new ≡ failed v ∷ old))
  err_of e moves = told old new v rest is (λ u. (new ≡ old) ⊎ (can u × (new ≡ failed u ∷ old))) moves.err

  ok_of : (x : T) → ChangesHistory {E = E} can done failed old new (Ok x) → new ≡ done v ∷ old
  ok_of x moves = told old new v rest is (λ u. new ≡ done u ∷ old) moves.ok

  pub one_failed : (P : TreeState → Type 0) (e : E) → ChangesHistory {T = T} can done failed old new (Err e) → (can v → P (failed v)) → Since P old new
  one_failed P e moves fails = failed_new (new ≡ old) (can v) (new ≡ failed v ∷ old) (Since P old new) (err_of e moves) (λ same. no_more P old old new (none_since P old) same) (λ may more. one_more P old old new (failed v) (none_since P old) more (fails may))

  pub one_done : (P : TreeState → Type 0) (x : T) → ChangesHistory {E = E} can done failed old new (Ok x) → P (done v) → Since P old new
  one_done P x moves holds = one_more P old old new (done v) (none_since P old) (ok_of x moves) holds

  pub one_called : (P : TreeState → Type 0) (r : Result T E) → ChangesHistory can done failed old new r → P (done v) → (can v → P (failed v)) → Since P old new
  one_called P (Ok x) moves holds fails = one_done P x moves holds
  one_called P (Err e) moves holds fails = one_failed P e moves fails

  -- the newest state behind it
  pub now_done : (Q : TreeState → Type 0) (x : T) → ChangesHistory {E = E} can done failed old new (Ok x) → Q (done v) → HoldsNow new Q
  now_done Q x moves q = now_is new (done v) old Q (ok_of x moves) q

  pub now_failed : (Q : TreeState → Type 0) (e : E) → ChangesHistory {T = T} can done failed old new (Err e) → Q v → (can v → Q (failed v)) → HoldsNow new Q
  now_failed Q e moves stays fails = failed_new (new ≡ old) (can v) (new ≡ failed v ∷ old) (HoldsNow new Q) (err_of e moves) (λ same. now_is new v rest Q (untouched old new v rest is same) stays) (λ may more. now_is new (failed v) old Q more (fails may))

  pub now_called : (Q : TreeState → Type 0) (r : Result T E) → ChangesHistory can done failed old new r → Q (done v) → Q v → (can v → Q (failed v)) → HoldsNow new Q
  now_called Q (Ok x) moves q stays fails = now_done Q x moves q
  now_called Q (Err e) moves q stays fails = now_failed Q e moves stays fails
