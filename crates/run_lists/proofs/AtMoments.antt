-- What holds at the moments of a run, and at its last one.
use Rattle.std.proofs.Common.{◌≡◌, ◌⊎◌, inl, inr, List, [], ◌∷◌, ◌++◌, sym, subst, ◌∙◌}
use Rattle.std.specs.Prelude.{All}
use Rattle.std.proofs.lemmas.List.{append_cancel_right}
use Rattle.std.proofs.lemmas.List.Elements.{All-contains, All-head}
use Rattle.base_core.specs.Calls.{HoldsNow}
use Rattle.base_core.specs.Crash.{Since}
use Rattle.base_core.specs.Tree.{TreeState}
use Rattle.run_lists.specs.Events.{IsMomentOf, Run}

abbrev pub History : Type 0
History = List TreeState

-- ---- the newest state

pub now_with : (h : History) (A B C : TreeState → Type 0) → ((w : TreeState) → A w → B w → C w) → HoldsNow h A → HoldsNow h B → HoldsNow h C
now_with [] A B C f a b = a
now_with (w ∷ rest) A B C f a b = f w a b

pub now_map : (h : History) (A B : TreeState → Type 0) → ((w : TreeState) → A w → B w) → HoldsNow h A → HoldsNow h B
now_map [] A B f a = a
now_map (w ∷ rest) A B f a = f w a

pub now_under : (h : History) (A : Type 0) (P Q : TreeState → Type 0) → HoldsNow h Q → (A → HoldsNow h P) → HoldsNow h (λ w. A → P w)
now_under [] A P Q some f = some
now_under (w ∷ rest) A P Q some f = f

pub now_at : (h : History) (P : TreeState → Type 0) (w : TreeState) → HoldsNow h P → HoldsNow h (λ u. u ≡ w) → P w
now_at [] P w p is = absurd p
now_at (u ∷ rest) P w p is = subst P is p

pub now_is : (h : History) (P : TreeState → Type 0) (w : TreeState) → P w → HoldsNow h (λ u. u ≡ w) → HoldsNow h P
now_is [] P w p is = is
now_is (u ∷ rest) P w p is = subst P (sym is) p

-- ---- each moment

at_start : (h : History) (P : TreeState → Type 0) (v m : TreeState) → P v → HoldsNow h (λ u. u ≡ v) → HoldsNow h (λ u. m ≡ u) → P m
at_start [] P v m p begins is = absurd is
at_start (u ∷ rest) P v m p begins is = subst P (sym (is ∙ begins)) p

pub at_moment : (P : TreeState → Type 0) (run : Run) (v m : TreeState) → HoldsNow run.old (λ u. u ≡ v) → P v → Since P run.old run.now → IsMomentOf run m → P m
at_moment P run v m begins p since (inl first) = at_start run.old P v m p begins first
at_moment P run v m begins p since (inr (added, is, contains)) =
    let same : since.added ≡ added = append_cancel_right since.added added run.old (sym since.is ∙ is) in
    All-contains P added m (subst (λ (h : History). All P h) same since.each) contains

first_moment : (h : History) (v m : TreeState) → HoldsNow h (λ u. u ≡ v) → HoldsNow h (λ u. m ≡ u) → m ≡ v
first_moment [] v m begins is = absurd is
first_moment (u ∷ rest) v m begins is = is ∙ begins

-- it is the first one, or one that the run made
pub start_or_made : (P : TreeState → Type 0) (run : Run) (v m : TreeState) → HoldsNow run.old (λ u. u ≡ v) → Since P run.old run.now → IsMomentOf run m → (m ≡ v) ⊎ P m
start_or_made P run v m begins since (inl first) = inl (first_moment run.old v m begins first)
start_or_made P run v m begins since (inr (added, is, contains)) =
    let same : since.added ≡ added = append_cancel_right since.added added run.old (sym since.is ∙ is) in
    inr (All-contains P added m (subst (λ (h : History). All P h) same since.each) contains)

newest : (P : TreeState → Type 0) (added old : History) (v : TreeState) → HoldsNow old (λ u. u ≡ v) → P v → All P added → HoldsNow (added ++ old) P
newest P [] old v begins p each = now_is old P v p begins
newest P (w ∷ added) old v begins p each = All-head P w added each

pub at_last : (P : TreeState → Type 0) (old now : History) (v : TreeState) → HoldsNow old (λ u. u ≡ v) → P v → Since P old now → HoldsNow now P
at_last P old now v begins p since = subst (λ (h : History). HoldsNow h P) (sym since.is) (newest P since.added old v begins p since.each)
