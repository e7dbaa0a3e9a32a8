-- How the moments of a run and those of a call behind it join.
use Rattle.std.proofs.Common.{◌≡◌, ◌∷◌, [], ap}
use Rattle.std.specs.List.{All}
use Rattle.std.proofs.lemmas.List.Elements.{All-nil, All-cons, All-head, All-tail}
use Rattle.std.proofs.lemmas.List.{append_cancel_right}
use Rattle.std.proofs.Common.{sym, subst, ◌∙◌}
use Rattle.base_core.specs.Calls.{HoldsNow, IfObservable}
use Rattle.base_core.specs.Crash.{Since}
use Rattle.base_core.specs.Tree.{TreeState}
use Rattle.journal_core.proofs.Chain.{by_now, now_both}
use Rattle.journal_core.proofs.History.{History, now_since, observable_map, since_on}

-- ---- the start, and the newest state

pub start_is : (h : History) (v : TreeState) → HoldsNow h (λ w. w ≡ v) → (rest : History) × (h ≡ v ∷ rest)
start_is [] v is = absurd is
start_is (w ∷ rest) v is = (rest, ap (λ (u : TreeState). u ∷ rest) is)

-- what is said of the newest state holds of it, if there is one
pub now_of : (h : History) (P Q : TreeState → Type 0) → HoldsNow h P → IfObservable h Q → HoldsNow h Q
now_of [] P Q p q = absurd p
now_of (v ∷ h) P Q p q = q

-- what holds at the start and at each moment so far, and from the newest state on at each moment of
-- a call
module _ (P Q : TreeState → Type 0) (v : TreeState) (first mid new : History) (start : HoldsNow first (λ w. w ≡ v)) (here : P v) (so_far : Since P first mid) where
  pub so_far_now : HoldsNow mid P
  so_far_now = let (rest, is) = start_is first v start in now_since P first mid v rest is here so_far

  pub since_more : HoldsNow mid Q → IfObservable mid (λ u. P u → Q u → Since P mid new) → Since P first new
  since_more now more =
      since_on P first mid new so_far
      (by_now mid (λ u. P u × Q u) (Since P mid new) (now_both mid P Q so_far_now now)
      (observable_map mid _ (λ u. P u × Q u → Since P mid new) more (λ u t q. t q.0 q.1)))

-- ---- two facts of each moment

all_both : (P Q : TreeState → Type 0) (added : History) → All P added → All Q added → All (λ w. P w × Q w) added
all_both P Q [] p q = All-nil (λ w. P w × Q w)
all_both P Q (w ∷ added) p q = All-cons (λ w. P w × Q w) w added (All-head P w added p, All-head Q w added q) (all_both P Q added (All-tail P w added p) (All-tail Q w added q))

pub since_and : (P Q : TreeState → Type 0) (old now : History) → Since P old now → Since Q old now → Since (λ w. P w × Q w) old now
since_and P Q old now p q =
    let same : q.added ≡ p.added = append_cancel_right q.added p.added old (sym q.is ∙ p.is) in
    record { added = p.added; is = p.is; each = all_both P Q p.added p.each (subst (λ (h : History). All Q h) same q.each) }
