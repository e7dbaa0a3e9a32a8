use Rattle.std.proofs.Common.{◌≢◌, ◌-◌, List, ℕ, Some, ◌∷◌, length, subst, sym}
use Rattle.std.specs.Prelude.{slice_get}
use Rattle.std.specs.Vec.Iter.{into_iter_items}
use Rattle.host_tree.proofs.NamesInOrder.{IsKept, kept_none, kept_same, kept_more}
use Rattle.host_tree.proofs.listing.each_once.Goals as goal

pub loop-name-init : goal.loop-name-init
loop-name-init c =
    let s = c.args.sorted.items in
    subst (λ (rest : List (List ℕ)). IsKept s c.new-names.result rest) (sym c.into_iter-name-iterator.ensures.into_iter_gives.0)
    (subst (λ (names : List (List ℕ)). IsKept s names s) (sym c.new-names.ensures) (kept_none s c.requires))

pub loop-name-preserved : goal.loop-name-preserved
loop-name-preserved c =
    let s = c.args.sorted.items in
    let names = c.loop-name.names in
    let name = c.in-Some.name in
    let rest = into_iter_items c.next.new.self in
    let kept : IsKept s names (name ∷ rest) = subst (IsKept s names) c.in-Some.ensures.steps.0 c.loop-name.invariant in
    let other : slice_get names (length names - 1) ≢ Some name = λ is. let last = c.is_last.ensures.1 is in cc (last, c.if-is_last.false) in
    subst (λ (now : List (List ℕ)). IsKept s now rest) (sym c.in_ok-push.ensures.ok) (kept_more s names rest name kept other)

pub loop-name-preserved-then-is_last : goal.loop-name-preserved-then-is_last
loop-name-preserved-then-is_last c =
    let s = c.args.sorted.items in
    kept_same s c.loop-name.names (into_iter_items c.next.new.self) c.in-Some.name (subst (IsKept s c.loop-name.names) c.in-Some.ensures.steps.0 c.loop-name.invariant)
