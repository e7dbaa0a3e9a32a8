use Rattle.std.proofs.Common.{◌≡◌, ◌-◌, ◌≤◌, ◌++◌, [], ℕ, List, length, map, take, drop, set, get_or, ap, ◌∙◌, arith, rules, take_all, append-nil, nat_lt, vec_len}
use Rattle.std.specs.List.{filter}
use Rattle.std.proofs.lemmas.List.{get_or_default, drop_all}
use Rattle.std.proofs.lemmas.List.Edits.{map_over_more}
use Rattle.std.proofs.lemmas.Fn.{filter_same}
use Rattle.tree_memory.proofs.calls.pass.Goals as goal

pub loop-n-preserved : goal.loop-n-preserved
loop-n-preserved c =
    let at = get_or c.loop-n.n-items c.loop-n.n-index 0 in
    ap (set c.loop-n.n-items c.loop-n.n-index) c.saturating_sub.ensures
    ∙ map_over_more (λ n. n - 1) c.deref_mut-n-items.result.now c.loop-n.n-items c.loop-n.n-index at c.loop-n-test.true c.loop-n.invariant (get_or_default c.loop-n.n-items c.loop-n.n-index 0 at (omega arith))

-- numbers that were each written over, one less, behind which nothing is left
written_over : (len i : ℕ) (xs ys zs : List ℕ) → zs ≡ xs → length zs ≤ i → length ys ≡ length zs → length ys ≤ len → ys ≡ map (λ n. n - 1) (take i zs) ++ drop i zs → take len (ys ++ drop (length ys) xs) ≡ map (λ n. n - 1) xs
written_over len i xs ys zs same past long within is =
    let none : drop (length ys) xs ≡ [] = drop_all (length ys) xs (omega (arith, ap length same, long)) in
    ap (λ (l : List ℕ). take len (ys ++ l)) none
    ∙ ap (take len) (append-nil ys)
    ∙ take_all len ys within
    ∙ is
    ∙ ap (λ (l : List ℕ). map (λ n. n - 1) (take i zs) ++ l) (drop_all i zs past)
    ∙ append-nil (map (λ n. n - 1) (take i zs))
    ∙ ap (map (λ n. n - 1)) (take_all i zs past ∙ same)

pub returns-clause-nearer : goal.returns-clause-nearer
returns-clause-nearer c =
    let kept = filter_same _ (λ n. nat_lt 0 n) _ (λ x b f k. search rules) _ _ c.retain.ensures.filtered in
    let within : length c.loop-n.n-items ≤ vec_len c.args.plan.now = search rules in
    kept
    ∙ ap (filter (λ n. nat_lt 0 n)) (written_over (vec_len c.args.plan.now) c.loop-n.n-index c.args.plan.now.items c.loop-n.n-items c.deref_mut-n-items.result.now c.deref_mut-n-items.ensures.value c.loop-n-test.false (omega arith) within c.loop-n.invariant)
