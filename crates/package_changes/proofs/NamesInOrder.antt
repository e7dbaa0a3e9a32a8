-- Names without repeats.
use Rattle.std.proofs.Common.{◌≡◌, ℕ, Bool, true, false, cond, List, [], ◌∷◌, map, Bor, refl, sym, ◌∙◌, ap, subst}
use Rattle.std.specs.Prelude.{bytes_eq}
use Rattle.std.specs.List.{dedup, dedup_from}
use Rattle.std.specs.Cmp.Lexicographic.{bytes_decides}
use Rattle.base_core.proofs.AtName.{either_way}
use Rattle.own_core.specs.PlanLists.{prepend_unless_equal_to_first, names_with_adjacent_repeats_merged}

abbrev pub is_same_name : Bor (List ℕ) → Bor (List ℕ) → Bool
is_same_name a b = bytes_eq a.now b.now

-- names without repeats begin with the first of the names
record Begins (x : List ℕ) (names : List (List ℕ)) : Type 0 where
  rest : List (List ℕ)
  is : names ≡ x ∷ rest

begins : (x : List ℕ) (xs : List (List ℕ)) → Begins x (names_with_adjacent_repeats_merged (x ∷ xs))
begins x [] = record { rest = []; is = refl }
begins x (y ∷ ys) = go (begins y ys)
  where
    go : Begins y (names_with_adjacent_repeats_merged (y ∷ ys)) → Begins x (prepend_unless_equal_to_first x (names_with_adjacent_repeats_merged (y ∷ ys)))
    go b = subst (λ r. Begins x (prepend_unless_equal_to_first x r)) (sym b.is) (pick (bytes_eq x y) refl)
      where
        pick : (t : Bool) → bytes_eq x y ≡ t → Begins x (cond t (y ∷ b.rest) (x ∷ y ∷ b.rest))
        pick true e = record { rest = b.rest; is = ap (λ z. z ∷ b.rest) (sym ((bytes_decides x y).0 e)) }
        pick false e = record { rest = y ∷ b.rest; is = refl }

repeated : (x y : List ℕ) (ys : List (List ℕ)) → bytes_eq x y ≡ true → prepend_unless_equal_to_first x (names_with_adjacent_repeats_merged (y ∷ ys)) ≡ names_with_adjacent_repeats_merged (y ∷ ys)
repeated x y ys e =
    let b = begins y ys in
    subst (λ r. prepend_unless_equal_to_first x r ≡ r) (sym b.is) (ap (λ t. cond t (y ∷ b.rest) (x ∷ y ∷ b.rest)) e)

another : (x y : List ℕ) (ys : List (List ℕ)) → bytes_eq x y ≡ false → prepend_unless_equal_to_first x (names_with_adjacent_repeats_merged (y ∷ ys)) ≡ x ∷ names_with_adjacent_repeats_merged (y ∷ ys)
another x y ys e =
    let b = begins y ys in
    subst (λ r. prepend_unless_equal_to_first x r ≡ x ∷ r) (sym b.is) (ap (λ t. cond t (y ∷ b.rest) (x ∷ y ∷ b.rest)) e)

kept_from : (x : Bor (List ℕ)) (xs : List (Bor (List ℕ))) → map (λ n. n.now) (dedup_from is_same_name x xs) ≡ names_with_adjacent_repeats_merged (x.now ∷ map (λ n. n.now) xs)
kept_from x [] = refl
kept_from x (y ∷ ys) = go (is_same_name y x) refl (kept_from x ys) (kept_from y ys)
  where
    go : (t : Bool) → bytes_eq y.now x.now ≡ t
        → map (λ n. n.now) (dedup_from is_same_name x ys) ≡ names_with_adjacent_repeats_merged (x.now ∷ map (λ n. n.now) ys)
        → map (λ n. n.now) (dedup_from is_same_name y ys) ≡ names_with_adjacent_repeats_merged (y.now ∷ map (λ n. n.now) ys)
        → map (λ n. n.now) (cond t (dedup_from is_same_name x ys) (x ∷ dedup_from is_same_name y ys)) ≡ names_with_adjacent_repeats_merged (x.now ∷ (y.now ∷ map (λ n. n.now) ys))
    go true e first second =
        first
        ∙ (ap (λ z. names_with_adjacent_repeats_merged (z ∷ map (λ n. n.now) ys)) (sym ((bytes_decides y.now x.now).0 e))
        ∙ sym (repeated x.now y.now (map (λ n. n.now) ys) (either_way x.now y.now ∙ e)))
    go false e first second =
        ap (λ z. x.now ∷ z) second ∙ sym (another x.now y.now (map (λ n. n.now) ys) (either_way x.now y.now ∙ e))

pub kept_once : (xs : List (Bor (List ℕ))) → map (λ n. n.now) (dedup is_same_name xs) ≡ names_with_adjacent_repeats_merged (map (λ n. n.now) xs)
kept_once [] = refl
kept_once (x ∷ xs) = kept_from x xs
