-- No name of a change is in the way of another.
use Rattle.std.proofs.Common.{◌≡◌, inl, inr, ℕ, List, [], ◌∷◌, ◌++◌, drop, get_or, decimal, sym, ap, subst, ◌∙◌, arith}
use Rattle.base_core.specs.Files.{IsFolderOf}
use Rattle.journal_intent.specs.FreeNames.{IsIntentNameOrNumberedStageName}
use Rattle.journal_intent.specs.Intent.{intent_name, stage_name}
use Rattle.journal_intent.proofs.Digits.{AreDigits, decimal-digits}

no_slash : (front rest : List ℕ) → AreDigits (front ++ 47 ∷ rest) → ⊥
no_slash [] rest are = let low = are.0.0 in omega (arith, low)
no_slash (b ∷ front) rest are = no_slash front rest are.1

no_place_folder : (j k : ℕ) (rest : List ℕ) → stage_name k ≡ stage_name j ++ 47 ∷ rest → ⊥
no_place_folder j k rest is =
    let same : decimal k ≡ decimal j ++ 47 ∷ rest = ap (drop 14) is in
    no_slash (decimal j) rest (subst AreDigits same (decimal-digits k))

pub taken_apart : (p q : List ℕ) → IsIntentNameOrNumberedStageName p → IsIntentNameOrNumberedStageName q → IsFolderOf p q → ⊥
taken_apart p q (inl p_is) (inl q_is) (rest, is) =
    let at : intent_name ≡ intent_name ++ 47 ∷ rest = sym q_is ∙ is ∙ ap (λ (x : List ℕ). x ++ 47 ∷ rest) p_is in
    let none : [] ≡ 47 ∷ rest = ap (drop 14) at in
    cc
taken_apart p q (inl p_is) (inr (k, q_is)) (rest, is) =
    let at : stage_name k ≡ intent_name ++ 47 ∷ rest = sym q_is ∙ is ∙ ap (λ (x : List ℕ). x ++ 47 ∷ rest) p_is in
    let same : 115 ≡ 105 = ap (λ (x : List ℕ). get_or x 8 0) at in
    omega (arith, same)
taken_apart p q (inr (j, p_is)) (inl q_is) (rest, is) =
    let at : intent_name ≡ stage_name j ++ 47 ∷ rest = sym q_is ∙ is ∙ ap (λ (x : List ℕ). x ++ 47 ∷ rest) p_is in
    let same : 105 ≡ 115 = ap (λ (x : List ℕ). get_or x 8 0) at in
    omega (arith, same)
taken_apart p q (inr (j, p_is)) (inr (k, q_is)) (rest, is) =
    no_place_folder j k rest (sym q_is ∙ is ∙ ap (λ (x : List ℕ). x ++ 47 ∷ rest) p_is)
