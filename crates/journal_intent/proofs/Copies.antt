-- Names are copied, one after another.
use Rattle.std.proofs.Common.{◌≡◌, ◌≤◌, ◌+◌, ℕ, zero, suc, List, [], ◌∷◌, ◌++◌, take, length, slice_get, Some, sym, ap, ◌∙◌, arith}
use Rattle.std.proofs.lemmas.List.{take_all}

pub take_more : (names : List (List ℕ)) (i : ℕ) (name : List ℕ) → slice_get names i ≡ Some name → take (i + 1) names ≡ take i names ++ name ∷ []
take_more [] i name at = absurd (cc)
take_more (n ∷ ns) zero name at = let same : n ≡ name = cc in ap (λ (x : List ℕ). x ∷ []) same
take_more (n ∷ ns) (suc i) name at =
    let next : suc i + 1 ≡ suc (i + 1) = omega arith in
    ap (λ k. take k (n ∷ ns)) next ∙ ap (λ (l : List (List ℕ)). n ∷ l) (take_more ns i name at)

pub copies_more : (names : List (List ℕ)) (i : ℕ) (name : List ℕ) (copy : List ℕ) (old new : List (List ℕ)) → slice_get names i ≡ Some name → old ≡ take i names → copy ≡ name → new ≡ old ++ copy ∷ [] → new ≡ take (i + 1) names
copies_more names i name copy old new at so_far same added =
    added ∙ ap (λ (l : List (List ℕ)). l ++ copy ∷ []) so_far ∙ ap (λ (x : List ℕ). take i names ++ x ∷ []) same ∙ sym (take_more names i name at)

pub copies_all : (names : List (List ℕ)) (n : ℕ) (copy : List (List ℕ)) → length names ≤ n → copy ≡ take n names → copy ≡ names
copies_all names n copy all is = is ∙ take_all n names all
