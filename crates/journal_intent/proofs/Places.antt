-- The names that a stage takes with it.
use Rattle.std.proofs.Common.{◌≡◌, ◌≤◌, ◌<◌, ℕ, zero, suc, ◌+◌, List, [], ◌∷◌, ◌++◌, length, slice_get, Some, refl, sym, ap, ◌∙◌, arith}
use Rattle.journal_intent.specs.Intent.{stage_name}
use Rattle.journal_intent.specs.FreeNames.{stage_names_from}

count_places : (k n : ℕ) → length (stage_names_from k n) ≡ n
count_places k zero = refl
count_places k (suc n) = ap suc (count_places (k + 1) n)

place_at : (k n i : ℕ) → i < n → slice_get (stage_names_from k n) i ≡ Some (stage_name (k + i))
place_at k zero i below = absurd (omega (arith, below))
place_at k (suc n) zero below = ap (λ j. Some (stage_name j)) (omega arith)
place_at k (suc n) (suc i) below = place_at (k + 1) n i (omega (arith, below)) ∙ ap (λ j. Some (stage_name j)) (omega arith)

module _ (places : List (List ℕ)) (n : ℕ) (are : places ≡ stage_names_from 0 (n + 1)) where
  pub has_place : (k : ℕ) → k ≤ n → k < length places
  has_place k within = let count : length places ≡ n + 1 = ap length are ∙ count_places 0 (n + 1) in omega (arith, count, within)

  pub place_is : (k : ℕ) → k ≤ n → (name : List ℕ) → slice_get places k ≡ Some name → name ≡ stage_name k
  place_is k within name at =
      let e : Some name ≡ Some (stage_name k) = sym at ∙ ap (λ (l : List (List ℕ)). slice_get l k) are ∙ place_at 0 (n + 1) k (omega (arith, within)) ∙ ap (λ j. Some (stage_name j)) (omega arith) in
      cc

more_places : (j n : ℕ) → stage_names_from j (n + 1) ≡ stage_names_from j n ++ stage_name (j + n) ∷ []
more_places j zero = ap (λ i. stage_name i ∷ []) (omega arith)
more_places j (suc n) =
    let next : suc n + 1 ≡ suc (n + 1) = omega arith in
    ap (stage_names_from j) next ∙ ap (λ (l : List (List ℕ)). stage_name j ∷ l) (more_places (j + 1) n ∙ ap (λ i. stage_names_from (j + 1) n ++ stage_name i ∷ []) (omega arith))

pub places_more : (k : ℕ) (old new : List (List ℕ)) (name : List ℕ) → old ≡ stage_names_from 0 k → name ≡ stage_name k → new ≡ old ++ name ∷ [] → new ≡ stage_names_from 0 (k + 1)
places_more k old new name are is added =
    added ∙ ap (λ (l : List (List ℕ)). l ++ name ∷ []) are ∙ ap (λ (x : List ℕ). stage_names_from 0 k ++ x ∷ []) (is ∙ ap stage_name (omega arith)) ∙ sym (more_places 0 k)
