-- Two texts that are compared byte for byte, and the first package with a similar name.
use Rattle.std.proofs.Common.{◌≡◌, ◌∙◌, ℕ, zero, suc, ◌+◌, ◌<◌, ◌≤◌, true, false, List, [], ◌∷◌, length, take, refl, sym, ap, arith}
use Rattle.std.specs.Prelude.{Some, None, ◌==◌, drop, slice_get}
use Rattle.std.specs.List.{find}
use Rattle.std.specs.Option.{option_map}
use Rattle.search_tables.specs.candidate_core.Candidates.{Candidate}
use Rattle.search_tables.proofs.candidate_core.LoopTests.{found_first, not_found_next}
use Rattle.unmet_world.specs.Similar.{differ_by_one, similar_name}

-- one text ends, and the other one is longer by some bytes
pub ends : (text other : List ℕ) (i more : ℕ) → i ≤ length text → i ≤ length other → (i < length text → length other ≤ i) → more + i + i ≡ length text + length other → (more == 1) ≡ differ_by_one (drop i text) (drop i other)
ends [] other zero more in_text in_other last sum = let e : more ≡ length other = omega (arith, sum) in rw e refl
ends (x ∷ text) [] zero more in_text in_other last sum = let e : more ≡ length (x ∷ text) = omega (arith, sum) in rw e refl
ends (x ∷ text) (y ∷ other) zero more in_text in_other last sum = absurd (omega (arith, last (omega arith)))
ends [] other (suc i) more in_text in_other last sum = absurd (omega (arith, in_text))
ends (x ∷ text) [] (suc i) more in_text in_other last sum = absurd (omega (arith, in_other))
ends (x ∷ text) (y ∷ other) (suc i) more in_text in_other last sum =
    ends text other i more (omega (arith, in_text)) (omega (arith, in_other)) (λ less. omega (arith, last (omega (arith, less)))) (omega (arith, sum))

-- ---- packages

-- the first package that is similar
pub similar_found : (name : List ℕ) (candidates : List Candidate) (i : ℕ) (c : Candidate) (found : List ℕ) → find (λ (c : Candidate). differ_by_one name c.name) (take i candidates) ≡ None → slice_get candidates i ≡ Some c → found ≡ c.name → differ_by_one name found ≡ true → Some found ≡ similar_name name candidates
similar_found name candidates i c found none at is similar =
    ap Some is ∙ sym (ap (option_map (λ (c : Candidate). c.name)) (found_first (λ (c : Candidate). differ_by_one name c.name) candidates i c none at (ap (differ_by_one name) (sym is) ∙ similar)))

-- one more package that is not similar
pub not_similar_next : (name : List ℕ) (candidates : List Candidate) (i : ℕ) (c : Candidate) (found : List ℕ) → find (λ (c : Candidate). differ_by_one name c.name) (take i candidates) ≡ None → slice_get candidates i ≡ Some c → found ≡ c.name → differ_by_one name found ≡ false → find (λ (c : Candidate). differ_by_one name c.name) (take (i + 1) candidates) ≡ None
not_similar_next name candidates i c found none at is apart =
    not_found_next (λ (c : Candidate). differ_by_one name c.name) candidates i c none at (ap (differ_by_one name) (sym is) ∙ apart)
