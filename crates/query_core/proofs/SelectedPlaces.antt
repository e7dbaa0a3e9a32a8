-- Places of candidates, one more at a time, and the candidates there.
use Rattle.std.proofs.Common.{◌≡◌, inl, inr, ℕ, zero, suc, ◌+◌, ◌<◌, Bool, All, List, [], ◌∷◌, ◌++◌, length, take, refl, sym, ap, subst, ◌∙◌, arith}
use Rattle.std.specs.Prelude.{Some, slice_get, if◌then◌else◌}
use Rattle.std.proofs.lemmas.Bool.{cases_Bool}
use Rattle.pool_core.specs.candidate_core.Candidates.{Candidate}
use Rattle.pool_core.specs.candidate_core.Options.{places_passing_counted_from}
use Rattle.pool_core.proofs.candidate_core.Steps.{take_one_more}
use Rattle.pool_core.proofs.candidate_core.OfferLists.{places_more}

length_taken : (cs : List Candidate) (i : ℕ) (c : Candidate) → slice_get cs i ≡ Some c → length (take i cs) ≡ i
length_taken [] zero c h = absurd (cc)
length_taken [] (suc i) c h = absurd (cc)
length_taken (d ∷ cs) zero c h = refl
length_taken (d ∷ cs) (suc i) c h = ap suc (length_taken cs i c h)

-- one more candidate was tested
pub places_next : (test : Candidate → Bool) (cs : List Candidate) (i : ℕ) (c : Candidate) (before after : List ℕ) → slice_get cs i ≡ Some c → before ≡ places_passing_counted_from 0 test (take i cs) → after ≡ before ++ (if test c then i ∷ [] else []) → after ≡ places_passing_counted_from 0 test (take (i + 1) cs)
places_next test cs i c before after h was is =
    is ∙ (ap (λ (ps : List ℕ). ps ++ (if test c then i ∷ [] else [])) was
    ∙ (ap (λ (k : ℕ). places_passing_counted_from 0 test (take i cs) ++ (if test c then k ∷ [] else [])) (let z : 0 + length (take i cs) ≡ i = omega (arith, length_taken cs i c h) in sym z)
    ∙ (sym (places_more 0 test (take i cs) c) ∙ ap (places_passing_counted_from 0 test) (sym (take_one_more cs i c h)))))

-- the places are those of candidates
all_first : (bound n : ℕ) (ns : List ℕ) → n < bound → All (λ place. place < bound) ns → All (λ place. place < bound) (n ∷ ns)
all_first bound n ns low rest zero d h = low
all_first bound n ns low rest (suc i) d h = rest i d (omega (arith, h))

below_from : (n : ℕ) (test : Candidate → Bool) (cs : List Candidate) → All (λ place. place < n + length cs) (places_passing_counted_from n test cs)
below_from n test [] = λ i d h. absurd (omega (arith, h))
below_from n test (c ∷ cs) =
    let rest : All (λ place. place < n + length (c ∷ cs)) (places_passing_counted_from (suc n) test cs) = λ i d h. let r = below_from (suc n) test cs i d h in omega (arith, r) in
    elim (cases_Bool (test c)) [
      | inl e ↦ rw e (all_first (n + length (c ∷ cs)) n (places_passing_counted_from (suc n) test cs) (omega arith) rest)
      | inr e ↦ rw e rest
    ]

pub places_within : (test : Candidate → Bool) (cs : List Candidate) (places : List ℕ) → places ≡ places_passing_counted_from 0 test cs → All (λ place. place < length cs) places
places_within test cs places is = subst (λ (ps : List ℕ). All (λ place. place < length cs) ps) (sym is) (λ i d h. let r = below_from 0 test cs i d h in omega (arith, r))
