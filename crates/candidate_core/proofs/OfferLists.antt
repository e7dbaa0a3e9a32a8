-- The places of the candidates that offer a name.
use Rattle.std.proofs.Common.{◌≡◌, inl, inr, ℕ, zero, suc, ◌+◌, ◌<◌, Bool, true, false, List, [], ◌∷◌, ◌++◌, length, refl, subst, ap, arith}
use Rattle.std.specs.Prelude.{slice_get, if◌then◌else◌}
use Rattle.std.specs.Option.{option_map_or}
use Rattle.std.proofs.lemmas.Bool.{cases_Bool}
use Rattle.candidate_core.specs.Candidates.{Candidate, offers_name}
use Rattle.candidate_core.specs.Rank.{SelectionProblem, candidate_at_passes}
use Rattle.candidate_core.specs.Options.{IsIn, AreStrictlyIncreasing, places_passing_counted_from, places_offering}
use Rattle.candidate_core.proofs.OptionLists.{in_places, places_above, places_in}

below_length : (test : Candidate → Bool) (cs : List Candidate) (k : ℕ) → option_map_or test (slice_get cs k) false ≡ true → k < length cs
below_length test [] zero h = absurd (cc)
below_length test [] (suc k) h = absurd (cc)
below_length test (c ∷ cs) zero h = omega arith
below_length test (c ∷ cs) (suc k) h = let r = below_length test cs k h in omega arith

pub offers_those : (pool : SelectionProblem) (name : List ℕ) (c : ℕ) → IsIn c (places_offering name pool.candidates) → (candidate_at_passes pool (offers_name name) c ≡ true) × (c < length pool.candidates)
offers_those pool name c h =
    let r = places_in 0 (offers_name name) pool.candidates c h in
    let z : r.0 ≡ c = omega (arith, r.1) in
    let is : candidate_at_passes pool (offers_name name) c ≡ true = subst (λ (k : ℕ). candidate_at_passes pool (offers_name name) k ≡ true) z r.2 in
    (is, below_length (offers_name name) pool.candidates c is)

pub offers_each : (pool : SelectionProblem) (name : List ℕ) (c : ℕ) → candidate_at_passes pool (offers_name name) c ≡ true → IsIn c (places_offering name pool.candidates)
offers_each pool name c h =
    let z : 0 + c ≡ c = omega arith in
    subst (λ (k : ℕ). IsIn k (places_offering name pool.candidates)) z (in_places 0 (offers_name name) pool.candidates c h)

pub places_rising : (n : ℕ) (test : Candidate → Bool) (cs : List Candidate) → AreStrictlyIncreasing (places_passing_counted_from n test cs)
places_rising n test [] = tt
places_rising n test (c ∷ cs) = elim (cases_Bool (test c)) [
  | inl e ↦ rw e ((λ d h. let r = places_above (suc n) test cs d h in omega arith), places_rising (suc n) test cs)
  | inr e ↦ rw e (places_rising (suc n) test cs)
]

-- one more candidate at the end
pub places_more : (n : ℕ) (test : Candidate → Bool) (cs : List Candidate) (d : Candidate) → places_passing_counted_from n test (cs ++ d ∷ []) ≡ places_passing_counted_from n test cs ++ (if test d then (n + length cs) ∷ [] else [])
places_more n test [] d =
    let z : n ≡ n + 0 = omega arith in
    elim (cases_Bool (test d)) [
      | inl e ↦ rw e (ap (λ (k : ℕ). k ∷ []) z)
      | inr e ↦ rw e refl
    ]
places_more n test (c ∷ cs) d =
    let z : suc n + length cs ≡ n + suc (length cs) = omega arith in
    let rest : places_passing_counted_from (suc n) test (cs ++ d ∷ []) ≡ places_passing_counted_from (suc n) test cs ++ (if test d then (n + suc (length cs)) ∷ [] else []) =
    subst (λ (k : ℕ). places_passing_counted_from (suc n) test (cs ++ d ∷ []) ≡ places_passing_counted_from (suc n) test cs ++ (if test d then k ∷ [] else [])) z (places_more (suc n) test cs d) in
    elim (cases_Bool (test c)) [
      | inl e ↦ rw e (ap (λ (z : List ℕ). n ∷ z) rest)
      | inr e ↦ rw e rest
    ]

pub places_below : (n : ℕ) (test : Candidate → Bool) (cs : List Candidate) (o : ℕ) → IsIn o (places_passing_counted_from n test cs) → o < n + length cs
places_below n test cs o h =
    let r = places_in n test cs o h in
    let b = below_length test cs r.0 r.2 in
    omega (arith, r.1, b)

pub places_snoc : (test : Candidate → Bool) (cs : List Candidate) (d : Candidate) → places_passing_counted_from 0 test (cs ++ d ∷ []) ≡ places_passing_counted_from 0 test cs ++ (if test d then length cs ∷ [] else [])
places_snoc test cs d =
    let z : 0 + length cs ≡ length cs = omega arith in
    subst (λ (k : ℕ). places_passing_counted_from 0 test (cs ++ d ∷ []) ≡ places_passing_counted_from 0 test cs ++ (if test d then k ∷ [] else [])) z (places_more 0 test cs d)
