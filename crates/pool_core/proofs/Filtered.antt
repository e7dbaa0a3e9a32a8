-- Those of the offering candidates that pass a stronger test.
use Rattle.std.proofs.Common.{◌≡◌, inl, inr, ℕ, suc, ◌+◌, Bool, true, false, List, [], ◌∷◌, refl, subst, ap, ◌∙◌, arith}
use Rattle.std.specs.Prelude.{slice_get, Option, Some, None, ◌&&◌, not}
use Rattle.std.specs.Option.{option_map_or}
use Rattle.std.specs.List.{filter, list_any}
use Rattle.std.specs.Str.{bytes_eq}
use Rattle.std.proofs.lemmas.Bool.{cases_Bool}
use Rattle.base_core.proofs.Booleans.{both_second, both_first, or_weaker}
use Rattle.dep_core.specs.Dependency.{Dependency}
use Rattle.dep_core.specs.Meets.{constraint_accepts}
use Rattle.option_ranks.specs.candidate_core.Candidates.{Candidate, Need, entry, named, is_eligible, is_met_by_provides_entry, meets_dependency, offers_name, need_name}
use Rattle.option_ranks.specs.candidate_core.Rank.{SelectionProblem, candidate_at_passes, meets_at}
use Rattle.option_ranks.specs.candidate_core.Options.{is_eligible_for_need, places_offering, places_passing_counted_from}

any_weaker : (p q : Dependency → Bool) (xs : List Dependency) → ((x : Dependency) → p x ≡ true → q x ≡ true) → list_any p xs ≡ true → list_any q xs ≡ true
any_weaker p q [] to h = h
any_weaker p q (x ∷ xs) to h = elim (cases_Bool (p x)) [
  | inl e ↦ rw (to x e) refl
  | inr e ↦ elim (cases_Bool (q x)) [ inl g ↦ rw g refl | inr g ↦ rw g (any_weaker p q xs to (rw e at h)) ]
]

and_weaker : (a b c : Bool) → (b ≡ true → c ≡ true) → (a && b) ≡ true → (a && c) ≡ true
and_weaker true b c f h = f h
and_weaker false b c f h = h

pub meeting_offers : (d : Dependency) (c : Candidate) → meets_dependency d c ≡ true → offers_name d.name c ≡ true
meeting_offers d c h =
    or_weaker _ _ (bytes_eq d.name c.name) (list_any (λ (p : Dependency). not p.conflict && bytes_eq d.name p.name) c.provides)
    (λ e. both_first (bytes_eq d.name c.name) (constraint_accepts d.version d.bits c.version) e)
    (λ e. any_weaker (is_met_by_provides_entry d) (λ (p : Dependency). not p.conflict && bytes_eq d.name p.name) c.provides (λ p g. and_weaker (not p.conflict) _ (bytes_eq d.name p.name) (λ k. both_first (bytes_eq d.name p.name) (constraint_accepts d.version d.bits p.version) k) g) e) h

pub filter_places : (weak strong : Candidate → Bool) (all : ℕ → Option Candidate) (n : ℕ) (cs : List Candidate) → ((c : Candidate) → strong c ≡ true → weak c ≡ true) → ((k : ℕ) → all (n + k) ≡ slice_get cs k) → filter (λ k. option_map_or strong (all k) false) (places_passing_counted_from n weak cs) ≡ places_passing_counted_from n strong cs
filter_places weak strong all n [] to there = refl
filter_places weak strong all n (c ∷ cs) to there =
    let z : n + 0 ≡ n = omega arith in
    let here : all n ≡ Some c = subst (λ (k : ℕ). all k ≡ Some c) z (there 0) in
    let rest = filter_places weak strong all (suc n) cs to (λ k. let e : n + suc k ≡ suc n + k = omega arith in subst (λ (j : ℕ). all j ≡ slice_get cs k) e (there (suc k))) in
    elim (cases_Bool (strong c)) [
      | inl s ↦ rw (s, to c s) (let is : option_map_or strong (all n) false ≡ true = ap (λ (o : Option Candidate). option_map_or strong o false) here ∙ s in rw is (ap (λ (z : List ℕ). n ∷ z) rest))
      | inr s ↦ elim (cases_Bool (weak c)) [
        | inl w ↦ rw (s, w) (let is : option_map_or strong (all n) false ≡ false = ap (λ (o : Option Candidate). option_map_or strong o false) here ∙ s in rw is rest)
        | inr w ↦ rw (s, w) rest
      ]
    ]

entry_places : (pool : SelectionProblem) (d : Dependency) → filter (λ k. candidate_at_passes pool (is_eligible_for_need pool (entry d)) k) (places_offering d.name pool.candidates) ≡ places_passing_counted_from 0 (is_eligible_for_need pool (entry d)) pool.candidates
entry_places pool d =
    filter_places (offers_name d.name) (is_eligible_for_need pool (entry d)) (λ k. slice_get pool.candidates k) 0 pool.candidates
    (λ c h. meeting_offers d c (both_second (is_eligible pool.world c) (meets_dependency d c) h)) (λ k. ap (slice_get pool.candidates) (omega arith))

named_places : (pool : SelectionProblem) (name : List ℕ) → filter (λ k. candidate_at_passes pool (is_eligible_for_need pool (named name)) k) (places_offering name pool.candidates) ≡ places_passing_counted_from 0 (is_eligible_for_need pool (named name)) pool.candidates
named_places pool name =
    filter_places (offers_name name) (is_eligible_for_need pool (named name)) (λ k. slice_get pool.candidates k) 0 pool.candidates
    (λ c h. rw (both_second (is_eligible pool.world c) (bytes_eq name c.name) h) refl) (λ k. ap (slice_get pool.candidates) (omega arith))

pub fitting_places : (pool : SelectionProblem) (need : Need) → filter (λ k. candidate_at_passes pool (is_eligible_for_need pool need) k) (places_offering (need_name need) pool.candidates) ≡ places_passing_counted_from 0 (is_eligible_for_need pool need) pool.candidates
fitting_places pool (entry d) = entry_places pool d
fitting_places pool (named name) = named_places pool name

pub at_weaker : (p q : Candidate → Bool) (o : Option Candidate) → ((c : Candidate) → p c ≡ true → q c ≡ true) → option_map_or p o false ≡ true → option_map_or q o false ≡ true
at_weaker p q None to h = absurd (cc)
at_weaker p q (Some c) to h = to c h

-- what meets a need offers its name
pub meeting_is_offered : (pool : SelectionProblem) (need : Need) (c : ℕ) → meets_at pool c need ≡ true → candidate_at_passes pool (offers_name (need_name need)) c ≡ true
meeting_is_offered pool (entry d) c h = at_weaker (meets_dependency d) (offers_name d.name) (slice_get pool.candidates c) (λ k m. meeting_offers d k m) h
meeting_is_offered pool (named name) c h = at_weaker (λ (k : Candidate). bytes_eq name k.name) (offers_name name) (slice_get pool.candidates c) (λ k m. rw m refl) h
