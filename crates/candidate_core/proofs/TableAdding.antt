-- What it takes for the table of names to lead to the offers of one more candidate.
use Rattle.std.proofs.Common.{◌≡◌, inl, inr, ℕ, suc, ◌-◌, ◌<◌, Bool, true, false, List, [], ◌∷◌, ◌++◌, length, refl, sym, subst, ap, ◌∙◌, arith}
use Rattle.std.specs.Prelude.{Option, Some, None, slice_get, if◌then◌else◌, ◌==◌, ◌||◌}
use Rattle.std.specs.Option.{option_map_or}
use Rattle.std.specs.List.{last_or, list_any}
use Rattle.std.proofs.lemmas.Bool.Decides.{eqb_tells}
use Rattle.std.proofs.lemmas.Bool.{cases_Bool}
use Rattle.base_core.proofs.Numbers.{same_number}
use Rattle.dep_core.specs.Dependency.{Dependency}
use Rattle.candidate_core.specs.Candidates.{Candidate, offers_name}
use Rattle.candidate_core.specs.Options.{IsIn, places_offering}
use Rattle.candidate_core.specs.Table.{HasPlacesOfEachName, Offered, places_of_name, with_place_unless_last, with_place_if_added}
use Rattle.candidate_core.proofs.OfferLists.{places_snoc, places_below}
use Rattle.candidate_core.proofs.Steps.{any_snoc}

last_snoc : (o : Option ℕ) (xs : List ℕ) (x : ℕ) → last_or o (xs ++ x ∷ []) ≡ Some x
last_snoc o [] x = refl
last_snoc o (y ∷ xs) x = last_snoc (Some y) xs x

abbrev is_at_end : ℕ → Option ℕ → Bool
is_at_end id o = option_map_or (λ last. last == id) o false

last_again : (ids : List ℕ) (id : ℕ) → is_at_end id (last_or None (with_place_unless_last ids id)) ≡ true
last_again ids id = elim (cases_Bool (is_at_end id (last_or None ids))) [
  | inl e ↦ rw e e
  | inr e ↦ rw e (ap (is_at_end id) (last_snoc None ids id) ∙ same_number id)
]

-- a candidate that is added twice is there once
twice : (ids : List ℕ) (id : ℕ) → with_place_unless_last (with_place_unless_last ids id) id ≡ with_place_unless_last ids id
twice ids id = rw (last_again ids id) refl

pub add_both : (a b : Bool) (ids : List ℕ) (id : ℕ) → with_place_if_added b (with_place_if_added a ids id) id ≡ with_place_if_added (a || b) ids id
add_both true true ids id = twice ids id
add_both true false ids id = refl
add_both false true ids id = refl
add_both false false ids id = refl

-- one more entry of provides
pub add_more : (p : Dependency → Bool) (done all : List Dependency) (d : Dependency) (start before after : List ℕ) (id : ℕ) → all ≡ done ++ d ∷ [] → before ≡ with_place_if_added (list_any p done) start id → after ≡ with_place_if_added (p d) before id → after ≡ with_place_if_added (list_any p all) start id
add_more p done all d start before after id e was is =
    is ∙ (ap (λ (z : List ℕ). with_place_if_added (p d) z id) was ∙ (add_both (list_any p done) (p d) start id
    ∙ ap (λ (b : Bool). with_place_if_added b start id) (sym (any_snoc p done d) ∙ ap (list_any p) (sym e))))

last_member : (o : Option ℕ) (ids : List ℕ) (n k : ℕ) → ((j : ℕ) → o ≡ Some j → j < n) → ((j : ℕ) → IsIn j ids → j < n) → last_or o ids ≡ Some k → k < n
last_member o [] n k first below h = first k h
last_member o (x ∷ ids) n k first below h = last_member (Some x) ids n k (λ j e. let s : x ≡ j = cc in subst (λ (z : ℕ). z < n) s (below x (inl refl))) (λ j g. below j (inr g)) h

not_last : (n : ℕ) (o : Option ℕ) → ((k : ℕ) → o ≡ Some k → k < n) → is_at_end n o ≡ false
not_last n None below = refl
not_last n (Some k) below = elim (eqb_tells k n) [
  | inl e ↦ let b : k < n = below k refl in absurd (omega (arith, e.1))
  | inr e ↦ e.0
]

-- a candidate above all others follows them
above_last : (ids : List ℕ) (n : ℕ) → ((j : ℕ) → IsIn j ids → j < n) → with_place_unless_last ids n ≡ ids ++ n ∷ []
above_last ids n below = rw (not_last n (last_or None ids) (λ k e. last_member None ids n k (λ j bad. absurd (cc)) below e)) refl

pub leads_on : (table more : Offered) (cs : List Candidate) (d : Candidate) → HasPlacesOfEachName table cs → ((name : List ℕ) → places_of_name more name ≡ with_place_if_added (offers_name name d) (places_of_name table name) (length cs)) → HasPlacesOfEachName more (cs ++ d ∷ [])
leads_on table more cs d leads added name =
    let places = places_offering name cs in
    let step : with_place_if_added (offers_name name d) places (length cs) ≡ places ++ (if offers_name name d then length cs ∷ [] else []) =
    elim (cases_Bool (offers_name name d)) [
      | inl e ↦ rw e (above_last places (length cs) (λ j h. let b = places_below 0 (offers_name name) cs j h in omega (arith, b)))
      | inr e ↦ rw e (sym (append_nil places))
    ] in
    added name ∙ (ap (λ (z : List ℕ). with_place_if_added (offers_name name d) z (length cs)) (leads name) ∙ (step ∙ sym (places_snoc (offers_name name) cs d)))
  where
    append_nil : (xs : List ℕ) → xs ++ [] ≡ xs
    append_nil [] = refl
    append_nil (x ∷ xs) = ap (λ (z : List ℕ). x ∷ z) (append_nil xs)

-- what is at the last place
pub last_is : (ids : List ℕ) → slice_get ids (length ids - 1) ≡ last_or None ids
last_is [] = refl
last_is (x ∷ ids) = from None x ids
  where
    from : (o : Option ℕ) (x : ℕ) (ids : List ℕ) → slice_get (x ∷ ids) (suc (length ids) - 1) ≡ last_or o (x ∷ ids)
    from o x [] = refl
    from o x (y ∷ ids) =
        let e : suc (suc (length ids)) - 1 ≡ suc (suc (length ids) - 1) = omega arith in
        ap (slice_get (x ∷ (y ∷ ids))) e ∙ from (Some x) y ids
