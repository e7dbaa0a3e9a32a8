-- Marks of candidates, one more at a time.
use Rattle.std.proofs.Common.{◌≡◌, ◌≢◌, ◌⊎◌, inl, inr, ℕ, zero, suc, ◌<◌, ◌≤◌, Bool, true, false, List, [], ◌∷◌, ◌++◌, refl, sym, subst, ap, ◌∙◌, arith, length}
use Rattle.std.specs.Prelude.{slice_index_or, slice_set}
use Rattle.std.specs.Bool.{MatchBool}
use Rattle.pool_core.specs.candidate_core.Options.{IsIn}
use Rattle.search_tables.specs.Selection.{AreDistinct}
use Rattle.search_tables.specs.CandidateSet.{AreMarksOfPlaces}
use Rattle.std.proofs.lemmas.Bool.{cases_eq}
use Rattle.search_tables.proofs.Theory.{in_left, in_right, in_append}

pub distinct_front : (xs : List ℕ) (y : ℕ) → AreDistinct (xs ++ y ∷ []) → AreDistinct xs × (IsIn y xs → ⊥)
distinct_front [] y once = (tt, λ h. h)
distinct_front (x ∷ xs) y once =
    let r = distinct_front xs y once.1 in
    ((λ h. once.0 (in_left x xs (y ∷ []) h), r.0), λ h. elim h [ inl e ↦ once.0 (in_right x xs (y ∷ []) (inl (sym e))) | inr k ↦ r.1 k ])

pub same-append : (marks : List Bool) (c : ℕ) → slice_index_or (marks ++ false ∷ []) c false ≡ slice_index_or marks c false
same-append [] zero = refl
same-append [] (suc c) = refl
same-append (m ∷ marks) zero = refl
same-append (m ∷ marks) (suc c) = same-append marks c

distinct_more : (ids : List ℕ) (id : ℕ) → AreDistinct ids → (IsIn id ids → ⊥) → AreDistinct (ids ++ id ∷ [])
distinct_more [] id once out = ((λ h. h), tt)
distinct_more (x ∷ ids) id once out = (
  (λ h. elim (in_append x ids (id ∷ []) h) [
    | inl a ↦ once.0 a
    | inr b ↦ elim b [ inl e ↦ out (inl (sym e)) | inr bad ↦ bad ]
  ]),
  distinct_more ids id once.1 (λ h. out (inr h)),
)

told_more : (b : Bool) (P Q : Type 0) → (P → Q) → (Q → P) → MatchBool b P (P → ⊥) → MatchBool b Q (Q → ⊥)
told_more true P Q to back h = to h
told_more false P Q to back h = λ q. h (back q)

set-other : (marks : List Bool) (i c : ℕ) → c ≢ i → slice_index_or (slice_set marks i true) c false ≡ slice_index_or marks c false
set-other [] i c n = refl
set-other (m ∷ marks) zero zero n = absurd (n refl)
set-other (m ∷ marks) zero (suc c) n = refl
set-other (m ∷ marks) (suc i) zero n = refl
set-other (m ∷ marks) (suc i) (suc c) n = set-other marks i c (λ e. n (ap suc e))

set-same : (marks : List Bool) (i : ℕ) → i < length marks → slice_index_or (slice_set marks i true) i false ≡ true
set-same [] i h = absurd (omega arith)
set-same (m ∷ marks) zero h = refl
set-same (m ∷ marks) (suc i) h = set-same marks i (omega arith)

-- one more is marked
pub marked_more : (old grown : List Bool) (ids : List ℕ) (id : ℕ) → AreMarksOfPlaces old ids → ((c : ℕ) → slice_index_or grown c false ≡ slice_index_or old c false) → (IsIn id ids → ⊥) → id < length grown → AreMarksOfPlaces (slice_set grown id true) (ids ++ id ∷ [])
marked_more old grown ids id marked same out within = record {
  told = λ c. elim (cases_eq c id) [
    | inl e ↦
        let yes_at : slice_index_or (slice_set grown id true) c false ≡ true = ap (λ (k : ℕ). slice_index_or (slice_set grown id true) k false) e ∙ set-same grown id within in
        subst (λ (b : Bool). MatchBool b (IsIn c (ids ++ id ∷ [])) (IsIn c (ids ++ id ∷ []) → ⊥)) (sym yes_at) (in_right c ids (id ∷ []) (inl e))
    | inr n ↦
        let was : slice_index_or (slice_set grown id true) c false ≡ slice_index_or old c false = set-other grown id c n ∙ same c in
        subst (λ (b : Bool). MatchBool b (IsIn c (ids ++ id ∷ [])) (IsIn c (ids ++ id ∷ []) → ⊥)) (sym was)
        (told_more (slice_index_or old c false) (IsIn c ids) (IsIn c (ids ++ id ∷ [])) (in_left c ids (id ∷ [])) (λ h. elim (in_append c ids (id ∷ []) h) [
          | inl a ↦ a
          | inr b ↦ elim b [ inl e ↦ absurd (n e) | inr bad ↦ absurd bad ]
        ]) (marked.told c))
  ];
  once = distinct_more ids id marked.once out;
}

-- grown marks without a further one
pub marked_grown : (old grown : List Bool) (ids : List ℕ) → AreMarksOfPlaces old ids → ((c : ℕ) → slice_index_or grown c false ≡ slice_index_or old c false) → AreMarksOfPlaces grown ids
marked_grown old grown ids marked same = record {
  told = λ c. subst (λ (b : Bool). MatchBool b (IsIn c ids) (IsIn c ids → ⊥)) (sym (same c)) (marked.told c);
  once = marked.once;
}

pub in_added : (old new : List ℕ) (id : ℕ) → new ≡ old ++ id ∷ [] → (c : ℕ) → (IsIn c new → IsIn c old ⊎ (c ≡ id)) × (IsIn c old ⊎ (c ≡ id) → IsIn c new)
in_added old new id is c = (
  λ h. elim (in_append c old (id ∷ []) (subst (λ (z : List ℕ). IsIn c z) is h)) [
    | inl a ↦ inl a
    | inr b ↦ elim b [ inl e ↦ inr e | inr bad ↦ absurd bad ]
  ],
  λ h. subst (λ (z : List ℕ). IsIn c z) (sym is) (elim h [ inl a ↦ in_left c old (id ∷ []) a | inr e ↦ in_right c old (id ∷ []) (inl e) ]),
)

-- ---- one less

put-other : (v : Bool) (marks : List Bool) (i c : ℕ) → c ≢ i → slice_index_or (slice_set marks i v) c false ≡ slice_index_or marks c false
put-other v [] i c n = refl
put-other v (m ∷ marks) zero zero n = absurd (n refl)
put-other v (m ∷ marks) zero (suc c) n = refl
put-other v (m ∷ marks) (suc i) zero n = refl
put-other v (m ∷ marks) (suc i) (suc c) n = put-other v marks i c (λ e. n (ap suc e))

put-same : (marks : List Bool) (i : ℕ) → slice_index_or (slice_set marks i false) i false ≡ false
put-same [] zero = refl
put-same [] (suc i) = refl
put-same (m ∷ marks) zero = refl
put-same (m ∷ marks) (suc i) = put-same marks i

index_past : (marks : List Bool) (i : ℕ) → length marks ≤ i → slice_index_or marks i false ≡ false
index_past [] zero h = refl
index_past [] (suc i) h = refl
index_past (m ∷ marks) zero h = absurd (omega arith)
index_past (m ∷ marks) (suc i) h = index_past marks i (omega arith)

pub marked_within : (marks : List Bool) (ids rest : List ℕ) (id : ℕ) → AreMarksOfPlaces marks ids → ids ≡ rest ++ id ∷ [] → length marks ≤ id → ⊥
marked_within marks ids rest id marked is past =
    let no_mark : slice_index_or marks id false ≡ false = index_past marks id past in
    let there : IsIn id ids = subst (λ (z : List ℕ). IsIn id z) (sym is) (in_right id rest (id ∷ []) (inl refl)) in
    subst (λ (b : Bool). MatchBool b (IsIn id ids) (IsIn id ids → ⊥)) no_mark (marked.told id) there

pub marked_less : (marks : List Bool) (ids rest : List ℕ) (id : ℕ) → AreMarksOfPlaces marks ids → ids ≡ rest ++ id ∷ [] → AreMarksOfPlaces (slice_set marks id false) rest
marked_less marks ids rest id marked is =
    let apart = distinct_front rest id (subst AreDistinct is marked.once) in
    record {
      told = λ c. elim (cases_eq c id) [
        | inl e ↦
            let no_mark : slice_index_or (slice_set marks id false) c false ≡ false = ap (λ (k : ℕ). slice_index_or (slice_set marks id false) k false) e ∙ put-same marks id in
            subst (λ (b : Bool). MatchBool b (IsIn c rest) (IsIn c rest → ⊥)) (sym no_mark) (λ h. apart.1 (subst (λ (k : ℕ). IsIn k rest) e h))
        | inr n ↦
            subst (λ (b : Bool). MatchBool b (IsIn c rest) (IsIn c rest → ⊥)) (sym (put-other false marks id c n))
            (told_more (slice_index_or marks c false) (IsIn c ids) (IsIn c rest) (λ h. elim (in_append c rest (id ∷ []) (subst (λ (z : List ℕ). IsIn c z) is h)) [
              | inl a ↦ a
              | inr b ↦ elim b [ inl e ↦ absurd (n e) | inr bad ↦ absurd bad ]
            ]) (λ h. subst (λ (z : List ℕ). IsIn c z) (sym is) (in_left c rest (id ∷ []) h)) (marked.told c))
      ];
      once = apart.0;
    }
