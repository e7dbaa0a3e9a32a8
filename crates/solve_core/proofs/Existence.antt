-- Where a selection satisfies a world, there is a first one: a search in the logic, over all candidates, ends with a walk
-- or with a reason that holds for every selection.
use Rattle.std.proofs.Common.{◌≡◌, ◌⊎◌, inl, inr, ℕ, zero, suc, ◌≤◌, true, false, List, [], ◌∷◌, ◌++◌, length, refl, sym, subst, ◌∙◌, arith, append_assoc}
use Rattle.std.specs.Prelude.{Some}
use Rattle.std.proofs.lemmas.Bool.{cases_Bool}
use Rattle.search_choices.specs.candidate_core.Candidates.{Need}
use Rattle.search_choices.specs.candidate_core.Rank.{SelectionProblem, is_eligible_at}
use Rattle.search_choices.specs.candidate_core.Options.{IsIn, options_for}
use Rattle.search_choices.specs.search_tables.Selection.{exclude_each_other, next_need}
use Rattle.search_choices.specs.search_tables.Reasons.{AreCompatible}
use Rattle.search_choices.proofs.search_tables.Theory as law
use Rattle.search_choices.proofs.search_tables.Theory.{in_left, in_right, in_append, none_or_some, removed}
use Rattle.search_choices.proofs.search_tables.Turns.{PoolFacts}

module _ (pool : SelectionProblem) (facts : PoolFacts pool) where
  abbrev pub Found : Type 0
  Found = (trace : List ℕ) × law.FirstAll facts trace

  -- whether a candidate goes with all choices
  goes_with : (t : List ℕ) (y : ℕ) → ((m : ℕ) → IsIn m t → exclude_each_other pool m y ≡ true → ⊥) ⊎ ((m : ℕ) × IsIn m t × (exclude_each_other pool m y ≡ true))
  goes_with [] y = inl (λ m h e. h)
  goes_with (x ∷ t) y = elim (cases_Bool (exclude_each_other pool x y)) [
    | inl e ↦ inr (x, inl refl, e)
    | inr e ↦ elim (goes_with t y) [
      | inl free ↦ inl (λ m h bad. elim h [
        | inl q ↦ let b : exclude_each_other pool x y ≡ true = subst (λ (z : ℕ). exclude_each_other pool z y ≡ true) q bad in let no : true ≡ false = sym b ∙ e in absurd (cc)
        | inr r ↦ free m r bad
      ])
      | inr found ↦ inr (found.0, inr found.1, found.2)
    ]
  ]

  one_more_dead : (t xs : List ℕ) (y : ℕ) → law.AllDead facts t xs → law.Dead facts (y ∷ t) → law.AllDead facts t (xs ++ y ∷ [])
  one_more_dead t xs y all dead o h = elim (in_append o xs (y ∷ []) h) [
    | inl a ↦ all o a
    | inr b ↦ elim b [ inl e ↦ subst (λ (z : ℕ). law.Dead facts (z ∷ t)) (sym e) dead | inr bad ↦ absurd bad ]
  ]

  front_dead : (t : List ℕ) (y : ℕ) → law.Dead facts (t ++ y ∷ []) → law.Dead facts (y ∷ t)
  front_dead t y = law.dead_mono facts (t ++ y ∷ []) (y ∷ t) (λ o h. elim (in_append o t (y ∷ []) h) [
    | inl a ↦ inr a
    | inr b ↦ elim b [ inl e ↦ inl e | inr bad ↦ absurd bad ]
  ])

  -- the options of a need, in sequence
  over_options : (t : List ℕ) (q : Need) → next_need pool t ≡ Some q → AreCompatible pool t → law.Led facts [] t
      → ((y : ℕ) → is_eligible_at pool y ≡ true → (IsIn y t → ⊥) → AreCompatible pool (t ++ y ∷ []) → law.Led facts [] (t ++ y ∷ []) → Found ⊎ law.Dead facts (t ++ y ∷ []))
      → (xs ys : List ℕ) → options_for pool q ≡ xs ++ ys → law.AllDead facts t xs → Found ⊎ law.Dead facts t
  over_options t q e clean led deeper xs [] is dead = inr (law.open_spent facts t xs (q, e, is, dead))
  over_options t q e clean led deeper xs (y ∷ ys) is dead =
      let listed = facts.only q y (subst (λ (z : List ℕ). IsIn y z) (sym is) (in_right y xs (y ∷ ys) (inl refl))) in
      let new : IsIn y t → ⊥ = λ h. (facts.next_some t q e).1 (y, h, listed.1) in
      let on : law.Dead facts (y ∷ t) → Found ⊎ law.Dead facts t = λ d.
      over_options t q e clean led deeper (xs ++ y ∷ []) ys (is ∙ sym (append_assoc xs (y ∷ []) ys)) (one_more_dead t xs y dead d) in
      elim (goes_with t y) [
        | inl free ↦ elim (deeper y listed.0 new (facts.clean_snoc t y clean listed.0 new free) (law.led_snoc facts [] t y led (q, xs, ys, e, is, dead))) [
          | inl found ↦ inl found
          | inr d ↦ on (front_dead t y d)
        ]
        | inr bad ↦ on (law.dead_mono facts (bad.0 ∷ y ∷ []) (y ∷ t) (λ o h. elim h [
          | inl a ↦ inr (subst (λ (z : ℕ). IsIn z t) (sym a) bad.1)
          | inr r ↦ elim r [ inl b ↦ inl b | inr none ↦ absurd none ]
        ]) (law.dead_apart facts bad.0 y bad.2))
      ]

  -- after some choices, where R holds each other candidate that may be selected
  explore : (fuel : ℕ) (R t : List ℕ) → length R ≤ fuel → ((c : ℕ) → is_eligible_at pool c ≡ true → IsIn c t ⊎ IsIn c R) → AreCompatible pool t → law.Led facts [] t → Found ⊎ law.Dead facts t
  explore zero R t len parts clean led = elim (none_or_some (next_need pool t)) [
    | inl e ↦ inl (t, law.first_of_led facts t led clean e)
    | inr some ↦ over_options t some.0 some.1 clean led (λ y good new clean' led'. elim (parts y good) [
      | inl old ↦ absurd (new old)
      | inr left ↦ let r = removed y R left in absurd (omega (arith, r.1, len))
    ]) [] (options_for pool some.0) refl (λ o h. absurd h)
  ]
  explore (suc fuel) R t len parts clean led = elim (none_or_some (next_need pool t)) [
    | inl e ↦ inl (t, law.first_of_led facts t led clean e)
    | inr some ↦ over_options t some.0 some.1 clean led (λ y good new clean' led'. elim (parts y good) [
      | inl old ↦ absurd (new old)
      | inr left ↦
          let r = removed y R left in
          explore fuel r.0 (t ++ y ∷ []) (omega (arith, r.1, len)) (λ c h. elim (parts c h) [
            | inl old ↦ inl (in_left c t (y ∷ []) old)
            | inr more ↦ elim (r.2 c more) [
              | inl e ↦ inl (in_right c t (y ∷ []) (inl e))
              | inr rest ↦ inr rest
            ]
          ]) clean' led'
    ]) [] (options_for pool some.0) refl (λ o h. absurd h)
  ]

  pub first_or_none : (R : List ℕ) → ((c : ℕ) → is_eligible_at pool c ≡ true → IsIn c R) → Found ⊎ law.Dead facts []
  first_or_none R all = explore (length R) R [] (omega arith) (λ c h. inr (all c h)) (tt, (λ c h. absurd h), λ a b h. absurd h) tt
