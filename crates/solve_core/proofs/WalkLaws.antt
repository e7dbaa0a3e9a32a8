-- What the walks of satisfying selections keep.
use Rattle.std.proofs.Common.{◌≡◌, ◌⊎◌, inl, inr, ℕ, ◌+◌, Bool, true, List, [], ◌∷◌, ◌++◌, append_assoc, append-nil, refl, sym, subst, ap, ◌∙◌, arith, true≢false}
use Rattle.std.specs.Prelude.{Some}
use Rattle.std.specs.Cmp.{IsStrictWeakOrder, IsTotalOrder}
use Rattle.std.specs.Ordering.{is_lt, ordering_reverse}
use Rattle.std.specs.declared.cmp.Ordering.{Ordering}
use Rattle.std.specs.declared.cmp.Ordering.TheVariants.{Less, Equal, Greater}
use Rattle.std.proofs.lemmas.Bool.{true_from_ne_false}
use Rattle.std.proofs.lemmas.List.Sorted.{ranks_by}
use Rattle.search_choices.specs.candidate_core.Candidates.{Need, is_eligible}
use Rattle.search_choices.specs.candidate_core.Rank.{SelectionProblem, is_better, meets_at, rank_cmp}
use Rattle.search_choices.specs.candidate_core.Options.{IsStrictlySortedBestFirst, IsIn, options_for, places_passing_counted_from}
use Rattle.search_choices.specs.search_tables.Reasons.{HasOptions}
use Rattle.search_choices.specs.search_tables.Selection.{AreAllMembersOf, IsWalkOfCandidatesPreferredTo, IsAfterChosenRestOfWalkPreferredToOther, IsFirstPreferredSelection, IsSatisfying, IsSelectionWalk, IsRestOfSelectionWalkAfterChosen, next_need}
use Rattle.search_choices.proofs.search_tables.Theory as law
use Rattle.search_choices.proofs.search_tables.Turns.{PoolFacts}
use Rattle.search_choices.proofs.search_tables.PoolFacts.{pool_facts}
use Rattle.search_choices.proofs.search_tables.Satisfying.{closed_of_satisfying, satisfying_of_closed}
use Rattle.solve_core.proofs.FirstFound.{none_satisfies}
use Rattle.search_choices.proofs.candidate_core.OptionLists.{in_places}
use Rattle.solve_core.proofs.Existence.{first_or_none}

sorted_of : (better : ℕ → ℕ → Bool) (cs : List ℕ) → IsStrictlySortedBestFirst better cs → law.Sorted (λ a b. better a b ≡ true) cs
sorted_of better [] h = tt
sorted_of better (c ∷ cs) h = (h.0, sorted_of better cs h.1)

module _ (pool : SelectionProblem) (total : (need : Need) → IsTotalOrder (rank_cmp pool need)) (strict : (need : Need) (a b : ℕ) → rank_cmp pool need a b ≡ Equal → a ≡ b) where
  ranks : (q : Need) → IsStrictWeakOrder (is_better pool q)
  ranks q = ranks_by (total q) (λ (a : ℕ). a)

  chain : (q : Need) (a b c : ℕ) → is_better pool q a b ≡ true → is_better pool q b c ≡ true → is_better pool q a c ≡ true
  chain q a b c h g =
      true_from_ne_false (is_better pool q a c) (λ none. true≢false (sym h ∙ (ranks q).chain a c b none ((ranks q).one_way b c g)))

  one_way : (q : Need) (a b : ℕ) → is_better pool q a b ≡ true → is_better pool q b a ≡ true → ⊥
  one_way q a b h g = true≢false (sym g ∙ (ranks q).one_way a b h)

  one_of : (q : Need) (c d : ℕ) → (c ≡ d) ⊎ ((is_better pool q c d ≡ true) ⊎ (is_better pool q d c ≡ true))
  one_of q c d = by (rank_cmp pool q c d) refl
    where
      by : (o : Ordering) → o ≡ rank_cmp pool q c d → (c ≡ d) ⊎ ((is_better pool q c d ≡ true) ⊎ (is_better pool q d c ≡ true))
      by Less e = inr (inl (ap is_lt (sym e)))
      by Equal e = inl (strict q c d (sym e))
      by Greater e = inr (inr (ap is_lt ((total q).antisymm d c ∙ ap ordering_reverse (sym e))))

  same_need : (q r : Need) (t : List ℕ) → next_need pool t ≡ Some q → next_need pool t ≡ Some r → q ≡ r
  same_need q r t a b = cc

  before_chain : (u v w x : List ℕ) → IsAfterChosenRestOfWalkPreferredToOther pool u v w → IsAfterChosenRestOfWalkPreferredToOther pool u w x → IsAfterChosenRestOfWalkPreferredToOther pool u v x
  before_chain u [] w x a b = absurd a
  before_chain u (c ∷ v) [] x a b = absurd a
  before_chain u (c ∷ v) (d ∷ w) [] a b = absurd b
  before_chain u (c ∷ v) (d ∷ w) (e ∷ x) (inl a) (inl b) =
      inl (a.0, a.1, chain a.0 c d e a.2 (subst (λ (q : Need). is_better pool q d e ≡ true) (same_need b.0 a.0 u b.1 a.1) b.2))
  before_chain u (c ∷ v) (d ∷ w) (e ∷ x) (inl a) (inr b) = inl (a.0, a.1, subst (λ (z : ℕ). is_better pool a.0 c z ≡ true) b.0 a.2)
  before_chain u (c ∷ v) (d ∷ w) (e ∷ x) (inr a) (inl b) = inl (b.0, b.1, subst (λ (z : ℕ). is_better pool b.0 z e ≡ true) (sym a.0) b.2)
  before_chain u (c ∷ v) (d ∷ w) (e ∷ x) (inr a) (inr b) =
      inr (a.0 ∙ b.0, before_chain (u ++ c ∷ []) v w x a.1 (subst (λ (z : ℕ). IsAfterChosenRestOfWalkPreferredToOther pool (u ++ z ∷ []) w x) (sym a.0) b.1))

  module _ (has : (need : Need) → HasOptions pool need) where
    facts : PoolFacts pool
    facts = pool_facts pool has

    pub walk_satisfies : (selection walk : List ℕ) → IsSatisfying pool selection → IsSelectionWalk pool selection walk → IsSatisfying pool walk
    walk_satisfies selection walk s walked =
        satisfying_of_closed pool walk (law.law facts selection walk (tt, (λ c h. absurd h), λ a b h. absurd h) (closed_of_satisfying pool selection s) walked)

    pub walk_of_walk : (selection walk : List ℕ) → IsSelectionWalk pool selection walk → IsSelectionWalk pool walk walk
    walk_of_walk selection walk walked = law.walk_idem facts selection walk walked

    pub has_a_walk : (selection : List ℕ) → IsSatisfying pool selection → (walk : List ℕ) × IsSelectionWalk pool selection walk
    has_a_walk selection s = law.walk_of_sat facts (λ q. sorted_of (is_better pool q) (options_for pool q) (has q).best_first) selection (closed_of_satisfying pool selection s)

    pub has_one_walk : (selection walk other : List ℕ) → IsSelectionWalk pool selection walk → IsSelectionWalk pool selection other → walk ≡ other
    has_one_walk selection walk other a b = law.walk_unique facts one_way selection [] walk other a b

    pub walks_compare : (selection other walk second : List ℕ) → IsSatisfying pool selection → IsSatisfying pool other → IsSelectionWalk pool selection walk → IsSelectionWalk pool other second → (walk ≡ second) ⊎ (IsWalkOfCandidatesPreferredTo pool walk second ⊎ IsWalkOfCandidatesPreferredTo pool second walk)
    walks_compare selection other walk second s o a b =
        law.before_total facts (λ q c d gc gd mc md. one_of q c d) selection other [] walk second (closed_of_satisfying pool selection s) (closed_of_satisfying pool other o) a b

    pub not_both_before : (walk second : List ℕ) → IsWalkOfCandidatesPreferredTo pool walk second → IsWalkOfCandidatesPreferredTo pool second walk → ⊥
    not_both_before walk second a b = law.before_asym facts one_way [] walk second a b

    pub before_is_transitive : (a b c : List ℕ) → IsWalkOfCandidatesPreferredTo pool a b → IsWalkOfCandidatesPreferredTo pool b c → IsWalkOfCandidatesPreferredTo pool a c
    before_is_transitive a b c x y = before_chain [] a b c x y

    -- of a selection that has the choices in front and another option, the walk takes these choices
    -- too, and then none that is better than the option
    as_good : (trace selection u front rest w : List ℕ) (c o : ℕ) (need : Need) → IsRestOfSelectionWalkAfterChosen pool trace u (front ++ c ∷ rest) → IsRestOfSelectionWalkAfterChosen pool selection u w → (w ≡ front ++ c ∷ rest) ⊎ IsAfterChosenRestOfWalkPreferredToOther pool u (front ++ c ∷ rest) w → next_need pool (u ++ front) ≡ Some need → AreAllMembersOf (front ++ o ∷ []) selection → meets_at pool o need ≡ true → (o ≡ c) ⊎ (is_better pool need c o ≡ true)
    as_good trace selection u [] rest [] c o need tw sw first next in_it meets = elim first [
      | inl e ↦ absurd (cc)
      | inr b ↦ absurd b
    ]
    as_good trace selection u [] rest (d ∷ w) c o need tw sw first next in_it meets =
        let next_here : next_need pool u ≡ Some need = subst (λ (z : List ℕ). next_need pool z ≡ Some need) (append-nil u) next in
        let same : sw.0 ≡ need = same_need sw.0 need u sw.1 next_here in
        let meets_here : meets_at pool o sw.0 ≡ true = subst (λ (q : Need). meets_at pool o q ≡ true) (sym same) meets in
        let best : (o ≡ d) ⊎ (is_better pool need d o ≡ true) = subst (λ (q : Need). (o ≡ d) ⊎ (is_better pool q d o ≡ true)) same (sw.2.2 o (in_it o (inl refl)) meets_here) in
        elim first [
          | inl e ↦ let is : d ≡ c = cc in subst (λ (z : ℕ). (o ≡ z) ⊎ (is_better pool need z o ≡ true)) is best
          | inr b ↦ elim b [
            | inl better ↦
                let ahead : is_better pool need c d ≡ true = subst (λ (q : Need). is_better pool q c d ≡ true) (same_need better.0 need u better.1 next_here) better.2 in
                elim best [
                  | inl e ↦ inr (subst (λ (z : ℕ). is_better pool need c z ≡ true) (sym e) ahead)
                  | inr more ↦ inr (chain need c d o ahead more)
                ]
            | inr on ↦ subst (λ (z : ℕ). (o ≡ z) ⊎ (is_better pool need z o ≡ true)) (sym on.0) best
          ]
        ]
    as_good trace selection u (f ∷ front) rest [] c o need tw sw first next in_it meets = elim first [
      | inl e ↦ absurd (cc)
      | inr b ↦ absurd b
    ]
    as_good trace selection u (f ∷ front) rest (d ∷ w) c o need tw sw first next in_it meets =
        let further : next_need pool ((u ++ f ∷ []) ++ front) ≡ Some need = subst (λ (z : List ℕ). next_need pool z ≡ Some need) (sym (append_assoc u (f ∷ []) front)) next in
        let on : f ≡ d → (w ≡ front ++ c ∷ rest) ⊎ IsAfterChosenRestOfWalkPreferredToOther pool (u ++ f ∷ []) (front ++ c ∷ rest) w → (o ≡ c) ⊎ (is_better pool need c o ≡ true) = λ e after.
        as_good trace selection (u ++ f ∷ []) front rest w c o need tw.3 (subst (λ (z : ℕ). IsRestOfSelectionWalkAfterChosen pool selection (u ++ z ∷ []) w) (sym e) sw.3) after further (λ k h. in_it k (inr h)) meets in
        elim first [
          | inl e ↦ let is : f ≡ d = cc in let rest_is : w ≡ front ++ c ∷ rest = cc in on is (inl rest_is)
          | inr b ↦ elim b [
            | inl better ↦
                let same : tw.0 ≡ sw.0 = same_need tw.0 sw.0 u tw.1 sw.1 in
                let meets_here : meets_at pool f sw.0 ≡ true = subst (λ (q : Need). meets_at pool f q ≡ true) same tw.2.1 in
                let ahead : is_better pool sw.0 f d ≡ true = subst (λ (q : Need). is_better pool q f d ≡ true) (same_need better.0 sw.0 u better.1 sw.1) better.2 in
                elim (sw.2.2 f (in_it f (inl refl)) meets_here) [
                  | inl e ↦ absurd (one_way sw.0 f d ahead (subst (λ (z : ℕ). is_better pool sw.0 d z ≡ true) (sym e) (subst (λ (z : ℕ). is_better pool sw.0 z d ≡ true) e ahead)))
                  | inr back ↦ absurd (one_way sw.0 f d ahead back)
                ]
            | inr more ↦ on more.0 (inr more.1)
          ]
        ]

    pub best_completed : (front rest selection : List ℕ) (c o : ℕ) (need : Need) → IsFirstPreferredSelection pool (front ++ c ∷ rest) → next_need pool front ≡ Some need → IsSatisfying pool selection → AreAllMembersOf (front ++ o ∷ []) selection → meets_at pool o need ≡ true → (o ≡ c) ⊎ (is_better pool need c o ≡ true)
    best_completed front rest selection c o need first next s in_it meets =
        let walk = has_a_walk selection s in
        as_good (front ++ c ∷ rest) selection [] front rest walk.0 c o need first.walked walk.1 (first.first selection walk.0 s walk.1) next in_it meets

    pub first_is_unique : (a b : List ℕ) → IsFirstPreferredSelection pool a → IsFirstPreferredSelection pool b → a ≡ b
    first_is_unique a b fa fb = elim (fa.first b b fb.satisfies fb.walked) [
      | inl e ↦ sym e
      | inr before ↦ elim (fb.first a a fa.satisfies fa.walked) [
        | inl e ↦ e
        | inr after ↦ absurd (not_both_before a b before after)
      ]
    ]

    pub first_exists : (selection : List ℕ) → IsSatisfying pool selection → (trace : List ℕ) × IsFirstPreferredSelection pool trace
    first_exists selection s =
        let all = places_passing_counted_from 0 (is_eligible pool.world) pool.candidates in
        elim (first_or_none pool facts all (λ c h. let z : 0 + c ≡ c = omega arith in subst (λ (k : ℕ). IsIn k all) z (in_places 0 (is_eligible pool.world) pool.candidates c h))) [
          | inl found ↦ (
            found.0,
            record {
              satisfies = satisfying_of_closed pool found.0 found.1.0;
              walked = found.1.1;
              first = λ other walk o walked. found.1.2 other walk (closed_of_satisfying pool other o) walked;
            },
          )
          | inr dead ↦ absurd (none_satisfies pool dead selection s)
        ]
