-- Clauses stay clauses, and the resolvent of two is one.
use Rattle.std.proofs.Common.{◌≡◌, ◌⊎◌, inl, inr, ℕ, true, zero, suc, List, [], ◌∷◌, ◌++◌, subst, refl, sym, take}
use Rattle.std.specs.Prelude.{Some, slice_get}
use Rattle.search_choices.specs.candidate_core.Candidates.{Need}
use Rattle.search_choices.specs.candidate_core.Rank.{SelectionProblem}
use Rattle.search_choices.specs.candidate_core.Options.{IsIn, options_for}
use Rattle.search_choices.specs.search_tables.Selection.{AreAllMembersOf, exclude_each_other, needs}
use Rattle.search_choices.specs.search_tables.Reasons.{HasOptions, IsReason}
use Rattle.search_choices.proofs.search_tables.Theory as law
use Rattle.search_choices.proofs.search_tables.Theory.{decide_in, in_append}
use Rattle.search_choices.proofs.search_tables.PoolFacts.{pool_facts}
use Rattle.solve_core.specs.Clauses.{AreClauses, AreAllMembersOfOr, ClauseValue, IsClause}

module _ (pool : SelectionProblem) where
  pub clauses_more : (clauses : List ClauseValue) (clause : ClauseValue) → AreClauses pool clauses → IsClause pool clause → AreClauses pool (clauses ++ clause ∷ [])
  clauses_more [] clause all one = (one, tt)
  clauses_more (c ∷ cs) clause all one = (all.0, clauses_more cs clause all.1 one)

  pub clauses_fewer : (n : ℕ) (clauses : List ClauseValue) → AreClauses pool clauses → AreClauses pool (take n clauses)
  clauses_fewer zero clauses all = tt
  clauses_fewer (suc n) [] all = tt
  clauses_fewer (suc n) (c ∷ cs) all = (all.0, clauses_fewer n cs all.1)

  pub clause_at : (clauses : List ClauseValue) (i : ℕ) (clause : ClauseValue) → AreClauses pool clauses → slice_get clauses i ≡ Some clause → IsClause pool clause
  clause_at [] zero clause all h = absurd (cc)
  clause_at [] (suc i) clause all h = absurd (cc)
  clause_at (c ∷ cs) zero clause all h =
      let same : c ≡ clause = cc in
      subst (λ (z : ClauseValue). IsClause pool z) same all.0
  clause_at (c ∷ cs) (suc i) clause all h = clause_at cs i clause all.1 h

  -- the rule of resolution: a selection has the candidate, or it has not
  pub resolves : (first second : ClauseValue) (id : ℕ) (members options : List ℕ) → AreAllMembersOf first.0 members → AreAllMembersOfOr second.0 id members → AreAllMembersOf second.1 options → AreAllMembersOfOr first.1 id options → IsClause pool first → IsClause pool second → IsClause pool (members, options)
  resolves first second id members options m_first m_second o_second o_first one two S s sub = elim (decide_in id S) [
    | inl there ↦
        let r = two S s (λ o h. elim (m_second o h) [ inl e ↦ subst (λ (z : ℕ). IsIn z S) (sym e) there | inr a ↦ sub o a ]) in
        (r.0, o_second r.0 r.1, r.2)
    | inr out ↦
        let r = one S s (λ o h. sub o (m_first o h)) in
        elim (o_first r.0 r.1) [
          | inl e ↦ absurd (out (subst (λ (z : ℕ). IsIn z S) e r.2))
          | inr a ↦ (r.0, a, r.2)
        ]
  ]

  -- a clause without options is a reason
  pub reason_of_clause : (clause : ClauseValue) → IsClause pool clause → clause.1 ≡ [] → IsReason pool clause.0
  reason_of_clause clause is none S s sub =
      let r = is S s sub in
      let bad : ⊥ = subst (λ (z : List ℕ). IsIn r.0 z) none r.1 in
      bad

  pub clause_of_reason : (members : List ℕ) → IsReason pool members → IsClause pool (members, [])
  clause_of_reason members dead S s sub = absurd (dead S s sub)

  -- a candidate is in a selection if it is
  pub says_nothing : (id : ℕ) → IsClause pool (id ∷ [], id ∷ [])
  says_nothing id S s sub = (id, inl refl, sub id (inl refl))

  -- a raised need is met by one of its options
  pub need_is_clause : ((need : Need) → HasOptions pool need) → (by : List ℕ) (need : Need) → IsIn need (needs pool by) → IsClause pool (by, options_for pool need)
  need_is_clause has by need raised S s sub =
      let met = law.forced (pool_facts pool has) S by need s sub raised in
      (met.0, (has need).each met.0 (s.0.1 met.0 met.1) met.2, met.1)

  -- two that exclude each other
  pub excluded_are_reason : (a b : ℕ) → exclude_each_other pool a b ≡ true → IsClause pool (a ∷ b ∷ [], [])
  excluded_are_reason a b out S s sub = absurd (s.0.2 a b (sub a (inl refl)) (sub b (inr (inl refl))) out)

-- one more member is the candidate, or one of the others
pub one_more_member : (done more : List ℕ) (x c : ℕ) (others : List ℕ) → AreAllMembersOfOr done c others → (x ≡ c) ⊎ IsIn x others → more ≡ done ++ x ∷ [] → AreAllMembersOfOr more c others
one_more_member done more x c others all one e o h = elim (in_append o done (x ∷ []) (subst (λ (z : List ℕ). IsIn o z) e h)) [
  | inl a ↦ all o a
  | inr b ↦ elim b [
    | inl q ↦ subst (λ (z : ℕ). (z ≡ c) ⊎ IsIn z others) (cc) one
    | inr bad ↦ absurd bad
  ]
]

-- a longer list has the others too
pub more_others : (done : List ℕ) (c : ℕ) (others more : List ℕ) → AreAllMembersOf others more → AreAllMembersOfOr done c others → AreAllMembersOfOr done c more
more_others done c others more sub all o h = elim (all o h) [ inl e ↦ inl e | inr a ↦ inr (sub o a) ]

-- one more member is one of the others
pub one_more : (done more : List ℕ) (x : ℕ) (others : List ℕ) → AreAllMembersOf done others → IsIn x others → more ≡ done ++ x ∷ [] → AreAllMembersOf more others
one_more done more x others all one e o h = elim (in_append o done (x ∷ []) (subst (λ (z : List ℕ). IsIn o z) e h)) [
  | inl a ↦ all o a
  | inr b ↦ elim b [
    | inl q ↦ subst (λ (z : ℕ). IsIn z others) (sym q) one
    | inr bad ↦ absurd bad
  ]
]
