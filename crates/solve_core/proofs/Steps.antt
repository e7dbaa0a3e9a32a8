-- What each step of a search keeps.
use Rattle.std.proofs.Common.{◌≡◌, ◌⊎◌, inl, inr, ℕ, false, List, [], ◌∷◌, ◌++◌, refl, sym, subst, ap, ◌∙◌, append-nil}
use Rattle.std.specs.Prelude.{not, filter, ◌==◌}
use Rattle.search_choices.specs.candidate_core.Candidates.{Need}
use Rattle.search_choices.specs.candidate_core.Rank.{SelectionProblem}
use Rattle.search_choices.specs.candidate_core.Options.{IsIn, options_for}
use Rattle.search_choices.specs.search_tables.Selection.{AreAllMembersOf, AreDistinct, exclude_each_other}
use Rattle.search_choices.specs.search_tables.Reasons.{AreCompatible, IsReason, IsRuledOutBy, FrameValue, ruled_out_options, AreRuledOut, IsFrameOf, IsExhaustedFrame, IsFrameTaking, AreTurnsFrom, choices_of_turns, other_members_of_reasons, dead_end_reason, HasSameMembers}
use Rattle.search_choices.specs.search_tables.Excluders.{IsExcluderAmongChoices}
use Rattle.search_choices.specs.search_tables.Reasons.{HasOptions}
use Rattle.search_choices.specs.Choices.{IsSearch, IsConsistent, choices_of, pool_of}
use Rattle.search_choices.specs.declared.choices.Choices.{Choices}
use Rattle.solve_core.specs.Clauses.{AreAllMembersOfOr}
use Rattle.search_choices.proofs.search_tables.Theory as law
use Rattle.search_choices.proofs.search_tables.Theory.{Facts, in_left, in_right, in_append}
use Rattle.search_choices.proofs.search_tables.Turns.{reasons_dead, turns_more, turns_less, choices-append}
use Rattle.search_choices.proofs.search_tables.PoolFacts.{pool_facts}
use Rattle.std.proofs.lemmas.Bool.Decides.{eqb_tells}

module _ (pool : SelectionProblem) where
  -- the next option of a frame is taken from it
  pub taken_of_open : (t : List ℕ) (f g : FrameValue) (c : ℕ) → IsFrameOf pool t f → g.0 ≡ f.0 → f.1 ≡ c ∷ g.1 → g.2 ≡ f.2 → IsFrameTaking pool t g c
  taken_of_open t f g c is_unmet_dep front left by =
      subst (λ (z : List ℕ). IsFrameOf pool t (g.0, z, g.2)) left
      (subst (λ (z : List ℕ). IsFrameOf pool t (g.0, f.1, z)) (sym by)
      (subst (λ (z : List (ℕ × List ℕ)). IsFrameOf pool t (z, f.1, f.2)) (sym front) is_unmet_dep))

  pub spent_of_open : (t : List ℕ) (f g : FrameValue) → IsFrameOf pool t f → g.0 ≡ f.0 → f.1 ≡ [] → g.1 ≡ [] → g.2 ≡ f.2 → IsExhaustedFrame pool t g
  spent_of_open t f g is_unmet_dep front left none by = (
    subst (λ (z : List ℕ). IsFrameOf pool t (g.0, z, g.2)) (left ∙ sym none)
        (subst (λ (z : List ℕ). IsFrameOf pool t (g.0, f.1, z)) (sym by)
        (subst (λ (z : List (ℕ × List ℕ)). IsFrameOf pool t (z, f.1, f.2)) (sym front) is_unmet_dep)),
    none,
  )

  -- a fitting option joins the choices
  pub fits_in : ((need : Need) → HasOptions pool need) → (t : List ℕ) (g : FrameValue) (c : ℕ) → IsFrameTaking pool t g c → AreCompatible pool t → ((m : ℕ) → IsIn m t → exclude_each_other pool m c ≡ false) → AreCompatible pool (t ++ c ∷ [])
  fits_in has t g c taken clean free =
      law.take_clean (pool_facts pool has) t (ruled_out_options g.0) g.1 c (taken.0, taken.1, taken.2, law_dead) clean (λ m h bad. let no : exclude_each_other pool m c ≡ false = free m h in absurd (cc))
    where
      law_dead : law.AllDead (pool_facts pool has) t (ruled_out_options g.0)
      law_dead = reasons_dead pool (pool_facts pool has) t g.0 taken.5

  distinct_front : (t : List ℕ) (c : ℕ) → AreDistinct (t ++ c ∷ []) → AreDistinct t
  distinct_front [] c d = tt
  distinct_front (x ∷ t) c d = ((λ h. d.0 (in_left x t (c ∷ []) h)), distinct_front t c d.1)

  -- fewer choices are clean too
  pub clean_less : (t : List ℕ) (c : ℕ) → AreCompatible pool (t ++ c ∷ []) → AreCompatible pool t
  clean_less t c clean = (
    distinct_front t c clean.0,
    λ o h. clean.1 o (in_left o t (c ∷ []) h),
    λ a b ha hb. clean.2 a b (in_left a t (c ∷ []) ha) (in_left b t (c ∷ []) hb),
  )

  why_of : (has : (need : Need) → HasOptions pool need) (t : List ℕ) (ps : List (ℕ × List ℕ)) → other_members_of_reasons ps ≡ law.others (pool_facts pool has) ps
  why_of has t [] = refl
  why_of has t (p ∷ ps) = ap (λ (z : List ℕ). p.1 ++ z) (why_of has t ps)

  -- what is to blame for a dead end
  pub dead_end : ((need : Need) → HasOptions pool need) → (t : List ℕ) (f : FrameValue) → IsExhaustedFrame pool t f → AreAllMembersOf (dead_end_reason f) t × IsReason pool (dead_end_reason f)
  dead_end has t f spent =
      let facts = pool_facts pool has in
      let o = spent.0 in
      let all : law.AllDead facts (other_members_of_reasons f.0) (options_for pool o.0) =
      subst (λ (z : List ℕ). law.AllDead facts (other_members_of_reasons f.0) z) (sym (o.2 ∙ (ap (λ (z : List ℕ). ruled_out_options f.0 ++ z) spent.1 ∙ append-nil (ruled_out_options f.0)))) (each_dead f.0 (other_members_of_reasons f.0) (λ c h. h) o.5) in (
        (λ c h. elim (in_append c f.2 (other_members_of_reasons f.0) h) [ inl a ↦ o.3 c a | inr b ↦ others_within t f.0 o.5 c b ]),
        law.dead_need facts f.2 (other_members_of_reasons f.0) o.0 (law.raises_all facts f.2 o.0 o.4) all,
      )
    where
      others_within : (t : List ℕ) (ps : List (ℕ × List ℕ)) → AreRuledOut pool t ps → AreAllMembersOf (other_members_of_reasons ps) t
      others_within t [] why c h = absurd h
      others_within t (p ∷ ps) why c h = elim (in_append c p.1 (other_members_of_reasons ps) h) [ inl a ↦ why.0.within c a | inr b ↦ others_within t ps why.1 c b ]

      each_dead : (ps : List (ℕ × List ℕ)) (G : List ℕ) → AreAllMembersOf (other_members_of_reasons ps) G → AreRuledOut pool t ps → (c : ℕ) → IsIn c (ruled_out_options ps) → IsReason pool (c ∷ G)
      each_dead [] G sub why c h = absurd h
      each_dead (p ∷ ps) G sub why c (inl e) = λ S closed inside. why.0.dead S closed (λ o h. elim h [
        | inl q ↦ inside o (inl (q ∙ sym e))
        | inr r ↦ inside o (inr (sub o (in_left o p.1 (other_members_of_reasons ps) r)))
      ])
      each_dead (p ∷ ps) G sub why c (inr h) = each_dead ps G (λ o k. sub o (in_right o p.1 (other_members_of_reasons ps) k)) why.1 c h

  pub dead_same : (xs ys : List ℕ) → HasSameMembers ys xs → IsReason pool xs → IsReason pool ys
  dead_same xs ys same dead S closed inside = dead S closed (λ c h. inside c (same.1 c h))

-- no choice is made yet
pub searching_none : (chosen : Choices) (turns : List (FrameValue × ℕ)) → IsConsistent chosen → choices_of chosen ≡ [] → turns ≡ [] → IsSearch chosen turns
searching_none chosen turns consistent none empty = subst (λ (z : List (FrameValue × ℕ)). IsSearch chosen z) (sym empty) (record {
  consistent = consistent;
  choices = none;
  clean = subst (λ (z : List ℕ). AreCompatible (pool_of chosen) z) (sym none) (tt, (λ c h. absurd h), λ a b ha hb e. ha);
  taken = tt;
})

-- the choices stay the same
pub searching_same : (old new : Choices) (turns : List (FrameValue × ℕ)) → IsSearch old turns → IsConsistent new → pool_of new ≡ pool_of old → choices_of new ≡ choices_of old → IsSearch new turns
searching_same old new turns search consistent pool choices = record {
  consistent = consistent;
  choices = choices ∙ search.choices;
  clean = subst (λ (p : SelectionProblem). AreCompatible p (choices_of new)) (sym pool) (subst (λ (z : List ℕ). AreCompatible (pool_of old) z) (sym choices) search.clean);
  taken = subst (λ (p : SelectionProblem). AreTurnsFrom p [] turns) (sym pool) search.taken;
}

pub searching_more : (old new : Choices) (turns : List (FrameValue × ℕ)) (f : FrameValue) (c : ℕ) → IsSearch old turns → IsFrameTaking (pool_of old) (choices_of old) f c → AreCompatible (pool_of old) (choices_of old ++ c ∷ []) → IsConsistent new → pool_of new ≡ pool_of old → choices_of new ≡ choices_of old ++ c ∷ [] → IsSearch new (turns ++ (f, c) ∷ [])
searching_more old new turns f c search taken clean consistent pool choices = record {
  consistent = consistent;
  choices = choices ∙ (ap (λ (z : List ℕ). z ++ c ∷ []) search.choices ∙ sym (choices-append turns f c));
  clean = subst (λ (p : SelectionProblem). AreCompatible p (choices_of new)) (sym pool) (subst (λ (z : List ℕ). AreCompatible (pool_of old) z) (sym choices) clean);
  taken = subst (λ (p : SelectionProblem). AreTurnsFrom p [] (turns ++ (f, c) ∷ [])) (sym pool) (turns_more (pool_of old) [] turns f c search.taken (subst (λ (z : List ℕ). IsFrameTaking (pool_of old) z f c) search.choices taken));
}

-- a turn is taken back
pub searching_less : (old new : Choices) (turns : List (FrameValue × ℕ)) (f : FrameValue) (c : ℕ) → IsSearch old (turns ++ (f, c) ∷ []) → IsConsistent new → pool_of new ≡ pool_of old → ((rest : List ℕ) (last : ℕ) → choices_of old ≡ rest ++ last ∷ [] → choices_of new ≡ rest) → IsSearch new turns × IsFrameTaking (pool_of new) (choices_of new) f c × (choices_of old ≡ choices_of new ++ c ∷ [])
searching_less old new turns f c search consistent pool popped =
    let was : choices_of old ≡ choices_of_turns turns ++ c ∷ [] = search.choices ∙ choices-append turns f c in
    let now : choices_of new ≡ choices_of_turns turns = popped (choices_of_turns turns) c was in
    let parts = turns_less (pool_of old) [] turns f c search.taken in (
      record {
        consistent = consistent;
        choices = now;
        clean = subst (λ (p : SelectionProblem). AreCompatible p (choices_of new)) (sym pool) (subst (λ (z : List ℕ). AreCompatible (pool_of old) z) (sym now) (clean_less (pool_of old) (choices_of_turns turns) c (subst (λ (z : List ℕ). AreCompatible (pool_of old) z) was search.clean)));
        taken = subst (λ (p : SelectionProblem). AreTurnsFrom p [] turns) (sym pool) parts.0;
      },
      subst (λ (p : SelectionProblem). IsFrameTaking p (choices_of new) f c) (sym pool) (subst (λ (z : List ℕ). IsFrameTaking (pool_of old) z f c) (sym now) parts.1),
      was ∙ ap (λ (z : List ℕ). z ++ c ∷ []) (sym now),
    )

-- a choice that is not to blame is jumped over
pub jumped : (members rest all : List ℕ) (c : ℕ) → AreAllMembersOf members all → all ≡ rest ++ c ∷ [] → (IsIn c members → ⊥) → AreAllMembersOf members rest
jumped members rest all c sub is out o h = elim (in_append o rest (c ∷ []) (subst (λ (z : List ℕ). IsIn o z) is (sub o h))) [
  | inl a ↦ a
  | inr b ↦ elim b [ inl e ↦ absurd (out (subst (λ (z : ℕ). IsIn z members) e h)) | inr bad ↦ absurd bad ]
]

filter_sub : (c : ℕ) (xs : List ℕ) (o : ℕ) → IsIn o (filter (λ id. not (id == c)) xs) → IsIn o xs × (o ≡ c → ⊥)
filter_sub c [] o h = absurd h
filter_sub c (x ∷ xs) o h = elim (eqb_tells x c) [
  | inl e ↦ let r = filter_sub c xs o (rw e.0 at h) in (inr r.0, r.1)
  | inr n ↦ elim (rw n.0 at h) [
    | inl s ↦ (inl s, λ q. n.1 (sym s ∙ q))
    | inr k ↦ let r = filter_sub c xs o k in (inr r.0, r.1)
  ]
]

sub_filter : (c : ℕ) (xs : List ℕ) (o : ℕ) → IsIn o xs → (o ≡ c) ⊎ IsIn o (filter (λ id. not (id == c)) xs)
sub_filter c [] o h = absurd h
sub_filter c (x ∷ xs) o h = elim (eqb_tells x c) [
  | inl e ↦ elim h [
    | inl s ↦ inl (s ∙ e.1)
    | inr k ↦ elim (sub_filter c xs o k) [ inl q ↦ inl q | inr r ↦ inr (rw e.0 r) ]
  ]
  | inr n ↦ rw n.0 (elim h [
    | inl s ↦ inr (inl s)
    | inr k ↦ elim (sub_filter c xs o k) [ inl q ↦ inl q | inr r ↦ inr (inr r) ]
  ])
]

-- a reason whose other members are choices rules a candidate out
pub rules_out : (pool : SelectionProblem) (members others chosen : List ℕ) (c : ℕ) → AreAllMembersOfOr members c chosen → IsReason pool members → others ≡ filter (λ id. not (id == c)) members → IsRuledOutBy pool chosen c others
rules_out pool members others chosen c or dead e = record {
  within = λ o h.
      let f = filter_sub c members o (subst (λ (z : List ℕ). IsIn o z) e h) in
      elim (or o f.0) [ inl q ↦ absurd (f.1 q) | inr a ↦ a ];
  dead = λ S closed inside. dead S closed (λ o h. elim (sub_filter c members o h) [
    | inl q ↦ inside o (inl q)
    | inr r ↦ inside o (inr (subst (λ (z : List ℕ). IsIn o z) (sym e) r))
  ]);
}

-- a choice that is to blame is skipped at its frame, with the rest of the blame
pub hit_reason : (pool : SelectionProblem) (members rest all others : List ℕ) (c : ℕ) → AreAllMembersOf members all → all ≡ rest ++ c ∷ [] → IsReason pool members → others ≡ filter (λ id. not (id == c)) members → IsRuledOutBy pool rest c others
hit_reason pool members rest all others c sub is dead e =
    rules_out pool members others rest c (λ o h. elim (in_append o rest (c ∷ []) (subst (λ (z : List ℕ). IsIn o z) is (sub o h))) [
      | inl a ↦ inr a
      | inr b ↦ elim b [ inl q ↦ inl q | inr bad ↦ absurd bad ]
    ]) dead e

-- a choice that excludes a candidate rules it out
pub excluder_rules_out : (pool : SelectionProblem) (chosen : List ℕ) (k c : ℕ) → IsExcluderAmongChoices pool chosen c k → IsRuledOutBy pool chosen c (k ∷ [])
excluder_rules_out pool chosen k c by = record {
  within = λ o h. elim h [ inl e ↦ subst (λ (z : ℕ). IsIn z chosen) (sym e) by.0 | inr bad ↦ absurd bad ];
  dead = λ S closed inside. closed.0.2 k c (inside k (inr (inl refl))) (inside c (inl refl)) by.1;
}

pub dead_empty : (pool : SelectionProblem) (members chosen : List ℕ) → AreAllMembersOf members chosen → chosen ≡ [] → IsReason pool members → IsReason pool []
dead_empty pool members chosen sub is dead S closed inside =
    dead S closed (λ o h. let bad : ⊥ = subst (λ (z : List ℕ). IsIn o z) is (sub o h) in absurd bad)

pub no_choices : (turns : List (FrameValue × ℕ)) → turns ≡ [] → choices_of_turns turns ≡ []
no_choices turns e = ap choices_of_turns e
