-- The turns of a search: what each step keeps, from the facts of a pool.
use Rattle.std.proofs.Common.{◌≡◌, ℕ, true, List, [], ◌∷◌, ◌++◌, refl, sym, subst, ap, ◌∙◌, append_assoc, append-nil}
use Rattle.std.specs.Prelude.{Some, None, slice_get, zero, suc}
use Rattle.pool_core.specs.candidate_core.Candidates.{Need}
use Rattle.pool_core.specs.candidate_core.Rank.{SelectionProblem, is_eligible_at, is_better, meets_at}
use Rattle.pool_core.specs.candidate_core.Options.{IsIn, options_for}
use Rattle.search_tables.specs.Selection.{AreAllMembersOf, exclude_each_other, needs, next_need}
use Rattle.search_tables.specs.Reasons.{AreCompatible, IsRuledOutBy, FrameValue, ruled_out_options, AreRuledOut, IsFrameOf, IsFrameTaking, AreTurnsFrom, choices_of_turns}
use Rattle.search_tables.proofs.Theory as law
use Rattle.search_tables.proofs.Theory.{Facts, in_left, in_right, in_append}

abbrev pub PoolFacts : SelectionProblem → Type 0
PoolFacts pool =
    Facts Need (next_need pool) (λ chosen q. IsIn q (needs pool chosen)) (λ c q. meets_at pool c q ≡ true)
    (λ c. is_eligible_at pool c ≡ true) (AreCompatible pool) (λ a b. exclude_each_other pool a b ≡ true) (options_for pool)
    (λ q a b. is_better pool q a b ≡ true)

module _ (pool : SelectionProblem) (facts : PoolFacts pool) where
  reasons_why : (t : List ℕ) (ps : List (ℕ × List ℕ)) → AreRuledOut pool t ps → law.AllWhy facts t ps
  reasons_why t [] why = tt
  reasons_why t (p ∷ ps) why = (why.0.within, why.0.dead, reasons_why t ps why.1)

  options_firsts : (ps : List (ℕ × List ℕ)) → ruled_out_options ps ≡ law.firsts facts ps
  options_firsts [] = refl
  options_firsts (p ∷ ps) = ap (λ (z : List ℕ). p.0 ∷ z) (options_firsts ps)

  -- an option skipped is dead with the choices before the frame
  pub reasons_dead : (t : List ℕ) (ps : List (ℕ × List ℕ)) → AreRuledOut pool t ps → law.AllDead facts t (ruled_out_options ps)
  reasons_dead t ps why o h =
      law.why_dead facts t ps (reasons_why t ps why) o (subst (λ (z : List ℕ). IsIn o z) (options_firsts ps) h)

  pub turns_led : (u : List ℕ) (turns : List (FrameValue × ℕ)) → AreTurnsFrom pool u turns → law.Led facts u (choices_of_turns turns)
  turns_led u [] taken = tt
  turns_led u (turn ∷ turns) taken =
      let here = taken.0 in (
        (here.0, ruled_out_options turn.0.0, turn.0.1, here.1, here.2, reasons_dead u turn.0.0 here.5),
        turns_led (u ++ turn.1 ∷ []) turns taken.1,
      )

  pub turns_found : (turns : List (FrameValue × ℕ)) → AreTurnsFrom pool [] turns → AreCompatible pool (choices_of_turns turns) → next_need pool (choices_of_turns turns) ≡ None → law.FirstAll facts (choices_of_turns turns)
  turns_found turns taken clean end = law.first_of_led facts (choices_of_turns turns) (turns_led [] turns taken) clean end

pub choices-append : (turns : List (FrameValue × ℕ)) (f : FrameValue) (c : ℕ) → choices_of_turns (turns ++ (f, c) ∷ []) ≡ choices_of_turns turns ++ c ∷ []
choices-append [] f c = refl
choices-append (turn ∷ turns) f c = ap (λ (z : List ℕ). turn.1 ∷ z) (choices-append turns f c)

module _ (pool : SelectionProblem) where
  pub turns_more : (u : List ℕ) (turns : List (FrameValue × ℕ)) (f : FrameValue) (c : ℕ) → AreTurnsFrom pool u turns → IsFrameTaking pool (u ++ choices_of_turns turns) f c → AreTurnsFrom pool u (turns ++ (f, c) ∷ [])
  turns_more u [] f c taken last = (subst (λ (z : List ℕ). IsFrameTaking pool z f c) (append-nil u) last, tt)
  turns_more u (turn ∷ turns) f c taken last =
      (taken.0, turns_more (u ++ turn.1 ∷ []) turns f c taken.1 (subst (λ (z : List ℕ). IsFrameTaking pool z f c) (sym (append_assoc u (turn.1 ∷ []) (choices_of_turns turns))) last))

  pub turns_less : (u : List ℕ) (turns : List (FrameValue × ℕ)) (f : FrameValue) (c : ℕ) → AreTurnsFrom pool u (turns ++ (f, c) ∷ []) → AreTurnsFrom pool u turns × IsFrameTaking pool (u ++ choices_of_turns turns) f c
  turns_less u [] f c taken = (tt, subst (λ (z : List ℕ). IsFrameTaking pool z f c) (sym (append-nil u)) taken.0)
  turns_less u (turn ∷ turns) f c taken =
      let rest = turns_less (u ++ turn.1 ∷ []) turns f c taken.1 in
      ((taken.0, rest.0), subst (λ (z : List ℕ). IsFrameTaking pool z f c) (append_assoc u (turn.1 ∷ []) (choices_of_turns turns)) rest.1)

  -- an option is skipped with a reason
  options-append : (ps : List (ℕ × List ℕ)) (o : ℕ) (others left : List ℕ) → ruled_out_options ps ++ o ∷ left ≡ ruled_out_options (ps ++ (o, others) ∷ []) ++ left
  options-append [] o others left = refl
  options-append (p ∷ ps) o others left = ap (λ (z : List ℕ). p.0 ∷ z) (options-append ps o others left)

  reasons_more : (t : List ℕ) (ps : List (ℕ × List ℕ)) (o : ℕ) (others : List ℕ) → AreRuledOut pool t ps → IsRuledOutBy pool t o others → AreRuledOut pool t (ps ++ (o, others) ∷ [])
  reasons_more t [] o others why reason = (reason, tt)
  reasons_more t (p ∷ ps) o others why reason = (why.0, reasons_more t ps o others why.1 reason)

  pub passed_over : (t : List ℕ) (f : FrameValue) (o : ℕ) (others : List ℕ) → IsFrameTaking pool t f o → IsRuledOutBy pool t o others → IsFrameOf pool t (f.0 ++ (o, others) ∷ [], f.1, f.2)
  passed_over t f o others open_now reason =
      (open_now.0, open_now.1, open_now.2 ∙ options-append f.0 o others f.1, open_now.3, open_now.4, reasons_more t f.0 o others open_now.5 reason)

  pub reason_in : (t : List ℕ) (ps : List (ℕ × List ℕ)) (i : ℕ) (p : ℕ × List ℕ) → AreRuledOut pool t ps → slice_get ps i ≡ Some p → IsRuledOutBy pool t p.0 p.1
  reason_in t [] zero p why h = absurd (cc)
  reason_in t [] (suc i) p why h = absurd (cc)
  reason_in t (q ∷ ps) zero p why h =
      let same : q ≡ p = cc in
      subst (λ (z : ℕ × List ℕ). IsRuledOutBy pool t z.0 z.1) same why.0
  reason_in t (q ∷ ps) (suc i) p why h = reason_in t ps i p why.1 h

  reason_of_more : (t u : List ℕ) (c : ℕ) (others : List ℕ) → AreAllMembersOf t u → IsRuledOutBy pool t c others → IsRuledOutBy pool u c others
  reason_of_more t u c others sub reason = record { within = λ o h. sub o (reason.within o h); dead = reason.dead }

  -- what was skipped at an earlier turn is still skipped
  pub passed_before : (u : List ℕ) (turns : List (FrameValue × ℕ)) (j i : ℕ) (turn : FrameValue × ℕ) (p : ℕ × List ℕ) → AreTurnsFrom pool u turns → slice_get turns j ≡ Some turn → slice_get turn.0.0 i ≡ Some p → IsRuledOutBy pool (u ++ choices_of_turns turns) p.0 p.1
  passed_before u [] zero i turn p taken h g = absurd (cc)
  passed_before u [] (suc j) i turn p taken h g = absurd (cc)
  passed_before u (x ∷ turns) zero i turn p taken h g =
      let same : turn ≡ x = cc in
      let here : slice_get x.0.0 i ≡ Some p = subst (λ (z : FrameValue × ℕ). slice_get z.0.0 i ≡ Some p) same g in
      reason_of_more u (u ++ x.1 ∷ choices_of_turns turns) p.0 p.1 (λ o. in_left o u (x.1 ∷ choices_of_turns turns)) (reason_in u x.0.0 i p taken.0.5 here)
  passed_before u (x ∷ turns) (suc j) i turn p taken h g =
      subst (λ (z : List ℕ). IsRuledOutBy pool z p.0 p.1) (append_assoc u (x.1 ∷ []) (choices_of_turns turns))
      (passed_before (u ++ x.1 ∷ []) turns j i turn p taken.1 h g)

  pub reason_as : (t u : List ℕ) (c d : ℕ) (xs ys : List ℕ) → IsRuledOutBy pool t c xs → t ≡ u → c ≡ d → xs ≡ ys → IsRuledOutBy pool u d ys
  reason_as t u c d xs ys reason tu cd xy =
      subst (λ (z : List ℕ). IsRuledOutBy pool z d ys) tu (subst (λ (z : ℕ). IsRuledOutBy pool t z ys) cd (subst (λ (z : List ℕ). IsRuledOutBy pool t c z) xy reason))
