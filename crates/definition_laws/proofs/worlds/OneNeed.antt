-- There is one next need.
use Rattle.std.proofs.Common.{◌≡◌, ℕ, false, List, [], ◌∷◌, ◌++◌, Option, Some, None, Ordering, inl, inr, refl, ap, sym, ◌∙◌, subst}
use Rattle.std.specs.Ordering.{is_lt, ordering_reverse}
use Rattle.std.specs.declared.cmp.Ordering.TheVariants.{Less, Equal, Greater}
use Rattle.dep_core.specs.Dependency.{Dependency}
use Rattle.dep_core.proofs.Worlds.{cmp-equal}
use Rattle.base_core.specs.ByteOrder.{bytes_cmp}
use Rattle.base_core.proofs.Orderings.{names_total}
use Rattle.engine_core.specs.candidate_core.Candidates.{Need, entry, named}
use Rattle.engine_core.specs.candidate_core.Options.{IsIn}
use Rattle.engine_core.specs.candidate_core.Rank.{SelectionProblem}
use Rattle.engine_core.specs.search_tables.Selection.{depends_at}
use Rattle.definition_laws.specs.worlds.NextNeed.{AreMetByChoices, AreDependenciesOfEachMet, IsFirstByInstallIf, IsFirstOfChoices, IsFirstUnmet, IsMetByChoice, IsNextNeed, IsNextNeedOrNone}

-- ---- the first place of a list

member_at : {X : Type 0} (front : List X) (x : X) (behind : List X) → IsIn x (front ++ x ∷ behind)
member_at [] x behind = inl refl
member_at (y ∷ front) x behind = inr (member_at front x behind)

-- all that stands before each of two places is done, and what stands there is not: they are one
one_place : {X : Type 0} (Done : X → Type 0) (f g : List X) (x y : X) (a b : List X) → f ++ x ∷ a ≡ g ++ y ∷ b
    → ((z : X) → IsIn z f → Done z) → ((z : X) → IsIn z g → Done z) → ¬ Done x → ¬ Done y → x ≡ y
one_place Done [] [] x y a b e p q n m = cc
one_place Done [] (z ∷ g) x y a b e p q n m = let same : z ≡ x = cc in absurd (n (subst Done same (q z (inl refl))))
one_place Done (z ∷ f) [] x y a b e p q n m = let same : z ≡ y = cc in absurd (m (subst Done same (p z (inl refl))))
one_place {X} Done (z ∷ f) (w ∷ g) x y a b e p q n m =
    let rest : f ++ x ∷ a ≡ g ++ y ∷ b = cc in
    one_place Done f g x y a b rest (λ k here. p k (inr here)) (λ k here. q k (inr here)) n m

lt_equal : (o : Ordering) → is_lt o ≡ false → is_lt (ordering_reverse o) ≡ false → o ≡ Equal
lt_equal Less h k = absurd (cc (h))
lt_equal Equal h k = refl
lt_equal Greater h k = absurd (cc (k))

module _ (pool : SelectionProblem) (chosen : List ℕ) where
  abbrev IsDone : Dependency → Type 0
  IsDone d = d.conflict ≡ false → IsMetByChoice pool chosen (entry d)

  one_unmet : (deps : List Dependency) (d e : Dependency) → IsFirstUnmet pool chosen deps d → IsFirstUnmet pool chosen deps e → d ≡ e
  one_unmet deps d e f g =
      one_place IsDone f.front g.front d e f.behind g.behind (sym f.located ∙ g.located) f.before g.before (λ done. f.unmet (done f.positive)) (λ done. g.unmet (done g.positive))

  not_met : (deps : List Dependency) (d : Dependency) → IsFirstUnmet pool chosen deps d → ¬ AreMetByChoices pool chosen deps
  not_met deps d f all =
      f.unmet (all d (subst (λ (l : List Dependency). IsIn d l) (sym f.located) (member_at f.front d f.behind)) f.positive)

  one_choice : (d e : Dependency) → IsFirstOfChoices pool chosen chosen d → IsFirstOfChoices pool chosen chosen e → d ≡ e
  one_choice d e f g =
      let same : f.choice ≡ g.choice = one_place (λ c. AreMetByChoices pool chosen (depends_at pool c)) f.front g.front f.choice g.choice f.behind g.behind (sym f.located ∙ g.located) f.before g.before
      (not_met (depends_at pool f.choice) d f.first) (not_met (depends_at pool g.choice) e g.first) in
      one_unmet (depends_at pool g.choice) d e (subst (λ (c : ℕ). IsFirstUnmet pool chosen (depends_at pool c) d) same f.first) g.first

  not_each : (d : Dependency) → IsFirstOfChoices pool chosen chosen d → ¬ AreDependenciesOfEachMet pool chosen chosen
  not_each d f all =
      not_met (depends_at pool f.choice) d f.first (all f.choice (subst (λ (l : List ℕ). IsIn f.choice l) (sym f.located) (member_at f.front f.choice f.behind)))

  one_name : (n m : List ℕ) → IsFirstByInstallIf pool chosen n → IsFirstByInstallIf pool chosen m → n ≡ m
  one_name n m f g =
      cmp-equal n m (lt_equal (bytes_cmp n m) (g.first n f.asked) (ap is_lt (sym (names_total.antisymm m n)) ∙ f.first m g.asked))

  not_all : (d : Dependency) → IsNextNeed pool chosen (entry d) → AreMetByChoices pool chosen pool.world → AreDependenciesOfEachMet pool chosen chosen → ⊥
  not_all d (inl first) world each = not_met pool.world d first world
  not_all d (inr next) world each = not_each d next.1 each

  one_entry : (d e : Dependency) → IsNextNeed pool chosen (entry d) → IsNextNeed pool chosen (entry e) → d ≡ e
  one_entry d e (inl f) (inl g) = one_unmet pool.world d e f g
  one_entry d e (inl f) (inr g) = absurd (not_met pool.world d f g.0)
  one_entry d e (inr f) (inl g) = absurd (not_met pool.world e g f.0)
  one_entry d e (inr f) (inr g) = one_choice d e f.1 g.1

  pub one_next : (a b : Option Need) → IsNextNeedOrNone pool chosen a → IsNextNeedOrNone pool chosen b → a ≡ b
  one_next None None f g = refl
  one_next None (Some (entry d)) f g = absurd (not_all d g f.0 f.1)
  one_next None (Some (named n)) f g = absurd (f.2 n g.2.asked)
  one_next (Some (entry d)) None f g = absurd (not_all d f g.0 g.1)
  one_next (Some (entry d)) (Some (entry e)) f g = ap (λ (x : Dependency). Some (entry x)) (one_entry d e f g)
  one_next (Some (entry d)) (Some (named n)) f g = absurd (not_all d f g.0 g.1)
  one_next (Some (named n)) None f g = absurd (g.2 n f.2.asked)
  one_next (Some (named n)) (Some (entry d)) f g = absurd (not_all d g f.0 f.1)
  one_next (Some (named n)) (Some (named m)) f g = ap (λ (x : List ℕ). Some (named x)) (one_name n m f.2 g.2)
