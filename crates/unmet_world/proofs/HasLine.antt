-- A text that explains a world has a line, if no selection satisfies the world.
use Rattle.std.proofs.Common.{◌≡◌, ◌∙◌, ℕ, Bool, true, false, List, [], ◌∷◌, ◌++◌, length, map, take, refl, sym, ap, subst}
use Rattle.std.specs.Prelude.{Option, Some, None, IfSome, not, ◌&&◌, ◌==◌, codes, if◌then◌else◌}
use Rattle.std.specs.List.{filter, flat_map, list_all, list_any}
use Rattle.std.specs.Str.{bytes_eq}
use Rattle.dep_core.specs.Dependency.{Dependency}
use Rattle.dep_core.specs.Repositories.{Repository}
use Rattle.search_tables.specs.candidate_core.Candidates.{Candidate, is_eligible}
use Rattle.search_tables.specs.candidate_core.Rank.{SelectionProblem}
use Rattle.search_tables.specs.candidate_core.Options.{IsIn}
use Rattle.search_tables.specs.Selection.{IsSatisfying, install_if_applies, names_whose_install_if_applies, positive_needs}
use Rattle.unmet_world.specs.Lines.{IsExplanationOfUnmetWorldOfPool, explanation_text, missing_lines, most_printed_lines, need_lines, printed_line, text_of_at_most_ten_lines, refutation_lines, step_lines, want_lines, with_texts, world_lines}
use Rattle.unmet_world.specs.Refutation.{IsRefutation, wanted}
use Rattle.unmet_world.specs.declared.refutation.Refutation.{Refutation}

-- ---- the empty selection

not_empty : {X : Type 0} (x : X) (xs : List X) → x ∷ xs ≡ [] → ⊥
not_empty x xs e = cc

no_line_no_need : (listed world : List Dependency) → world_lines listed world ≡ [] → positive_needs world ≡ []
no_line_no_need listed [] none = refl
no_line_no_need listed (d ∷ world) none = by d.conflict refl (no_line_no_need listed world)
  where
    by : (b : Bool) → d.conflict ≡ b → (world_lines listed world ≡ [] → positive_needs world ≡ []) → positive_needs (d ∷ world) ≡ []
    by true is rest = rw is (rest (rw is at none))
    by false is rest = absurd (not_empty _ _ (rw is at none))

and_false : (b : Bool) → (b && false) ≡ false
and_false true = refl
and_false false = refl

-- an install-if that is not empty is not met by nothing
none_met : (eligible rest : Bool) (deps : List Dependency) → ((eligible && (not (length deps == 0) && rest)) && list_all (λ (d : Dependency). false) deps) ≡ false
none_met true rest [] = refl
none_met false rest [] = refl
none_met eligible rest (d ∷ deps) = and_false (eligible && (not (length (d ∷ deps) == 0) && rest))

none_applies : (pool : SelectionProblem) (c : Candidate) → install_if_applies pool [] c ≡ false
none_applies pool c = none_met (is_eligible pool.world c) (list_all (λ (d : Dependency). not d.conflict) c.install_if) c.install_if

filter_none : {X : Type 0} (p : X → Bool) (xs : List X) → ((x : X) → p x ≡ false) → filter p xs ≡ []
filter_none p [] none = refl
filter_none p (x ∷ xs) none = rw (none x) (filter_none p xs none)

none_asked : (pool : SelectionProblem) → names_whose_install_if_applies pool [] ≡ []
none_asked pool = ap (map (λ (c : Candidate). c.name)) (filter_none (install_if_applies pool []) pool.candidates (none_applies pool))

nothing_satisfies : (pool : SelectionProblem) → positive_needs pool.world ≡ [] → IsSatisfying pool []
nothing_satisfies pool none = record {
  once = tt;
  eligible = λ c h. absurd h;
  world_met = λ q h. absurd (subst (IsIn q) none h);
  depends_met = λ c q h there. absurd h;
  no_conflict = λ a b h there apart. absurd h;
  names_alone = λ a b name h there one other. absurd h;
  asked_met = λ name h. absurd (subst (IsIn name) (none_asked pool) h);
}

-- ---- lines

printed_some : (b : Bool) (line : List ℕ) (lines front : List (List ℕ)) → (if b then flat_map printed_line (line ∷ front) ++ printed_line (codes "..") else flat_map printed_line (line ∷ lines)) ≡ [] → ⊥
printed_some true line lines front e = not_empty 97 _ e
printed_some false line lines front e = not_empty 97 _ e

none_printed : (lines : List (List ℕ)) → text_of_at_most_ten_lines lines ≡ [] → lines ≡ []
none_printed [] e = refl
none_printed (line ∷ lines) e = absurd (printed_some _ line lines _ e)

more_than_none : (x : List ℕ) (xs ys : List (List ℕ)) → with_texts (x ∷ xs) ys ≡ [] → ⊥
more_than_none x xs [] e = not_empty x xs e
more_than_none x xs (y ∷ ys) e = by (list_any (bytes_eq y) (x ∷ xs)) (λ (zs : List (List ℕ)). more_than_none x zs ys) e
  where
    by : (b : Bool) → ((zs : List (List ℕ)) → with_texts (x ∷ zs) ys ≡ [] → ⊥) → with_texts (if b then x ∷ xs else (x ∷ xs) ++ y ∷ []) ys ≡ [] → ⊥
    by true rest h = rest xs h
    by false rest h = rest (xs ++ y ∷ []) h

kept : (texts ys : List (List ℕ)) → (texts ≡ [] → ⊥) → with_texts texts ys ≡ [] → ⊥
kept [] ys some e = some refl
kept (x ∷ xs) ys some e = more_than_none x xs ys e

refutation_has_line : (pool : SelectionProblem) (listed : List Dependency) (repositories : List Repository) (r : Refutation) → IsRefutation pool r → refutation_lines pool listed repositories r ≡ [] → ⊥
refutation_has_line pool listed repositories r is none =
    kept (with_texts [] (want_lines pool listed repositories r.end)) (flat_map (step_lines pool listed repositories) (take most_printed_lines r.steps.items)) (first (wanted pool r.end) is.none_left.0 is.none_left.1) none
  where
    first : (o : Option Dependency) (d : Dependency) → o ≡ Some d → with_texts [] (need_lines pool listed repositories r.end.owner o) ≡ [] → ⊥
    first None d at e = absurd (cc)
    first (Some found) d at e = more_than_none _ [] (missing_lines pool listed found) e

pub has_line : (pool : SelectionProblem) (listed : List Dependency) (repositories : List Repository) (text : List ℕ) → IsExplanationOfUnmetWorldOfPool pool listed repositories text → ((selection : List ℕ) → IsSatisfying pool selection → ⊥) → text ≡ [] → ⊥
has_line pool listed repositories text h unmet empty = by h.found h.refutes (sym h.says ∙ empty)
  where
    by : (found : Option Refutation) → IfSome found (IsRefutation pool) → explanation_text pool listed repositories found ≡ [] → ⊥
    by None refutes e = unmet [] (nothing_satisfies pool (no_line_no_need listed pool.world (none_printed (world_lines listed pool.world) e)))
    by (Some r) refutes e = refutation_has_line pool listed repositories r refutes (none_printed (refutation_lines pool listed repositories r) e)
