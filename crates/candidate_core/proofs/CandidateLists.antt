-- The candidates of the packages in front of a place of an index.
use Rattle.std.proofs.Common.{◌≡◌, ℕ, zero, suc, ◌+◌, ◌-◌, ◌≤◌, ◌<◌, false, List, [], ◌∷◌, ◌++◌, length, append_assoc, refl, ap, sym, ◌∙◌, arith, Option, Some}
use Rattle.std.specs.Prelude.{option_copied}
use Rattle.adb_view.specs.Plain.{Plain, Plains, none, more}
use Rattle.adb_view.specs.Values.{count_of, nth}
use Rattle.candidate_core.specs.Candidates.{Candidate, candidate_of, candidates_of_index}
use Rattle.candidate_core.specs.Packages.{candidates_of_source}
use Rattle.candidate_core.specs.declared.packages.Source.{Source}

module _ (source : Source) where
  abbrev pub candidates_to : ℕ → Plains → List Candidate
  candidates_to zero infos = []
  candidates_to (suc n) none = []
  candidates_to (suc n) (more info infos) = candidate_of info source.repo (option_copied source.tag) false ∷ candidates_to n infos

  one_more : (n : ℕ) (infos : Plains) → n < count_of infos → candidates_to (suc n) infos ≡ candidates_to n infos ++ candidate_of (nth infos n) source.repo (option_copied source.tag) false ∷ []
  one_more n none h = absurd (omega arith)
  one_more zero (more info infos) h = refl
  one_more (suc n) (more info infos) h = ap (λ (z : List Candidate). candidate_of info source.repo (option_copied source.tag) false ∷ z) (one_more n infos (omega arith))

  -- one more candidate, from what the calls of one turn of the loop say
  pub candidates_step : (n : ℕ) (infos : Plains) (info : Plain) (c : Candidate) (start before after : List Candidate) → n < count_of infos → info ≡ nth infos ((n + 1) - 1) → c ≡ candidate_of info source.repo (option_copied source.tag) false → before ≡ start ++ candidates_to n infos → after ≡ before ++ c ∷ [] → after ≡ start ++ candidates_to (n + 1) infos
  candidates_step n infos info c start before after h at is was new =
      let z : n + 1 ≡ suc n = omega arith in
      let e : (n + 1) - 1 ≡ n = omega arith in
      let c_is : c ≡ candidate_of (nth infos n) source.repo (option_copied source.tag) false = is ∙ ap (λ (i : Plain). candidate_of i source.repo (option_copied source.tag) false) (at ∙ ap (nth infos) e) in
      let next : candidates_to (n + 1) infos ≡ candidates_to n infos ++ c ∷ [] = ap (λ (k : ℕ). candidates_to k infos) z ∙ (one_more n infos h ∙ ap (λ (k : Candidate). candidates_to n infos ++ k ∷ []) (sym c_is)) in
      new ∙ (ap (λ (xs : List Candidate). xs ++ c ∷ []) was ∙ (append_assoc start (candidates_to n infos) (c ∷ []) ∙ ap (λ (xs : List Candidate). start ++ xs) (sym next)))

  pub all_candidates : (infos : Plains) → candidates_to (count_of infos) infos ≡ candidates_of_source source infos
  all_candidates none = refl
  all_candidates (more info infos) = ap (λ (z : List Candidate). candidate_of info source.repo (option_copied source.tag) false ∷ z) (all_candidates infos)

  pub length-candidates_to : (n : ℕ) (infos : Plains) → n ≤ count_of infos → length (candidates_to n infos) ≡ n
  length-candidates_to zero infos h = refl
  length-candidates_to (suc n) none h = absurd (omega arith)
  length-candidates_to (suc n) (more info infos) h = ap suc (length-candidates_to n infos (omega arith))

pub of_index : (source : Source) (repo : ℕ) (infos : Plains) → source.repo ≡ Some repo → candidates_of_source source infos ≡ candidates_of_index repo (option_copied source.tag) infos
of_index source repo none e = refl
of_index source repo (more info infos) e =
    ap (λ (r : Option ℕ). candidate_of info r (option_copied source.tag) false ∷ candidates_of_source source infos) e
    ∙ ap (λ (z : List Candidate). candidate_of info (Some repo) (option_copied source.tag) false ∷ z) (of_index source repo infos e)
