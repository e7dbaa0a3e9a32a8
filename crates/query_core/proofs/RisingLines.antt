-- The lines of repositories by their numbers are those of the repositories that have a candidate.
use Rattle.std.proofs.Common.{◌≡◌, inl, inr, ℕ, suc, ◌+◌, ◌-◌, ◌<◌, ◌≤◌, true, false, List, [], ◌∷◌, ◌++◌, refl, sym, ap, subst, ◌∙◌, arith}
use Rattle.std.specs.Prelude.{Option, Some, None, ◌==◌, nat_lt, slice_get}
use Rattle.std.specs.List.{cons_option, filter_map, list_any}
use Rattle.std.specs.Option.{option_map_or}
use Rattle.std.proofs.lemmas.Bool.Decides.{Decides-eqb}
use Rattle.std.proofs.lemmas.Bool.{cases_Bool, le-ltb, ltb-true, ltb-false}
use Rattle.pool_core.specs.candidate_core.Candidates.{Candidate}
use Rattle.pool_core.specs.candidate_core.Options.{IsIn}
use Rattle.dep_core.specs.Repositories.{Repository}
use Rattle.report_core.specs.QueryReports.{policy_repository_line}
use Rattle.query_core.specs.Policy.{is_of_repository, lines_of_repositories_of_candidates}
use Rattle.query_core.specs.VersionPlaces.{AreNonDecreasing, repository_line_numbered, distinct_repository_lines}

module _ (all : List Repository) where
  -- past the last repository there is no line
  no_lines : (last : ℕ) (ns : List ℕ) → ((n : ℕ) → last < n → repository_line_numbered all n ≡ []) → distinct_repository_lines all last ns ≡ []
  no_lines last [] out = refl
  no_lines last (n ∷ ns) out = elim (cases_Bool (nat_lt last n)) [
    | inl e ↦ let low = ltb-true last n e in rw (e, out n low) (no_lines n ns (λ m h. out m (omega (arith, low, h))))
    | inr e ↦ rw e (no_lines last ns out)
  ]

  -- a number that is not among them is passed over
  not_among : (last : ℕ) (ns : List ℕ) → (IsIn (suc last) ns → ⊥) → distinct_repository_lines all last ns ≡ distinct_repository_lines all (suc last) ns
  not_among last [] out = refl
  not_among last (n ∷ ns) out = elim (cases_Bool (nat_lt last n)) [
    | inl e ↦ elim (cases_Bool (nat_lt (suc last) n)) [
      | inl f ↦ rw (e, f) refl
      | inr f ↦
          let low = ltb-true last n e in
          let high = ltb-false (suc last) n f in
          absurd (out (inl (omega (arith, low, high))))
    ]
    | inr e ↦ rw (e, le-ltb (suc last) n (let low = ltb-false last n e in omega (arith, low))) (not_among last ns (λ h. out (inr h)))
  ]

  -- the next number has its line first
  among : (last : ℕ) (ns : List ℕ) → AreNonDecreasing ns → IsIn (suc last) ns → distinct_repository_lines all last ns ≡ repository_line_numbered all (suc last) ++ distinct_repository_lines all (suc last) ns
  among last [] up h = absurd h
  among last (n ∷ ns) up h = elim (cases_Bool (nat_lt last n)) [
    | inl e ↦
        let low = ltb-true last n e in
        let is : n ≡ suc last = first low h in
        rw (e, le-ltb (suc last) n (omega (arith, is))) (ap (λ (m : ℕ). repository_line_numbered all m ++ distinct_repository_lines all m ns) is)
    | inr e ↦
        let high = ltb-false last n e in
        rw (e, le-ltb (suc last) n (omega (arith, high))) (among last ns up.1 (later high h))
  ]
    where
      first : last < n → IsIn (suc last) (n ∷ ns) → n ≡ suc last
      first low (inl is) = sym is
      first low (inr more) = let most = up.0 (suc last) more in omega (arith, low, most)

      later : n ≤ last → IsIn (suc last) (n ∷ ns) → IsIn (suc last) ns
      later high (inl is) = absurd (omega (arith, high, is))
      later high (inr more) = more

module _ (all : List Repository) (those : List Candidate) (ns : List ℕ) (up : AreNonDecreasing ns) (each : (n : ℕ) → IsIn n ns → list_any (is_of_repository n) those ≡ true) (every : (n : ℕ) → list_any (is_of_repository n) those ≡ true → IsIn n ns) where
  lines_from : (last : ℕ) (rs : List Repository) → ((j : ℕ) → slice_get all (last + j) ≡ slice_get rs j) → distinct_repository_lines all last ns ≡ lines_of_repositories_of_candidates those (last + 1) rs
  lines_from last [] there = no_lines all last ns (λ n low.
      let e : n - 1 ≡ last + (n - 1 - last) = omega (arith, low) in
      ap (λ (o : Option Repository). option_map_or (λ (r : Repository). policy_repository_line r.tag r.path) o []) (ap (slice_get all) e ∙ there (n - 1 - last)))
  lines_from last (r ∷ rs) there =
      let k : last + 1 ≡ suc last = omega arith in
      let here : slice_get all last ≡ Some r = subst (λ (m : ℕ). slice_get all m ≡ Some r) (omega arith) (there 0) in
      let rest : distinct_repository_lines all (suc last) ns ≡ lines_of_repositories_of_candidates those (suc last + 1) rs =
      lines_from (suc last) rs (λ j. let z : suc last + j ≡ last + suc j = omega arith in ap (slice_get all) z ∙ there (suc j)) in
      let less : suc last - 1 ≡ last = omega arith in
      let line : repository_line_numbered all (suc last) ≡ policy_repository_line r.tag r.path =
      ap (λ (o : Option Repository). option_map_or (λ (q : Repository). policy_repository_line q.tag q.path) o []) (ap (slice_get all) less ∙ here) in
      subst (λ (m : ℕ). distinct_repository_lines all last ns ≡ lines_of_repositories_of_candidates those m (r ∷ rs)) (sym k)
      (elim (cases_Bool (list_any (is_of_repository (suc last)) those)) [
        | inl e ↦ rw e (among all last ns up (every (suc last) e) ∙ (ap (λ (z : List ℕ). z ++ distinct_repository_lines all (suc last) ns) line ∙ ap (λ (z : List ℕ). policy_repository_line r.tag r.path ++ z) rest))
        | inr e ↦ rw e (not_among all last ns (λ h. let bad : false ≡ true = sym e ∙ each (suc last) h in absurd (cc)) ∙ rest)
      ])

  pub lines_of_numbers : distinct_repository_lines all 0 ns ≡ lines_of_repositories_of_candidates those 1 all
  lines_of_numbers = lines_from 0 all (λ j. ap (slice_get all) (omega arith))

-- ---- the numbers of repositories that have a candidate

abbrev pub numbers_of : List Candidate → List ℕ
numbers_of cs = filter_map (λ (c : Candidate). c.repository) cs

numbered_next : (n : ℕ) (c : Candidate) (cs : List Candidate) (o : Option ℕ) → c.repository ≡ o → (IsIn n (numbers_of cs) → list_any (is_of_repository n) cs ≡ true) → IsIn n (cons_option o (numbers_of cs)) → list_any (is_of_repository n) (c ∷ cs) ≡ true
numbered_next n c cs None e again m = rw (e, again m) refl
numbered_next n c cs (Some k) e again (inl is) = rw (e, (Decides-eqb k n).1 (sym is)) refl
numbered_next n c cs (Some k) e again (inr m) = elim (cases_Bool (k == n)) [
  | inl t ↦ rw (e, t) refl
  | inr t ↦ rw (e, t) (again m)
]

pub numbered : (n : ℕ) (cs : List Candidate) → IsIn n (numbers_of cs) → list_any (is_of_repository n) cs ≡ true
numbered n [] h = absurd h
numbered n (c ∷ cs) h = numbered_next n c cs c.repository refl (λ m. numbered n cs m) h

number_next : (n : ℕ) (c : Candidate) (cs : List Candidate) (o : Option ℕ) → c.repository ≡ o → (list_any (is_of_repository n) cs ≡ true → IsIn n (numbers_of cs)) → list_any (is_of_repository n) (c ∷ cs) ≡ true → IsIn n (cons_option o (numbers_of cs))
number_next n c cs None e again h = again (rw e at h)
number_next n c cs (Some k) e again h = elim (cases_Bool (k == n)) [
  | inl t ↦ inl (sym ((Decides-eqb k n).0 t))
  | inr t ↦ let rest : list_any (is_of_repository n) cs ≡ true = rw (e, t) at h in inr (again rest)
]

pub has_number : (n : ℕ) (cs : List Candidate) → list_any (is_of_repository n) cs ≡ true → IsIn n (numbers_of cs)
has_number n [] h = absurd (cc)
has_number n (c ∷ cs) h = number_next n c cs c.repository refl (λ m. has_number n cs m) h
