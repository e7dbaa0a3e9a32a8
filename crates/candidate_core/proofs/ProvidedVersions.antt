-- The version of an entry is the text at its place, and the first entry that meets a dependency is
-- found in order.
use Rattle.std.proofs.Common.{◌≡◌, inl, inr, ℕ, zero, suc, ◌+◌, ◌-◌, ◌<◌, Bool, true, false, List, [], ◌∷◌, ◌++◌, append-nil, refl, sym, subst, ap, ◌∙◌, arith}
use Rattle.std.specs.Prelude.{IfSome, Option, Some, None, is_some, option_to_list, if◌then◌else◌, ◌&&◌}
use Rattle.std.specs.List.{cons_option, find}
use Rattle.std.proofs.lemmas.Bool.{cases_Bool}
use Rattle.adb_view.specs.Plain.{Plain, Plains, none, more}
use Rattle.adb_view.specs.Values.{count_of, entry_at_index, int_in, nth, text_in}
use Rattle.dep_core.specs.Dependency.{Dependency, is_dependency_name_by_bytes_and_length}
use Rattle.dep_core.specs.Reading.{dependency_on_any_version}
use Rattle.dep_core.specs.Value.{is_match_number, is_version_or_empty}
use Rattle.dep_core.specs.ValueReading.{dependency_of_value, with_constraint_if_version_and_match_bits}
use Rattle.candidate_core.specs.Candidates.{dependencies_among_values, dependency_in}
use Rattle.candidate_core.proofs.DependencyLists.{dependencies_step, dependencies_to}
use Rattle.candidate_core.proofs.LoopTests.{found_snoc}

-- ---- texts

constraint_text : (conflict : Bool) (name text : List ℕ) (bits : Option ℕ) → IfSome (with_constraint_if_version_and_match_bits (dependency_on_any_version conflict name) text bits).version (λ v. v ≡ text)
constraint_text conflict name [] bits = tt
constraint_text conflict name (b ∷ rest) None = tt
constraint_text conflict name (b ∷ rest) (Some bits) = refl

chosen_version : (b : Bool) (d e : Dependency) (text : List ℕ) → Some d ≡ (if b then Some e else None) → IfSome e.version (λ v. v ≡ text) → IfSome d.version (λ v. v ≡ text)
chosen_version true d e text h known = let s : e ≡ d = cc in subst (λ (z : Dependency). IfSome z.version (λ v. v ≡ text)) s known
chosen_version false d e text h known = absurd (cc)

entry_text : (value : Plain) (d : Dependency) → Some d ≡ dependency_in value → IfSome d.version (λ v. v ≡ text_in (entry_at_index value 1))
unfolding dependency_of_value
entry_text value d h =
    chosen_version (is_dependency_name_by_bytes_and_length (text_in (entry_at_index value 0)) && (is_version_or_empty (text_in (entry_at_index value 1)) && is_match_number (int_in (entry_at_index value 2)))) d _ (text_in (entry_at_index value 1)) h
    (constraint_text _ (text_in (entry_at_index value 0)) (text_in (entry_at_index value 1)) _)

pub provided_text : (value : Plain) (d : Dependency) (text : List ℕ) → Some d ≡ dependency_in value → text ≡ text_in (entry_at_index value 1) → IfSome d.version (λ v. v ≡ text)
provided_text value d text h e = subst (λ (z : List ℕ). IfSome d.version (λ v. v ≡ z)) (sym e) (entry_text value d h)

pub none_read : (o : Option (List ℕ)) (text : List ℕ) → is_some o ≡ false → IfSome o (λ v. v ≡ text)
none_read None text h = tt
none_read (Some t) text h = absurd (cc)

-- ---- the first that passes

module _ (p : Dependency → Bool) where
  in_front : (o : Option Dependency) (xs ys : List Dependency) (d : Dependency) → (find p xs ≡ Some d → find p ys ≡ Some d) → find p (cons_option o xs) ≡ Some d → find p (cons_option o ys) ≡ Some d
  in_front None xs ys d to h = to h
  in_front (Some x) xs ys d to h = elim (cases_Bool (p x)) [
    | inl e ↦ rw e (rw e at h)
    | inr e ↦ rw e (to (rw e at h))
  ]

  found_in_front : (n : ℕ) (values : Plains) (d : Dependency) → find p (dependencies_to n values) ≡ Some d → find p (dependencies_among_values values) ≡ Some d
  found_in_front zero values d h = let bad : None ≡ Some d = h in absurd (cc)
  found_in_front (suc n) none d h = let bad : None ≡ Some d = h in absurd (cc)
  found_in_front (suc n) (more v vs) d h = in_front (dependency_in v) (dependencies_to n vs) (dependencies_among_values vs) d (found_in_front n vs d) h

  found_last : (xs : List Dependency) (d : Dependency) → find p xs ≡ None → p d ≡ true → find p (xs ++ d ∷ []) ≡ Some d
  found_last [] d n e = rw e refl
  found_last (x ∷ xs) d n e = elim (cases_Bool (p x)) [
    | inl t ↦ let bad : Some x ≡ None = rw t at n in absurd (cc)
    | inr t ↦ rw t (found_last xs d (rw t at n) e)
  ]

  pub next_of : (n : ℕ) (values : Plains) (value : Plain) (o : Option Dependency) → n < count_of values → value ≡ nth values ((n + 1) - 1) → o ≡ dependency_in value → dependencies_to (n + 1) values ≡ dependencies_to n values ++ option_to_list o
  next_of n values value o h at is =
      let e : (n + 1) - 1 ≡ n = omega arith in
      let found : dependency_in (nth values n) ≡ o = sym (is ∙ ap dependency_in (at ∙ ap (nth values) e)) in
      dependencies_step n values h ∙ ap (λ (z : Option Dependency). dependencies_to n values ++ option_to_list z) found

  pub first_found : (n : ℕ) (values : Plains) (value : Plain) (d : Dependency) → n < count_of values → value ≡ nth values ((n + 1) - 1) → Some d ≡ dependency_in value → find p (dependencies_to n values) ≡ None → p d ≡ true → find p (dependencies_among_values values) ≡ Some d
  first_found n values value d h at is before passes =
      found_in_front (n + 1) values d (ap (find p) (next_of n values value (Some d) h at is) ∙ found_last (dependencies_to n values) d before passes)

  pub passed_over : (n : ℕ) (values : Plains) (value : Plain) (d : Dependency) → n < count_of values → value ≡ nth values ((n + 1) - 1) → Some d ≡ dependency_in value → find p (dependencies_to n values) ≡ None → p d ≡ false → find p (dependencies_to (n + 1) values) ≡ None
  passed_over n values value d h at is before fails = ap (find p) (next_of n values value (Some d) h at is) ∙ found_snoc p (dependencies_to n values) d before fails

  pub no_dependency : (n : ℕ) (values : Plains) (value : Plain) → n < count_of values → value ≡ nth values ((n + 1) - 1) → None ≡ dependency_in value → find p (dependencies_to n values) ≡ None → find p (dependencies_to (n + 1) values) ≡ None
  no_dependency n values value h at is before = ap (find p) (next_of n values value None h at is ∙ append-nil (dependencies_to n values)) ∙ before
