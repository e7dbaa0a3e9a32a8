-- Dependencies of the parts of a text, one after the other.
use Rattle.std.proofs.Common.{◌≡◌, ℕ, ◌+◌, ◌<◌, ◌≤◌, true, false, cond, List, [], ◌∷◌, ◌++◌, length, map, get_or, drop, Option, Some, None, Vec, refl, sym, ◌∙◌, ap, append-nil, append_assoc, subst}
use Rattle.std.specs.List.{filter}
use Rattle.std.specs.declared.alloc.Global.{Global}
use Rattle.std.proofs.lemmas.List.{at_drop_more, at_drop_all}
use Rattle.dep_core.specs.Dependency.{Dependency}
use Rattle.dep_core.specs.declared.dep.Dep.{Dep}
use Rattle.dep_core.specs.Meets.{dependency}
use Rattle.make_info.specs.Fields.{TextNumberOrDependency, need, is_nonempty, untagged_dependency_in, dependency_values_of_parts, dependency_value_and_others}
use Rattle.make_info.specs.Reading.{nonempty_part}
use Rattle.v2_core.specs.InfoValues.{with_needs}
use Rattle.v2_core.specs.Views.{needs_view}

with_none : (xs : Option (List TextNumberOrDependency)) → with_needs [] xs ≡ xs
with_none None = refl
with_none (Some xs) = refl

pub no_needs_before : (needs : Vec Dep Global) (xs : Option (List TextNumberOrDependency)) → needs.items ≡ [] → with_needs (needs_view needs) xs ≡ xs
no_needs_before needs xs h =
    ap (λ ds. with_needs (map (λ d. need (dependency d)) ds) xs) h ∙ with_none xs

by_need : (old new : List TextNumberOrDependency) (d : Option Dependency) (xs : Option (List TextNumberOrDependency)) → Some new ≡ with_needs old (dependency_value_and_others d (Some [])) → with_needs new xs ≡ with_needs old (dependency_value_and_others d xs)
by_need old new None xs h = cc
by_need old new (Some d) None h = refl
by_need old new (Some d) (Some xs) h =
    let P : Option (List TextNumberOrDependency) → Type 0 = λ o. elim o as (λ _. Type 0) [ Some n ↦ Some (n ++ xs) ≡ Some (old ++ (need d ∷ xs)) | None ↦ Unit {0} ] in
    let start : P (Some (old ++ need d ∷ [])) = ap Some (append_assoc old (need d ∷ []) xs) in
    subst P (sym h) start

same_by_nil : (old new : List TextNumberOrDependency) (xs : Option (List TextNumberOrDependency)) → Some new ≡ with_needs old (Some []) → with_needs new xs ≡ with_needs old xs
same_by_nil old new xs h =
    let P : Option (List TextNumberOrDependency) → Type 0 = λ o. elim o as (λ _. Type 0) [ Some n ↦ with_needs n xs ≡ with_needs old xs | None ↦ Unit {0} ] in
    let start : P (Some (old ++ [])) = ap (λ n. with_needs n xs) (append-nil old) in
    subst P (sym h) start

-- the needs of a part and of the rest
abbrev needs_left : List (List ℕ) → Option (List TextNumberOrDependency)
needs_left parts = dependency_values_of_parts (filter is_nonempty parts)

good_need : (old new : List TextNumberOrDependency) (p : List ℕ) (rest : List (List ℕ)) → Some new ≡ with_needs old (dependency_values_of_parts (nonempty_part p)) → with_needs new (needs_left rest) ≡ with_needs old (needs_left (p ∷ rest))
good_need old new p rest =
    elim (is_nonempty p) as (λ b. Some new ≡ with_needs old (dependency_values_of_parts (cond b (p ∷ []) [])) → with_needs new (needs_left rest) ≡ with_needs old (dependency_values_of_parts (cond b (p ∷ filter is_nonempty rest) (filter is_nonempty rest)))) [
      | true ↦ by_need old new (untagged_dependency_in p) (needs_left rest)
      | false ↦ same_by_nil old new (needs_left rest)
    ]

no_need : (old : List TextNumberOrDependency) (d : Option Dependency) (xs : Option (List TextNumberOrDependency)) → None ≡ with_needs old (dependency_value_and_others d (Some [])) → None ≡ with_needs old (dependency_value_and_others d xs)
no_need old None xs h = refl
no_need old (Some d) xs h = cc

bad_need : (old : List TextNumberOrDependency) (p : List ℕ) (rest : List (List ℕ)) → None ≡ with_needs old (dependency_values_of_parts (nonempty_part p)) → None ≡ with_needs old (needs_left (p ∷ rest))
bad_need old p rest =
    elim (is_nonempty p) as (λ b. None ≡ with_needs old (dependency_values_of_parts (cond b (p ∷ []) [])) → None ≡ with_needs old (dependency_values_of_parts (cond b (p ∷ filter is_nonempty rest) (filter is_nonempty rest)))) [
      | true ↦ no_need old (untagged_dependency_in p) (needs_left rest)
      | false ↦ λ h. cc
    ]

pub more_needs : (old new : List TextNumberOrDependency) (parts : List (List ℕ)) (n m : ℕ) (x : List ℕ) (r : Option (List TextNumberOrDependency)) → (n < length parts) × (x ≡ get_or parts n x) → m ≡ n + 1 → Some new ≡ with_needs old (dependency_values_of_parts (nonempty_part x)) → with_needs old (needs_left (drop n parts)) ≡ r → with_needs new (needs_left (drop m parts)) ≡ r
more_needs old new parts n m x r h p g q =
    ap (λ k. with_needs new (needs_left (drop k parts))) p
    ∙ (good_need old new x (drop (n + 1) parts) g
    ∙ (ap (λ y. with_needs old (needs_left (y ∷ drop (n + 1) parts))) h.1
    ∙ (sym (at_drop_more (λ ps. with_needs old (needs_left ps)) parts n x h.0) ∙ q)))

pub stopped_needs : (old : List TextNumberOrDependency) (parts : List (List ℕ)) (n : ℕ) (x : List ℕ) (r : Option (List TextNumberOrDependency)) → (n < length parts) × (x ≡ get_or parts n x) → None ≡ with_needs old (dependency_values_of_parts (nonempty_part x)) → with_needs old (needs_left (drop n parts)) ≡ r → None ≡ r
stopped_needs old parts n x r h g q =
    bad_need old x (drop (n + 1) parts) g
    ∙ (ap (λ y. with_needs old (needs_left (y ∷ drop (n + 1) parts))) h.1
    ∙ (sym (at_drop_more (λ ps. with_needs old (needs_left ps)) parts n x h.0) ∙ q))

pub no_needs_left : (old : List TextNumberOrDependency) (parts : List (List ℕ)) (n : ℕ) (r : Option (List TextNumberOrDependency)) → length parts ≤ n → with_needs old (needs_left (drop n parts)) ≡ r → Some old ≡ r
no_needs_left old parts n r h q =
    ap Some (sym (append-nil old)) ∙ (sym (at_drop_all (λ ps. with_needs old (needs_left ps)) parts n h) ∙ q)
