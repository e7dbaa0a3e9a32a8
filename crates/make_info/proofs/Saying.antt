-- What the parts of a value of a list field say, one after the other.
use Rattle.std.proofs.Common.{◌≡◌, ℕ, ◌+◌, ◌<◌, ◌≤◌, true, false, cond, eqb, List, [], ◌∷◌, ◌++◌, length, map, get_or, drop, Option, Some, None, refl, sym, ◌∙◌, ap, append-nil, append_assoc, subst, arith}
use Rattle.std.specs.List.{filter}
use Rattle.std.proofs.lemmas.List.{at_drop_more, at_drop_all}
use Rattle.std.proofs.lemmas.Bool.Decides.{nat_tests}
use Rattle.dep_core.specs.Dependency.{Dependency}
use Rattle.make_info.specs.declared.field.Field.{Field}
use Rattle.make_info.specs.Fields.{TextNumberOrDependency, text, need, is_nonempty, untagged_dependency_in, dependency_values_of_parts, text_values, dependency_value_and_others}
use Rattle.make_info.specs.Reading.{nonempty_part}
use Rattle.make_info.specs.Information.{FieldWithValue, field_with_value, items_followed_by_values_of_field}

-- ---- dependencies

by_need : (old new : List FieldWithValue) (f : Field) (d : Option Dependency) (xs : Option (List TextNumberOrDependency)) → Some new ≡ items_followed_by_values_of_field old f (dependency_value_and_others d (Some [])) → items_followed_by_values_of_field new f xs ≡ items_followed_by_values_of_field old f (dependency_value_and_others d xs)
by_need old new f None xs h = cc
by_need old new f (Some d) None h = refl
by_need old new f (Some d) (Some xs) h =
    let P : Option (List FieldWithValue) → Type 0 = λ o. elim o as (λ _. Type 0) [ Some n ↦ Some (n ++ map (field_with_value f) xs) ≡ Some (old ++ (field_with_value f (need d) ∷ map (field_with_value f) xs)) | None ↦ Unit {0} ] in
    let start : P (Some (old ++ field_with_value f (need d) ∷ [])) = ap Some (append_assoc old (field_with_value f (need d) ∷ []) (map (field_with_value f) xs)) in
    subst P (sym h) start

same_by_nil : (old new : List FieldWithValue) (f : Field) (xs : Option (List TextNumberOrDependency)) → Some new ≡ items_followed_by_values_of_field old f (Some []) → items_followed_by_values_of_field new f xs ≡ items_followed_by_values_of_field old f xs
same_by_nil old new f xs h =
    let P : Option (List FieldWithValue) → Type 0 = λ o. elim o as (λ _. Type 0) [ Some n ↦ items_followed_by_values_of_field n f xs ≡ items_followed_by_values_of_field old f xs | None ↦ Unit {0} ] in
    let start : P (Some (old ++ [])) = ap (λ n. items_followed_by_values_of_field n f xs) (append-nil old) in
    subst P (sym h) start

-- the needs of a part and of the rest
abbrev pub needs_left : List (List ℕ) → Option (List TextNumberOrDependency)
needs_left parts = dependency_values_of_parts (filter is_nonempty parts)

pub good_need : (old new : List FieldWithValue) (f : Field) (p : List ℕ) (rest : List (List ℕ)) → Some new ≡ items_followed_by_values_of_field old f (dependency_values_of_parts (nonempty_part p)) → items_followed_by_values_of_field new f (needs_left rest) ≡ items_followed_by_values_of_field old f (needs_left (p ∷ rest))
good_need old new f p rest =
    elim (is_nonempty p) as (λ b. Some new ≡ items_followed_by_values_of_field old f (dependency_values_of_parts (cond b (p ∷ []) [])) → items_followed_by_values_of_field new f (needs_left rest) ≡ items_followed_by_values_of_field old f (dependency_values_of_parts (cond b (p ∷ filter is_nonempty rest) (filter is_nonempty rest)))) [
      | true ↦ by_need old new f (untagged_dependency_in p) (needs_left rest)
      | false ↦ same_by_nil old new f (needs_left rest)
    ]

no_need : (old : List FieldWithValue) (f : Field) (d : Option Dependency) (xs : Option (List TextNumberOrDependency)) → None ≡ items_followed_by_values_of_field old f (dependency_value_and_others d (Some [])) → None ≡ items_followed_by_values_of_field old f (dependency_value_and_others d xs)
no_need old f None xs h = refl
no_need old f (Some d) xs h = cc

pub bad_need : (old : List FieldWithValue) (f : Field) (p : List ℕ) (rest : List (List ℕ)) → None ≡ items_followed_by_values_of_field old f (dependency_values_of_parts (nonempty_part p)) → None ≡ items_followed_by_values_of_field old f (needs_left (p ∷ rest))
bad_need old f p rest =
    elim (is_nonempty p) as (λ b. None ≡ items_followed_by_values_of_field old f (dependency_values_of_parts (cond b (p ∷ []) [])) → None ≡ items_followed_by_values_of_field old f (dependency_values_of_parts (cond b (p ∷ filter is_nonempty rest) (filter is_nonempty rest)))) [
      | true ↦ no_need old f (untagged_dependency_in p) (needs_left rest)
      | false ↦ λ h. cc
    ]

pub more_needs : (old new : List FieldWithValue) (f : Field) (parts : List (List ℕ)) (n m : ℕ) (x : List ℕ) (r : Option (List FieldWithValue)) → (n < length parts) × (x ≡ get_or parts n x) → m ≡ n + 1 → Some new ≡ items_followed_by_values_of_field old f (dependency_values_of_parts (nonempty_part x)) → items_followed_by_values_of_field old f (needs_left (drop n parts)) ≡ r → items_followed_by_values_of_field new f (needs_left (drop m parts)) ≡ r
more_needs old new f parts n m x r h p g q =
    ap (λ k. items_followed_by_values_of_field new f (needs_left (drop k parts))) p
    ∙ (good_need old new f x (drop (n + 1) parts) g
    ∙ (ap (λ y. items_followed_by_values_of_field old f (needs_left (y ∷ drop (n + 1) parts))) h.1
    ∙ (sym (at_drop_more (λ ps. items_followed_by_values_of_field old f (needs_left ps)) parts n x h.0) ∙ q)))

pub stopped_needs : (old : List FieldWithValue) (f : Field) (parts : List (List ℕ)) (n : ℕ) (x : List ℕ) (r : Option (List FieldWithValue)) → (n < length parts) × (x ≡ get_or parts n x) → None ≡ items_followed_by_values_of_field old f (dependency_values_of_parts (nonempty_part x)) → items_followed_by_values_of_field old f (needs_left (drop n parts)) ≡ r → None ≡ r
stopped_needs old f parts n x r h g q =
    bad_need old f x (drop (n + 1) parts) g
    ∙ (ap (λ y. items_followed_by_values_of_field old f (needs_left (y ∷ drop (n + 1) parts))) h.1
    ∙ (sym (at_drop_more (λ ps. items_followed_by_values_of_field old f (needs_left ps)) parts n x h.0) ∙ q))

pub no_needs_left : (old : List FieldWithValue) (f : Field) (parts : List (List ℕ)) (n : ℕ) (r : Option (List FieldWithValue)) → length parts ≤ n → items_followed_by_values_of_field old f (needs_left (drop n parts)) ≡ r → Some old ≡ r
no_needs_left old f parts n r h q =
    ap Some (sym (append-nil old)) ∙ (sym (at_drop_all (λ ps. items_followed_by_values_of_field old f (needs_left ps)) parts n h) ∙ q)

-- ---- texts

abbrev pub texts_left : List (List ℕ) → Option (List TextNumberOrDependency)
texts_left parts = Some (text_values (filter is_nonempty parts))

pub one_text : (old new : List FieldWithValue) (f : Field) (parts : List (List ℕ)) (n m : ℕ) (x : List ℕ) (r : Option (List FieldWithValue)) → (n < length parts) × (x ≡ get_or parts n x) → m ≡ n + 1 → is_nonempty x ≡ true → new ≡ old ++ field_with_value f (text x) ∷ [] → items_followed_by_values_of_field old f (texts_left (drop n parts)) ≡ r → items_followed_by_values_of_field new f (texts_left (drop m parts)) ≡ r
one_text old new f parts n m x r h p b e q =
    ap (λ k. items_followed_by_values_of_field new f (texts_left (drop k parts))) p
    ∙ (ap (λ s. items_followed_by_values_of_field s f (texts_left (drop (n + 1) parts))) e
    ∙ (ap Some (append_assoc old (field_with_value f (text x) ∷ []) (map (field_with_value f) (text_values (filter is_nonempty (drop (n + 1) parts)))))
    ∙ (sym (ap (λ b. items_followed_by_values_of_field old f (Some (text_values (cond b (x ∷ filter is_nonempty (drop (n + 1) parts)) (filter is_nonempty (drop (n + 1) parts)))))) b)
    ∙ (ap (λ y. items_followed_by_values_of_field old f (texts_left (y ∷ drop (n + 1) parts))) h.1
    ∙ (sym (at_drop_more (λ ps. items_followed_by_values_of_field old f (texts_left ps)) parts n x h.0) ∙ q)))))

pub no_text : (old : List FieldWithValue) (f : Field) (parts : List (List ℕ)) (n m : ℕ) (x : List ℕ) (r : Option (List FieldWithValue)) → (n < length parts) × (x ≡ get_or parts n x) → m ≡ n + 1 → is_nonempty x ≡ false → items_followed_by_values_of_field old f (texts_left (drop n parts)) ≡ r → items_followed_by_values_of_field old f (texts_left (drop m parts)) ≡ r
no_text old f parts n m x r h p b q =
    ap (λ k. items_followed_by_values_of_field old f (texts_left (drop k parts))) p
    ∙ (sym (ap (λ b. items_followed_by_values_of_field old f (Some (text_values (cond b (x ∷ filter is_nonempty (drop (n + 1) parts)) (filter is_nonempty (drop (n + 1) parts)))))) b)
    ∙ (ap (λ y. items_followed_by_values_of_field old f (texts_left (y ∷ drop (n + 1) parts))) h.1
    ∙ (sym (at_drop_more (λ ps. items_followed_by_values_of_field old f (texts_left ps)) parts n x h.0) ∙ q)))

pub no_texts_left : (old : List FieldWithValue) (f : Field) (parts : List (List ℕ)) (n : ℕ) (r : Option (List FieldWithValue)) → length parts ≤ n → items_followed_by_values_of_field old f (texts_left (drop n parts)) ≡ r → Some old ≡ r
no_texts_left old f parts n r h q =
    ap Some (sym (append-nil old)) ∙ (sym (at_drop_all (λ ps. items_followed_by_values_of_field old f (texts_left ps)) parts n h) ∙ q)

pub part_some : (x : List ℕ) → eqb (length x) 0 ≡ false → is_nonempty x ≡ true
part_some x h = grind (arith, nat_tests)

pub part_none : (x : List ℕ) → eqb (length x) 0 ≡ true → is_nonempty x ≡ false
part_none x h = grind (arith, nat_tests)
