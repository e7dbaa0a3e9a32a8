-- The value of a dependency is read as that dependency.
use Rattle.std.proofs.Common.{◌≡◌, ℕ, ◌%◌, Bool, true, false, not, cond, List, [], ◌∷◌, Option, Some, None, refl, ap, sym, ◌∙◌}
use Rattle.std.specs.Prelude.{◌&&◌, is_some, nat_lt, unwrap_or}
use Rattle.std.proofs.lemmas.Bool.{and_parts, eqb-true}
use Rattle.version_core.specs.Order.{is_version}
use Rattle.dep_core.specs.Dependency.{Dependency, dependency_from_parts, is_dependency_name_by_bytes_and_length}
use Rattle.dep_core.specs.DependencyText.{IsDependency, is_constraint_or_none, is_tag_or_none, operator_text}
use Rattle.dep_core.specs.Reading.{dependency_on_any_version}
use Rattle.dep_core.specs.Value.{dep_value, is_match_number, is_version_or_empty, match_number_of}
use Rattle.dep_core.specs.ValueReading.{match_bits_of_low_bits_unless_any_version, dependency_of_value, with_constraint_if_version_and_match_bits}
use Rattle.dep_core.proofs.Operators.{each_operator}
use Rattle.dep_core.proofs.Versions.{Versions}

value-at : (name version : List ℕ) (matching : ℕ) (d : Dependency) → is_dependency_name_by_bytes_and_length name ≡ true → is_version_or_empty version ≡ true → is_match_number matching ≡ true → with_constraint_if_version_and_match_bits (dependency_on_any_version (not (nat_lt matching 16)) name) version (match_bits_of_low_bits_unless_any_version (matching % 16)) ≡ d → dependency_of_value name version matching ≡ Some d
unfolding dependency_of_value
value-at name version matching d n v m e = λ i. cond (n i && (v i && m i)) (Some (e i)) None

without-version : (name : List ℕ) (conflict : Bool) → is_dependency_name_by_bytes_and_length name ≡ true → dependency_of_value name [] (unwrap_or (match_number_of None 1 conflict) 0) ≡ Some (dependency_from_parts name None 1 conflict None)
without-version name true n = value-at name [] 23 (dependency_from_parts name None 1 true None) n refl refl refl
without-version name false n = value-at name [] 0 (dependency_from_parts name None 1 false None) n refl refl refl

-- at bits that have an operator
abbrev IsRead : List ℕ → ℕ → List ℕ → ℕ → Type 0
IsRead name b rest bits =
    (conflict : Bool) → dependency_of_value name (b ∷ rest) (unwrap_or (match_number_of (Some (b ∷ rest)) bits conflict) 0) ≡ Some (dependency_from_parts name (Some (b ∷ rest)) bits conflict None)

-- one row: the match number with a conflict, and without one
row : (name : List ℕ) (b : ℕ) (rest : List ℕ) (bits strict plain : ℕ) → is_dependency_name_by_bytes_and_length name ≡ true → is_version (b ∷ rest) ≡ true
    → unwrap_or (match_number_of (Some (b ∷ rest)) bits true) 0 ≡ strict → unwrap_or (match_number_of (Some (b ∷ rest)) bits false) 0 ≡ plain
    → is_match_number strict ≡ true → is_match_number plain ≡ true → nat_lt strict 16 ≡ false → nat_lt plain 16 ≡ true → match_bits_of_low_bits_unless_any_version (strict % 16) ≡ Some bits → match_bits_of_low_bits_unless_any_version (plain % 16) ≡ Some bits → IsRead name b rest bits
row name b rest bits strict plain n v my mn gy gn ly ln by bn = by_conflict
  where
    by_conflict : IsRead name b rest bits
    by_conflict true =
        ap (dependency_of_value name (b ∷ rest)) my
        ∙ value-at name (b ∷ rest) strict _ n v gy (λ i. with_constraint_if_version_and_match_bits (dependency_on_any_version (not (ly i)) name) (b ∷ rest) (by i))
    by_conflict false =
        ap (dependency_of_value name (b ∷ rest)) mn
        ∙ value-at name (b ∷ rest) plain _ n v gn (λ i. with_constraint_if_version_and_match_bits (dependency_on_any_version (not (ln i)) name) (b ∷ rest) (bn i))

with-version : (name : List ℕ) (b : ℕ) (rest : List ℕ) (bits : ℕ) → is_dependency_name_by_bytes_and_length name ≡ true → is_version (b ∷ rest) ≡ true → is_some (operator_text bits) ≡ true → IsRead name b rest bits
with-version name b rest bits n v o =
    each_operator (IsRead name b rest) (row name b rest 1 17 0 n v refl refl refl refl refl refl refl refl) (row name b rest 2 18 2 n v refl refl refl refl refl refl refl refl) (row name b rest 3 19 3 n v refl refl refl refl refl refl refl refl) (row name b rest 4 20 4 n v refl refl refl refl refl refl refl refl) (row name b rest 5 21 5 n v refl refl refl refl refl refl refl refl) (row name b rest 9 25 9 n v refl refl refl refl refl refl refl refl) (row name b rest 11 27 11 n v refl refl refl refl refl refl refl refl) (row name b rest 13 29 13 n v refl refl refl refl refl refl refl refl) bits o

by-version : Versions → (name : List ℕ) (version : Option (List ℕ)) (bits : ℕ) (conflict : Bool) → is_dependency_name_by_bytes_and_length name ≡ true → is_constraint_or_none version bits ≡ true → dependency_of_value name (unwrap_or version []) (unwrap_or (match_number_of version bits conflict) 0) ≡ Some (dependency_from_parts name version bits conflict None)
by-version spelled name None bits conflict n l =
    ap (λ m. dependency_of_value name [] (unwrap_or (match_number_of None m conflict) 0)) (eqb-true bits 1 l)
    ∙ (without-version name conflict n ∙ ap (λ m. Some (dependency_from_parts name None m conflict None)) (sym (eqb-true bits 1 l)))
by-version spelled name (Some []) bits conflict n l =
    absurd (no_digit (spelled.first [] (and_parts (is_version []) (is_some (operator_text bits)) l).0))
  where
    no_digit : false ≡ true → ⊥
    no_digit e = (cc)
by-version spelled name (Some (b ∷ rest)) bits conflict n l =
    let parts = and_parts (is_version (b ∷ rest)) (is_some (operator_text bits)) l in
    with-version name b rest bits n parts.0 parts.1 conflict

pub value-read_back : Versions → (d : Dependency) → IsDependency d → d.tag ≡ None → dependency_of_value (dep_value d).name (dep_value d).version (unwrap_or (dep_value d).matching 0) ≡ Some d
value-read_back spelled d g t =
    let good = and_parts (is_dependency_name_by_bytes_and_length d.name && is_constraint_or_none d.version d.bits) (is_tag_or_none d.tag) g in
    let both = and_parts (is_dependency_name_by_bytes_and_length d.name) (is_constraint_or_none d.version d.bits) good.0 in
    by-version spelled d.name d.version d.bits d.conflict both.0 both.1 ∙ ap (λ o. Some (dependency_from_parts d.name d.version d.bits d.conflict o)) (sym t)
