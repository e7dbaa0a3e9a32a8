-- The field of a name is that at the first place where the table has the name.
use Rattle.std.proofs.Common.{◌≡◌, ℕ, zero, suc, Bool, true, false, List, [], ◌∷◌, refl, inl, inr}
use Rattle.std.specs.Prelude.{if◌then◌else◌}
use Rattle.std.specs.Str.{bytes_eq}
use Rattle.std.proofs.lemmas.Bool.{cases_Bool}
use Rattle.adb_view.specs.Plain.{Plains, none, more}
use Rattle.adb_view.specs.Values.{nth}
use Rattle.adb_view.specs.declared.tables.Kind.{Kind}
use Rattle.pool_core.specs.FieldNames.{value_under_name}

-- whether the place is the first at which the table has the name
abbrev pub is_place_of : List ℕ → ℕ → List (List ℕ × Kind) → Bool
is_place_of name i [] = false
is_place_of name zero (f ∷ fields) = bytes_eq f.0 name
is_place_of name (suc i) (f ∷ fields) = if bytes_eq f.0 name then false else is_place_of name i fields

pub by_place : (name : List ℕ) (i : ℕ) (fields : List (List ℕ × Kind)) (values : Plains) → is_place_of name i fields ≡ true → value_under_name name fields values ≡ nth values i
by_place name i [] values h = absurd (cc)
by_place name zero (f ∷ fields) none h = refl
by_place name (suc i) (f ∷ fields) none h = refl
by_place name zero (f ∷ fields) (more v values) h = rw h refl
by_place name (suc i) (f ∷ fields) (more v values) h = elim (cases_Bool (bytes_eq f.0 name)) [
  | inl e ↦ let bad : false ≡ true = rw e at h in absurd (cc)
  | inr e ↦ rw e (by_place name i fields values (rw e at h))
]
