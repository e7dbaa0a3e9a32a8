-- An encoding of plain values: each value has a list of steps that builds it again from nothing. The steps have no
-- meaning in the format. No rule of a document: serves the views of `Candidate` and of a pool, whose proofs need that
-- different values have different codes (`coded`).
use Rattle.std.specs.Prelude.{◌≡◌, ℕ, zero, suc, List, [], ◌∷◌}
use mathlib.Core.Path.{refl, ap, ◌∙◌}
use Rattle.std.specs.Coded.{Coded, code_by, coded×, coded_list, coded_ℕ}
use Rattle.adb_view.specs.Plain.{Plain, Plains, null, int, blob, arr, obj, none, more}

-- built values, with the value `v` put before the entries of an array; any other value in the array's
-- place is dropped, which never happens for the steps of a value
abbrev pub with_element_before_entries : Plain → Plain → List Plain → List Plain
with_element_before_entries v null rest = rest
with_element_before_entries v (int n) rest = rest
with_element_before_entries v (blob b) rest = rest
with_element_before_entries v (arr vs) rest = arr (more v vs) ∷ rest
with_element_before_entries v (obj vs) rest = rest

-- built values, with the first put before the entries of the second, which is an array; none if there are fewer than
-- two
abbrev pub first_put_into_second : List Plain → List Plain
first_put_into_second [] = []
first_put_into_second (v ∷ []) = []
first_put_into_second (v ∷ (w ∷ rest)) = with_element_before_entries v w rest

-- an array as an object with its entries; Null for any other value
abbrev pub array_as_object : Plain → Plain
array_as_object null = null
array_as_object (int n) = null
array_as_object (blob b) = null
array_as_object (arr vs) = obj vs
array_as_object (obj vs) = null

-- built values, in which the first, an array, has become an object with the same entries
abbrev pub first_as_object : List Plain → List Plain
first_as_object [] = []
first_as_object (v ∷ rest) = array_as_object v ∷ rest

-- a step: its kind, and the number and the bytes that it adds. A step operates on the values that the steps after it
-- in the list built
abbrev pub BuildStep : Type 0
BuildStep = ℕ × (ℕ × List ℕ)

-- the values after a step of a kind: 0 adds Null, 1 an integer, 2 bytes, 3 an array without entries; 4
-- puts the first value before the entries of the second, and 5 makes the first an object
abbrev pub values_after_step : ℕ → ℕ → List ℕ → List Plain → List Plain
values_after_step zero n b vs = null ∷ vs
values_after_step (suc zero) n b vs = int n ∷ vs
values_after_step (suc (suc zero)) n b vs = blob b ∷ vs
values_after_step (suc (suc (suc zero))) n b vs = arr none ∷ vs
values_after_step (suc (suc (suc (suc zero)))) n b vs = first_put_into_second vs
values_after_step (suc (suc (suc (suc (suc k))))) n b vs = first_as_object vs

-- the values after these steps, of which the last is done first
abbrev pub built : List BuildStep → List Plain
built [] = []
built (i ∷ steps) = values_after_step i.0 i.1.0 i.1.1 (built steps)

abbrev mutual
  -- the steps that build a value, placed before other steps
  pub steps_of : Plain → List BuildStep → List BuildStep
  steps_of null steps = (0, (0, [])) ∷ steps
  steps_of (int n) steps = (1, (n, [])) ∷ steps
  steps_of (blob b) steps = (2, (0, b)) ∷ steps
  steps_of (arr vs) steps = steps_of_all vs steps
  steps_of (obj vs) steps = (5, (0, [])) ∷ steps_of_all vs steps

  -- the steps that build an array of some values, placed before other steps
  pub steps_of_all : Plains → List BuildStep → List BuildStep
  steps_of_all none steps = (3, (0, [])) ∷ steps
  steps_of_all (more v vs) steps = (4, (0, [])) ∷ steps_of v (steps_of_all vs steps)

mutual
  -- a lemma: the steps of a value, placed before other steps, build this value in front of what the other steps build
  pub steps_build_value :
      (v : Plain) (steps : List BuildStep) → built (steps_of v steps) ≡ v ∷ built steps
  steps_build_value null steps = refl
  steps_build_value (int n) steps = refl
  steps_build_value (blob b) steps = refl
  steps_build_value (arr vs) steps = steps_build_array vs steps
  steps_build_value (obj vs) steps = ap first_as_object (steps_build_array vs steps)

  -- a lemma: the steps of an array, placed before other steps, build this array in front of what the other steps
  -- build
  pub steps_build_array :
      (vs : Plains) (steps : List BuildStep) →
      built (steps_of_all vs steps) ≡ arr vs ∷ built steps
  steps_build_array none steps = refl
  steps_build_array (more v vs) steps =
      ap first_put_into_second
      (steps_build_value v (steps_of_all vs steps)
      ∙ ap (λ (z : List Plain). v ∷ z) (steps_build_array vs steps))

-- the first value of a list; null if the list is empty
abbrev pub first_or_null : List Plain → Plain
first_or_null [] = null
first_or_null (v ∷ vs) = v

-- the encoding of plain values: a value is encoded as the steps that build it, and decoded as the first value that
-- the steps build
abbrev pub plain_code : Coded Plain
plain_code =
    code_by (List BuildStep) (coded_list (coded× coded_ℕ (coded× coded_ℕ (coded_list coded_ℕ))))
    (λ v. steps_of v []) (λ steps. first_or_null (built steps))
    (λ v. ap first_or_null (steps_build_value v []))
