-- Values without zeros, field by field.
use Rattle.std.proofs.Common.{◌≡◌, ℕ, suc, zero, List, [], ◌∷◌, refl, ap, sym, ◌∙◌}
use Rattle.adb_view.specs.Plain.{Plain, null, int, blob, arr, obj, Plains, none, more, blob_or_null, array_or_null, object_or_null, trimmed_object_or_null, prepend_plain_unless_last_null, without_last_nulls}
use Rattle.adb_view.specs.Shaped.{IsNumberOrNull, IsBlobOrNull, IsArrayOrNullOf, IsObjectOrNullOf}
use Rattle.adb_view.specs.Values.{nth, entries_in, int_in, text_in}
use Rattle.adb_view.proofs.ValueEntries.{nth_trimmed}
use Rattle.adb_copy.specs.Zeros.{int_or_null, without_zeros, all_without_zeros, with_value_set_at_index}

-- ---- by shape

pub zeros_text : (v : Plain) → IsBlobOrNull v → without_zeros v ≡ blob_or_null (text_in v)
unfolding without_zeros
zeros_text null h = refl
zeros_text (int n) h = absurd h
zeros_text (blob b) h = refl
zeros_text (arr vs) h = absurd h
zeros_text (obj vs) h = absurd h

pub zeros_number : (v : Plain) → IsNumberOrNull v → without_zeros v ≡ int_or_null (int_in v)
unfolding without_zeros
zeros_number null h = refl
zeros_number (int n) h = refl
zeros_number (blob b) h = absurd h
zeros_number (arr vs) h = absurd h
zeros_number (obj vs) h = absurd h

pub zeros_array : (P : Plain → Type 0) (v : Plain) → IsArrayOrNullOf P v → without_zeros v ≡ array_or_null (all_without_zeros (entries_in v))
unfolding without_zeros
zeros_array P null h = refl
zeros_array P (int n) h = absurd h
zeros_array P (blob b) h = absurd h
zeros_array P (arr vs) h = refl
zeros_array P (obj vs) h = absurd h

pub zeros_object : (P : Plains → Type 0) (v : Plain) → IsObjectOrNullOf P v → without_zeros v ≡ trimmed_object_or_null (all_without_zeros (entries_in v))
unfolding without_zeros
zeros_object P null h = refl
zeros_object P (int n) h = absurd h
zeros_object P (blob b) h = absurd h
zeros_object P (arr vs) h = absurd h
zeros_object P (obj vs) h = refl

-- ---- lists by their entries

pub nth_zeros : (vs : Plains) (i : ℕ) → nth (all_without_zeros vs) i ≡ without_zeros (nth vs i)
unfolding without_zeros
nth_zeros none i = refl
nth_zeros (more v vs) zero = refl
nth_zeros (more v vs) (suc i) = nth_zeros vs i

null_trimmed : (vs : Plains) → ((i : ℕ) → nth vs i ≡ null) → without_last_nulls vs ≡ none
null_trimmed none h = refl
null_trimmed (more v vs) h = (λ j. prepend_plain_unless_last_null (h zero j) (null_trimmed vs (λ i. h (suc i)) j))

-- two lists with the same entries, Nulls after them, are one without the Nulls that are last
pub trimmed_same : (us vs : Plains) → ((i : ℕ) → nth us i ≡ nth vs i) → without_last_nulls us ≡ without_last_nulls vs
trimmed_same none vs h = sym (null_trimmed vs (λ i. sym (h i)))
trimmed_same (more u us) none h = null_trimmed (more u us) h
trimmed_same (more u us) (more v vs) h = (λ j. prepend_plain_unless_last_null (h zero j) (trimmed_same us vs (λ i. h (suc i)) j))

-- ---- an entry in the place of another

pub at_same : (k : ℕ) (v : Plain) (vs : Plains) → nth (with_value_set_at_index k v vs) k ≡ v
at_same zero v none = refl
at_same zero v (more u us) = refl
at_same (suc k) v none = at_same k v none
at_same (suc k) v (more u us) = at_same k v us

pub at_other : (k i : ℕ) (v : Plain) (vs : Plains) → (k ≡ i → ⊥) → nth (with_value_set_at_index k v vs) i ≡ nth vs i
at_other zero zero v vs h = absurd (h refl)
at_other zero (suc i) v none h = refl
at_other zero (suc i) v (more u us) h = refl
at_other (suc k) zero v none h = refl
at_other (suc k) zero v (more u us) h = refl
at_other (suc k) (suc i) v none h = at_other k i v none (λ e. h (ap suc e))
at_other (suc k) (suc i) v (more u us) h = at_other k i v us (λ e. h (ap suc e))

-- ---- twice is once

zeros_int : (n : ℕ) → without_zeros (int_or_null n) ≡ int_or_null n
unfolding without_zeros
zeros_int zero = refl
zeros_int (suc n) = refl

zeros_blob : (b : List ℕ) → without_zeros (blob_or_null b) ≡ blob_or_null b
unfolding without_zeros
zeros_blob [] = refl
zeros_blob (x ∷ xs) = refl

pub zeros_arr : (vs : Plains) → without_zeros (array_or_null vs) ≡ array_or_null (all_without_zeros vs)
unfolding without_zeros
zeros_arr none = refl
zeros_arr (more v vs) = refl

pub zeros_obj : (vs : Plains) → without_zeros (trimmed_object_or_null vs) ≡ trimmed_object_or_null (all_without_zeros vs)
unfolding without_zeros
zeros_obj vs = go (without_last_nulls vs) ∙ ap object_or_null (trimmed_same (all_without_zeros (without_last_nulls vs)) (all_without_zeros vs) (λ i. nth_zeros (without_last_nulls vs) i ∙ (ap without_zeros (nth_trimmed vs i) ∙ sym (nth_zeros vs i))))
  where
    go : (us : Plains) → without_zeros (object_or_null us) ≡ trimmed_object_or_null (all_without_zeros us)
    go none = refl
    go (more u us) = refl

mutual
  unfolding without_zeros

  pub zeros_twice : (v : Plain) → without_zeros (without_zeros v) ≡ without_zeros v
  zeros_twice null = refl
  zeros_twice (int n) = zeros_int n
  zeros_twice (blob b) = zeros_blob b
  zeros_twice (arr vs) = zeros_arr (all_without_zeros vs) ∙ ap array_or_null (all_zeros_twice vs)
  zeros_twice (obj vs) = zeros_obj (all_without_zeros vs) ∙ ap trimmed_object_or_null (all_zeros_twice vs)

  pub all_zeros_twice : (vs : Plains) → all_without_zeros (all_without_zeros vs) ≡ all_without_zeros vs
  all_zeros_twice none = refl
  all_zeros_twice (more v vs) = (λ j. more (zeros_twice v j) (all_zeros_twice vs j))
