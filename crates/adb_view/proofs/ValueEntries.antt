-- What is in a value that was made of its entries or of its bytes.
use Rattle.std.proofs.Common.{◌≡◌, ℕ, zero, suc, List, [], ◌∷◌, refl, ◌∙◌}
use Rattle.adb_view.specs.Plain.{Plain, null, int, blob, arr, obj, Plains, none, more, blob_or_null, array_or_null, object_or_null, trimmed_object_or_null, prepend_plain_unless_last_null, without_last_nulls}
use Rattle.adb_view.specs.Values.{nth, entries_in, entry_at_index, text_in}

pub text_blob : (b : List ℕ) → text_in (blob_or_null b) ≡ b
text_blob [] = refl
text_blob (x ∷ xs) = refl

pub entries_arr : (vs : Plains) → entries_in (array_or_null vs) ≡ vs
entries_arr none = refl
entries_arr (more v vs) = refl

pub entries_obj : (vs : Plains) → entries_in (object_or_null vs) ≡ vs
entries_obj none = refl
entries_obj (more v vs) = refl

-- ---- without the Nulls that are last

nth_keep : (v : Plain) (vs : Plains) (i : ℕ) → nth (prepend_plain_unless_last_null v vs) i ≡ nth (more v vs) i
nth_keep null none zero = refl
nth_keep null none (suc i) = refl
nth_keep null (more u us) i = refl
nth_keep (int n) vs i = refl
nth_keep (blob b) vs i = refl
nth_keep (arr us) vs i = refl
nth_keep (obj us) vs i = refl

pub nth_trimmed : (vs : Plains) (i : ℕ) → nth (without_last_nulls vs) i ≡ nth vs i
nth_trimmed none i = refl
nth_trimmed (more v vs) zero = nth_keep v (without_last_nulls vs) zero
nth_trimmed (more v vs) (suc i) = nth_keep v (without_last_nulls vs) (suc i) ∙ nth_trimmed vs i

pub nth_obj : (vs : Plains) (i : ℕ) → entry_at_index (trimmed_object_or_null vs) i ≡ nth vs i
nth_obj vs i = (λ j. nth (entries_obj (without_last_nulls vs) j) i) ∙ nth_trimmed vs i
