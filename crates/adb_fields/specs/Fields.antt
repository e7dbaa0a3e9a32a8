-- Which words are those of an object's fields, and the values of an array's words. Serves the contracts of
-- `src/reads.rt`. The rule is in `docs/formats.md`, "Values": an object has the values of its first fields, and NULL
-- past its last entry.
use Rattle.std.specs.Prelude.{◌≡◌, ℕ, true, Bool, List, is_some, slice_index_or, unwrap_or, Some}
use Rattle.adb_view.specs.Plain.{Plain, Plains, none, array_or_null, plains_of_all_words, plain_of}
use Rattle.adb_view.specs.Schema.{shape_of}
use Rattle.adb_view.specs.Values.{is_sound, value_at, kind_at, entry_at_index}
use Rattle.adb_view.specs.declared.tables.Which.{Which}
use Rattle.adb_view.specs.declared.tables.Kind.{Kind}
use Rattle.adb_view.specs.declared.tables.Kind.TheVariants.{Obj}

-- `word` is field i of the object at `w`, which is of the table `which` in the payload `p`. If the table
-- has a kind for the field, the word is sound as that kind, and its value is what the object has there.
abbrev pub IsFieldOf : List ℕ → Which → ℕ → ℕ → ℕ → Type 0
IsFieldOf p which w i word = (k : Kind) → kind_at which i ≡ Some k → (is_sound p k word ≡ true)
    × (value_at p k word ≡ entry_at_index (value_at p (Obj which) w) i)

-- each of `words` is the word of the field with its index in the object at the word `object`, which is of the table
-- `which` in the payload `p`. After the last word the fields are Null
abbrev pub AreFieldsOf : List ℕ → Which → ℕ → List ℕ → Type 0
AreFieldsOf p which object words = (i : ℕ) → IsFieldOf p which object i (slice_index_or words i 0)

-- whether each of an array's words in the payload `p` has a plain value of the kind `k`, that of the entries
unfoldable pub are_all_sound : List ℕ → Kind → List ℕ → Bool
are_all_sound p k words = is_some (plains_of_all_words (plain_of p (shape_of k)) words)

-- the plain values of an array's words in the payload `p`; `k` is the kind of the entries. The empty list if one of the
-- words has no value
unfoldable pub values_at : List ℕ → Kind → List ℕ → Plains
values_at p k words = unwrap_or (plains_of_all_words (plain_of p (shape_of k)) words) none

-- the plain value of an array in the payload `p`: `words` are its words, and `k` is the kind of its entries
abbrev pub array_at : List ℕ → Kind → List ℕ → Plain
array_at p k words = array_or_null (values_at p k words)
