-- Plain values, the shapes by which words are read, and the plain value of a word. All crates that read or write
-- containers use them. The rules are in `docs/formats.md`, "Values".
use Rattle.std.specs.Prelude.{◌≡◌, ◌≢◌, ℕ, suc, ◌<◌, ◌^◌, List, [], ◌∷◌, Option, Some, None, option_map, option_and_then, Result, Ok, Err, ◌==◌, if◌then◌else◌}
use Rattle.adb_view.specs.Readers.{int_of, blob_of, run_entries_of_kind_in_payload_at_word, ARRAY, OBJECT}
use Rattle.adb_view.specs.Head.{root_word_of_payload}
use Rattle.base_core.specs.declared.cause.Cause.{Cause}

-- a plain value: Null, an integer, a blob with its bytes, or an array or an object with its values
mutual
  pub data Plain : Type 0 where
    null : Plain
    int : ℕ → Plain
    blob : List ℕ → Plain
    arr : Plains → Plain
    obj : Plains → Plain

  -- the values of an array or of an object, in order
  pub data Plains : Type 0 where
    none : Plains
    more : Plain → Plains → Plains

-- the shape that a field demands of its value: a number, a text, a hash, an array whose entries have a shape, or an
-- object. The shape of an object has the number of its table, and a name and a shape for each field
mutual
  pub data Shape : Type 0 where
    number : Shape
    text : Shape
    hash : Shape
    array : Shape → Shape
    object : ℕ → Fields → Shape

  -- the fields of an object: the name and the shape of each, in order
  pub data Fields : Type 0 where
    no_fields : Fields
    field : List ℕ → Shape → Fields → Fields

-- ---- an empty blob or array, and an object without a value, are Null

-- bytes as a plain value; no bytes are Null
abbrev pub blob_or_null : List ℕ → Plain
blob_or_null [] = null
blob_or_null (b ∷ bs) = blob (b ∷ bs)

-- the values of an array as a plain value; without values it is Null
abbrev pub array_or_null : Plains → Plain
array_or_null none = null
array_or_null (more v vs) = arr (more v vs)

-- the values of an object as a plain value; without values it is Null
abbrev pub object_or_null : Plains → Plain
object_or_null none = null
object_or_null (more v vs) = obj (more v vs)

-- the values of an object with one more in front, which is dropped if it is Null and would be last
abbrev pub prepend_plain_unless_last_null : Plain → Plains → Plains
prepend_plain_unless_last_null null none = none
prepend_plain_unless_last_null null (more v vs) = more null (more v vs)
prepend_plain_unless_last_null (int n) vs = more (int n) vs
prepend_plain_unless_last_null (blob b) vs = more (blob b) vs
prepend_plain_unless_last_null (arr us) vs = more (arr us) vs
prepend_plain_unless_last_null (obj us) vs = more (obj us) vs

-- the values of an object without the Nulls at its end
abbrev pub without_last_nulls : Plains → Plains
without_last_nulls none = none
without_last_nulls (more v vs) = prepend_plain_unless_last_null v (without_last_nulls vs)

-- the values of an object's fields as a plain value, without the Nulls at its end
abbrev pub trimmed_object_or_null : Plains → Plain
trimmed_object_or_null vs = object_or_null (without_last_nulls vs)

-- how many values a list of them has
abbrev pub count_of : Plains → ℕ
count_of none = 0
count_of (more v vs) = suc (count_of vs)

-- the plain values of texts: a blob for each, and Null for an empty one
abbrev pub plains_of_texts : List (List ℕ) → Plains
plains_of_texts [] = none
plains_of_texts (t ∷ ts) = more (blob_or_null t) (plains_of_texts ts)

-- ---- the plain value of a word under a shape

-- the plain value of the word `word`: Null if the word is NULL (0), whatever its shape, else `v`
abbrev pub null_plain_if_null_word : ℕ → Option Plain → Option Plain
null_plain_if_null_word word v = if word == 0 then Some null else v

-- the result of `f` for the Ok value of a reader; None if the reader refused the word
abbrev pub option_of_ok_value : {A B : Type 0} → (A → Option B) → Result A Cause → Option B
option_of_ok_value f (Ok x) = f x
option_of_ok_value f (Err c) = None

-- the list of a first value and the rest; None if the first value or the rest is None
abbrev pub plains_if_first_and_rest : Option Plain → Option Plains → Option Plains
plains_if_first_and_rest v vs = option_and_then (λ v. option_map (more v) vs) v

-- the values that `f` returns for some words, in order; None if it returns None for one of them
abbrev pub plains_of_all_words : (ℕ → Option Plain) → List ℕ → Option Plains
plains_of_all_words f [] = Some none
plains_of_all_words f (w ∷ ws) = plains_if_first_and_rest (f w) (plains_of_all_words f ws)

-- the plain value of the word `w` in the payload `p` by a shape; None if this word or a word below it cannot be read
unfoldable mutual
  pub plain_of : List ℕ → Shape → ℕ → Option Plain
  plain_of p number w = null_plain_if_null_word w (option_of_ok_value (λ n. Some (int n)) (int_of p w))
  plain_of p text w =
      null_plain_if_null_word w (option_of_ok_value (λ b. Some (blob_or_null b)) (blob_of p w))
  plain_of p hash w =
      null_plain_if_null_word w (option_of_ok_value (λ b. Some (blob_or_null b)) (blob_of p w))
  plain_of p (array s) w = null_plain_if_null_word w
      (option_of_ok_value (λ ws. option_map array_or_null (plains_of_all_words (plain_of p s) ws))
      (run_entries_of_kind_in_payload_at_word ARRAY p w))
  plain_of p (object schema fs) w = null_plain_if_null_word w
      (option_of_ok_value (λ ws. option_map trimmed_object_or_null (plains_of p fs ws))
      (run_entries_of_kind_in_payload_at_word OBJECT p w))

  -- the plain values of an object's entries (`ws`), each by the shape of its field; entries past the fields are ignored
  pub plains_of : List ℕ → Fields → List ℕ → Option Plains
  plains_of p no_fields ws = Some none
  plains_of p (field name s fs) [] = Some none
  plains_of p (field name s fs) (w ∷ ws) = plains_if_first_and_rest (plain_of p s w) (plains_of p fs ws)

-- the plain value of a payload, whose root has this shape
abbrev pub root_value_with_shape : List ℕ → Shape → Option Plain
root_value_with_shape p s = plain_of p s (root_word_of_payload p)

-- ---- normal values

-- a value is normal: its integers are below 2 ^ 64, no blob or list is empty, and no object ends in
-- Null
unfoldable mutual
  pub IsNormal : Plain → Type 0
  IsNormal null = Unit {0}
  IsNormal (int n) = n < 2 ^ 64
  IsNormal (blob b) = b ≢ []
  IsNormal (arr vs) = (vs ≢ none) × AreNormal vs
  IsNormal (obj vs) = (vs ≢ none) × (without_last_nulls vs ≡ vs) × AreNormal vs

  -- each of the values of a list is normal
  pub AreNormal : Plains → Type 0
  AreNormal none = Unit {0}
  AreNormal (more v vs) = IsNormal v × AreNormal vs
