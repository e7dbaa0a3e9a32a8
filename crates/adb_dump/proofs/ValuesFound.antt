-- The plain values of a payload of bytes are of bytes.
use Rattle.std.proofs.Common.{ℕ, ◌+◌, ◌<◌, Bool, true, false, cond, eqb, leb, List, [], ◌∷◌, length, take, drop, Option, Some, None, option_map, option_and_then, Result, Ok, Err}
use Rattle.std.specs.Prelude.{All, IfSome, if◌then◌else◌}
use Rattle.std.specs.Int.{Width, w8, w16, w32, byte_len}
use Rattle.std.specs.List.{AllByRecursion}
use Rattle.std.proofs.lemmas.List.Elements.{All-head, All-tail, All-take, All-drop}
use Rattle.adb_view.specs.Bytes.{number_at, bytes_at_with_len}
use Rattle.adb_view.specs.Plain.{Plain, null, int, blob, arr, obj, Plains, none, more, Shape, number, text, hash, array, object, Fields, no_fields, field, blob_or_null, array_or_null, object_or_null, prepend_plain_unless_last_null, without_last_nulls, trimmed_object_or_null, option_of_ok_value, plains_if_first_and_rest, plains_of_all_words, plain_of, plains_of}
use Rattle.adb_view.specs.Readers.{length_prefixed_bytes_at, or_outside_cause, int_of, blob_of, run_entries_of_kind_in_payload_at_word, kind_number_of_word, low_28_bits, ARRAY, OBJECT}
use Rattle.adb_view.proofs.FoundShapes.{null_plain_if_null_word-all, mapped, run_found}
use Rattle.base_core.specs.declared.cause.Cause.{Cause}
use Rattle.adb_dump.specs.Values.{IsOfBytes, AreOfBytes}

-- ---- bytes

abbrev AreBytes : List ℕ → Type 0
AreBytes b = AllByRecursion (λ c. c < 256) b

by_recursion : (b : List ℕ) → All (λ c. c < 256) b → AreBytes b
by_recursion [] h = tt
by_recursion (c ∷ cs) h = (All-head (λ c. c < 256) c cs h, by_recursion cs (All-tail (λ c. c < 256) c cs h))

range_bytes : (p : List ℕ) (at len : ℕ) → All (λ c. c < 256) p → IfSome (bytes_at_with_len p at len) AreBytes
range_bytes p at len h = go (leb (at + len) (length p))
  where
    go : (b : Bool) → IfSome (if b then Some (take len (drop at p)) else None) AreBytes
    go true = by_recursion (take len (drop at p)) (All-take (λ c. c < 256) len (drop at p) (All-drop (λ c. c < 256) at p h))
    go false = tt

counted_bytes : (w : Width) (p : List ℕ) (at : ℕ) → All (λ c. c < 256) p → IfSome (length_prefixed_bytes_at w p at) AreBytes
counted_bytes w p at h = go (number_at w p at)
  where
    go : (o : Option ℕ) → IfSome (option_and_then (λ len. bytes_at_with_len p (at + byte_len w) len) o) AreBytes
    go (Some len) = range_bytes p (at + byte_len w) len h
    go None = tt

-- a reader's answer
abbrev OkBytes : Result (List ℕ) Cause → Type 0
OkBytes (Ok b) = AreBytes b
OkBytes (Err c) = Unit {0}

inside_bytes : (w : ℕ) (o : Option (List ℕ)) → IfSome o AreBytes → OkBytes (or_outside_cause w o)
inside_bytes w (Some b) h = h
inside_bytes w None h = tt

chosen_bytes : (b : Bool) (x y : Result (List ℕ) Cause) → OkBytes x → OkBytes y → OkBytes (cond b x y)
chosen_bytes true x y h k = h
chosen_bytes false x y h k = k

blob_bytes : (p : List ℕ) (w : ℕ) → All (λ c. c < 256) p → OkBytes (blob_of p w)
unfolding blob_of
blob_bytes p w h =
    chosen_bytes (eqb w 0) _ _ tt
    (chosen_bytes (eqb (kind_number_of_word w) 8) _ _ (inside_bytes w _ (counted_bytes w8 p (low_28_bits w) h))
    (chosen_bytes (eqb (kind_number_of_word w) 9) _ _ (inside_bytes w _ (counted_bytes w16 p (low_28_bits w) h))
    (chosen_bytes (eqb (kind_number_of_word w) 10) _ _ (inside_bytes w _ (counted_bytes w32 p (low_28_bits w) h)) tt)))

int_is_bytes : (r : Result ℕ Cause) → IfSome (option_of_ok_value (λ n. Some (int n)) r) IsOfBytes
unfolding IsOfBytes
int_is_bytes (Ok n) = tt
int_is_bytes (Err c) = tt

blob_is_bytes : (r : Result (List ℕ) Cause) → OkBytes r → IfSome (option_of_ok_value (λ b. Some (blob_or_null b)) r) IsOfBytes
unfolding IsOfBytes
blob_is_bytes (Ok []) h = tt
blob_is_bytes (Ok (c ∷ cs)) h = h
blob_is_bytes (Err c) h = tt

null_bytes : IsOfBytes null
unfolding IsOfBytes
null_bytes = tt

arr_bytes : (vs : Plains) → AreOfBytes vs → IsOfBytes (array_or_null vs)
unfolding IsOfBytes
arr_bytes none h = tt
arr_bytes (more v vs) h = h

keep_bytes : (v : Plain) (vs : Plains) → IsOfBytes v → AreOfBytes vs → AreOfBytes (prepend_plain_unless_last_null v vs)
unfolding IsOfBytes
keep_bytes null none h hs = tt
keep_bytes null (more v vs) h hs = (h, hs)
keep_bytes (int n) vs h hs = (h, hs)
keep_bytes (blob b) vs h hs = (h, hs)
keep_bytes (arr us) vs h hs = (h, hs)
keep_bytes (obj us) vs h hs = (h, hs)

trimmed_bytes : (vs : Plains) → AreOfBytes vs → AreOfBytes (without_last_nulls vs)
unfolding IsOfBytes
trimmed_bytes none h = tt
trimmed_bytes (more v vs) h = keep_bytes v (without_last_nulls vs) h.0 (trimmed_bytes vs h.1)

obj_of_bytes : (vs : Plains) → AreOfBytes vs → IsOfBytes (object_or_null vs)
unfolding IsOfBytes
obj_of_bytes none h = tt
obj_of_bytes (more v vs) h = h

obj_bytes : (vs : Plains) → AreOfBytes vs → IsOfBytes (trimmed_object_or_null vs)
obj_bytes vs h = obj_of_bytes (without_last_nulls vs) (trimmed_bytes vs h)

more_bytes : (v : Option Plain) (vs : Option Plains) → IfSome v IsOfBytes → IfSome vs AreOfBytes → IfSome (plains_if_first_and_rest v vs) AreOfBytes
unfolding IsOfBytes
more_bytes (Some v) (Some vs) h hs = (h, hs)
more_bytes (Some v) None h hs = tt
more_bytes None vs h hs = tt

each_bytes : (f : ℕ → Option Plain) → ((w : ℕ) → IfSome (f w) IsOfBytes) → (ws : List ℕ) → IfSome (plains_of_all_words f ws) AreOfBytes
unfolding IsOfBytes
each_bytes f h [] = tt
each_bytes f h (w ∷ ws) = more_bytes (f w) (plains_of_all_words f ws) (h w) (each_bytes f h ws)

mutual
  unfolding plain_of IsOfBytes

  pub plain_bytes : (p : List ℕ) → All (λ c. c < 256) p → (s : Shape) (w : ℕ) → IfSome (plain_of p s w) IsOfBytes
  plain_bytes p h number w = null_plain_if_null_word-all IsOfBytes w _ null_bytes (int_is_bytes (int_of p w))
  plain_bytes p h text w = null_plain_if_null_word-all IsOfBytes w _ null_bytes (blob_is_bytes (blob_of p w) (blob_bytes p w h))
  plain_bytes p h hash w = null_plain_if_null_word-all IsOfBytes w _ null_bytes (blob_is_bytes (blob_of p w) (blob_bytes p w h))
  plain_bytes p h (array s) w =
      null_plain_if_null_word-all IsOfBytes w _ null_bytes (run_found IsOfBytes (λ ws. option_map array_or_null (plains_of_all_words (plain_of p s) ws)) (λ ws. mapped IsOfBytes AreOfBytes array_or_null arr_bytes (plains_of_all_words (plain_of p s) ws) (each_bytes (plain_of p s) (plain_bytes p h s) ws)) (run_entries_of_kind_in_payload_at_word ARRAY p w))
  plain_bytes p h (object n fs) w =
      null_plain_if_null_word-all IsOfBytes w _ null_bytes (run_found IsOfBytes (λ ws. option_map trimmed_object_or_null (plains_of p fs ws)) (λ ws. mapped IsOfBytes AreOfBytes trimmed_object_or_null obj_bytes (plains_of p fs ws) (plains_bytes p h fs ws)) (run_entries_of_kind_in_payload_at_word OBJECT p w))

  pub plains_bytes : (p : List ℕ) → All (λ c. c < 256) p → (fs : Fields) (ws : List ℕ) → IfSome (plains_of p fs ws) AreOfBytes
  plains_bytes p h no_fields ws = tt
  plains_bytes p h (field name s fs) [] = tt
  plains_bytes p h (field name s fs) (w ∷ ws) = more_bytes (plain_of p s w) (plains_of p fs ws) (plain_bytes p h s w) (plains_bytes p h fs ws)
