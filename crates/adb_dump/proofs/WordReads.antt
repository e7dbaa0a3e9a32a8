-- The plain values of words, in terms of what the readers of a word answer.
use Rattle.std.proofs.Common.{◌≡◌, ℕ, Bool, true, false, cond, eqb, List, [], ◌∷◌, Option, Some, None, option_map, Result, Ok, Err, refl, sym, ap, ◌∙◌, inl, inr}
use Rattle.std.specs.Prelude.{is_some, unwrap_or}
use Rattle.adb_schema.proofs.adb_fields.FieldReads.{null_or_not}
use Rattle.adb_view.specs.Plain.{Plain, null, int, Plains, none, Fields, no_fields, field, blob_or_null, trimmed_object_or_null, null_plain_if_null_word, option_of_ok_value, plain_of, plains_of}
use Rattle.adb_view.specs.Readers.{int_of, blob_of, run_entries_of_kind_in_payload_at_word, OBJECT}
use Rattle.adb_view.specs.Schema.{table, shape_of, shapes_of}
use Rattle.adb_view.specs.Shapes.{object_shape}
use Rattle.adb_view.specs.Values.{int_in, is_sound, text_in, value_at}
use Rattle.base_core.specs.declared.cause.Cause.{Cause}
use Rattle.adb_view.specs.declared.tables.Which.{Which}
use Rattle.adb_view.specs.declared.tables.Kind.TheVariants.{Int, Text, Hash, Obj}
use Rattle.adb_dump.specs.Words.{fields_sound, fields_at, is_null}

-- a reader that reads NULL as what means Null
found_is : {A : Type 0} (w : ℕ) (f : A → Option Plain) (r : ℕ → Result A Cause) (x y : A) → r 0 ≡ Ok y → f y ≡ Some null → r w ≡ Ok x → null_plain_if_null_word w (option_of_ok_value f (r w)) ≡ f x
found_is w f r x y at_null is_null e =
    elim (null_or_not w) [
      | inl z ↦ let zero_is : r 0 ≡ Ok x = ap r (sym z) ∙ e in let same : y ≡ x = cc in rw (z, sym same, is_null) refl
      | inr t ↦ rw (t, e) refl
    ]

-- ---- integers, texts and hashes

-- a value that is found as an integer, unless it is Null
pub int_plain : (p : List ℕ) (w : ℕ) → is_null (value_at p Int w) ≡ false → value_at p Int w ≡ int (int_in (value_at p Int w))
unfolding value_at shape_of plain_of
int_plain p w some = go (eqb w 0) (int_of p w) some
  where
    go : (b : Bool) (r : Result ℕ Cause) → is_null (unwrap_or (cond b (Some null) (option_of_ok_value (λ n. Some (int n)) r)) null) ≡ false → unwrap_or (cond b (Some null) (option_of_ok_value (λ n. Some (int n)) r)) null ≡ int (int_in (unwrap_or (cond b (Some null) (option_of_ok_value (λ n. Some (int n)) r)) null))
    go true r e = absurd cc
    go false (Ok n) e = refl
    go false (Err c) e = absurd cc

blob_found : (b : Bool) (r : Result (List ℕ) Cause) → unwrap_or (cond b (Some null) (option_of_ok_value (λ b. Some (blob_or_null b)) r)) null ≡ blob_or_null (text_in (unwrap_or (cond b (Some null) (option_of_ok_value (λ b. Some (blob_or_null b)) r)) null))
blob_found true r = refl
blob_found false (Ok []) = refl
blob_found false (Ok (c ∷ cs)) = refl
blob_found false (Err c) = refl

-- a value that is found as a text or a hash is a blob of its bytes
pub text_plain : (p : List ℕ) (w : ℕ) → value_at p Text w ≡ blob_or_null (text_in (value_at p Text w))
unfolding value_at shape_of plain_of
text_plain p w = blob_found (eqb w 0) (blob_of p w)

pub hash_plain : (p : List ℕ) (w : ℕ) → value_at p Hash w ≡ blob_or_null (text_in (value_at p Hash w))
unfolding value_at shape_of plain_of
hash_plain p w = blob_found (eqb w 0) (blob_of p w)

-- ---- objects

unwrap-obj : (o : Option Plains) → unwrap_or (option_map trimmed_object_or_null o) null ≡ trimmed_object_or_null (unwrap_or o none)
unwrap-obj (Some vs) = refl
unwrap-obj None = refl

some-map : (f : Plains → Plain) (o : Option Plains) → is_some (option_map f o) ≡ is_some o
some-map f (Some vs) = refl
some-map f None = refl

object_plain : (p : List ℕ) (which : Which) (w : ℕ) (ws : List ℕ) → run_entries_of_kind_in_payload_at_word OBJECT p w ≡ Ok ws → plain_of p (shape_of (Obj which)) w ≡ option_map trimmed_object_or_null (plains_of p (shapes_of (table which)) ws)
unfolding plain_of run_entries_of_kind_in_payload_at_word
object_plain p which w ws e = ap (λ s. plain_of p s w) (object_shape which) ∙ found_is w (λ ws. option_map trimmed_object_or_null (plains_of p (shapes_of (table which)) ws)) (run_entries_of_kind_in_payload_at_word OBJECT p) ws [] refl (no_words (shapes_of (table which))) e
  where
    no_words : (fs : Fields) → option_map trimmed_object_or_null (plains_of p fs []) ≡ Some null
    no_words no_fields = refl
    no_words (field name s fs) = refl

pub object_value_is : (p : List ℕ) (which : Which) (w : ℕ) (ws : List ℕ) → run_entries_of_kind_in_payload_at_word OBJECT p w ≡ Ok ws → value_at p (Obj which) w ≡ trimmed_object_or_null (fields_at p (table which) ws)
unfolding value_at fields_at
object_value_is p which w ws e = ap (λ o. unwrap_or o null) (object_plain p which w ws e) ∙ unwrap-obj (plains_of p (shapes_of (table which)) ws)

pub object_sound : (p : List ℕ) (which : Which) (w : ℕ) (ws : List ℕ) → run_entries_of_kind_in_payload_at_word OBJECT p w ≡ Ok ws → is_sound p (Obj which) w ≡ true → fields_sound p (table which) ws ≡ true
unfolding is_sound fields_sound
object_sound p which w ws e h = sym (some-map trimmed_object_or_null (plains_of p (shapes_of (table which)) ws)) ∙ ap is_some (sym (object_plain p which w ws e)) ∙ h
