-- Which values are Null.
use Rattle.std.proofs.Common.{◌≡◌, ℕ, Bool, true, false, cond, eqb, List, [], ◌∷◌, length, Option, Some, None, Result, Ok, Err, refl, sym, ap, arith, ◌∙◌}
use Rattle.std.specs.Prelude.{◌==◌, ◌&&◌, is_some, unwrap_or, IsTrue, ◌↔◌}
use Rattle.std.proofs.lemmas.Bool.{ne_eqb}
use Rattle.adb_view.specs.Plain.{Plain, null, int, blob, arr, obj, Plains, none, more, prepend_plain_unless_last_null, without_last_nulls, blob_or_null, array_or_null, object_or_null, trimmed_object_or_null, option_of_ok_value, plains_if_first_and_rest, plains_of_all_words, plain_of}
use Rattle.adb_schema.specs.adb_fields.Fields.{are_all_sound, values_at}
use Rattle.adb_view.specs.Schema.{shape_of}
use Rattle.adb_view.specs.Readers.{int_of}
use Rattle.base_core.specs.declared.cause.Cause.{Cause}
use Rattle.adb_view.specs.Values.{is_sound, text_in, value_at}
use Rattle.adb_view.specs.declared.tables.Kind.{Kind}
use Rattle.adb_view.specs.declared.tables.Kind.TheVariants.{Hash, Int, Text}
use Rattle.adb_dump.specs.Words.{is_null, are_null}
use Rattle.adb_dump.proofs.WordReads.{hash_plain, text_plain}

some_length : (x : ℕ) (xs : List ℕ) → (length (x ∷ xs) == 0) ≡ false
some_length x xs = ne_eqb (length (x ∷ xs)) 0 (λ e. absurd (omega arith))

-- a test of NULL
pub null_test : (r : Bool) (w : ℕ) → IsTrue r ↔ (w ≡ 0) → r ≡ (w == 0)
null_test true w h = let z : w ≡ 0 = h.0 refl in rw z refl
null_test false w h = sym (ne_eqb w 0 (λ z. let no : false ≡ true = h.1 z in absurd cc))

-- an integer is Null only as NULL
pub int_is_null : (p : List ℕ) (w : ℕ) → is_sound p Int w ≡ true → is_null (value_at p Int w) ≡ (w == 0)
unfolding is_sound value_at shape_of plain_of
int_is_null p w h = go (eqb w 0) (int_of p w) h
  where
    go : (b : Bool) (r : Result ℕ Cause) → is_some (cond b (Some null) (option_of_ok_value (λ n. Some (int n)) r)) ≡ true → is_null (unwrap_or (cond b (Some null) (option_of_ok_value (λ n. Some (int n)) r)) null) ≡ b
    go true r e = refl
    go false (Ok n) e = refl
    go false (Err c) e = absurd cc

pub blob_null : (b : List ℕ) → is_null (blob_or_null b) ≡ (length b == 0)
blob_null [] = refl
blob_null (c ∷ cs) = sym (some_length c cs)

pub text_null : (p : List ℕ) (w : ℕ) (b : List ℕ) → b ≡ text_in (value_at p Text w) → is_null (value_at p Text w) ≡ (length b == 0)
text_null p w b e = ap is_null (text_plain p w ∙ ap blob_or_null (sym e)) ∙ blob_null b

pub hash_null : (p : List ℕ) (w : ℕ) (b : List ℕ) → b ≡ text_in (value_at p Hash w) → is_null (value_at p Hash w) ≡ (length b == 0)
hash_null p w b e = ap is_null (hash_plain p w ∙ ap blob_or_null (sym e)) ∙ blob_null b

obj_of_keep : (v : Plain) (vs : Plains) → is_null (object_or_null (prepend_plain_unless_last_null v vs)) ≡ (is_null v && is_null (object_or_null vs))
obj_of_keep null none = refl
obj_of_keep null (more v vs) = refl
obj_of_keep (int n) vs = refl
obj_of_keep (blob b) vs = refl
obj_of_keep (arr us) vs = refl
obj_of_keep (obj us) vs = refl

pub obj_null : (vs : Plains) → is_null (trimmed_object_or_null vs) ≡ are_null vs
obj_null none = refl
obj_null (more v vs) = obj_of_keep v (without_last_nulls vs) ∙ ap (λ (b : Bool). is_null v && b) (obj_null vs)

-- an array of words that have values has as many of these
pub arr_null : (p : List ℕ) (k : Kind) (words : List ℕ) → are_all_sound p k words ≡ true → is_null (array_or_null (values_at p k words)) ≡ (length words == 0)
unfolding are_all_sound values_at
arr_null p k [] h = refl
arr_null p k (w ∷ ws) h = go (plain_of p (shape_of k) w) (plains_of_all_words (plain_of p (shape_of k)) ws) h ∙ sym (some_length w ws)
  where
    go : (v : Option Plain) (vs : Option Plains) → is_some (plains_if_first_and_rest v vs) ≡ true → is_null (array_or_null (unwrap_or (plains_if_first_and_rest v vs) none)) ≡ false
    go (Some v) (Some vs) e = refl
    go (Some v) None e = absurd cc
    go None vs e = absurd cc
