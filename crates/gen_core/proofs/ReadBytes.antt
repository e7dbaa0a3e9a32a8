-- What is read is of bytes.
use Rattle.std.proofs.Common.{◌≡◌, ◌≢◌, ℕ, zero, suc, ◌+◌, ◌^◌, Bool, true, false, cond, ltb, List, [], ◌∷◌, ◌++◌, length, Option, Some, None, Ok, Err, refl, sym, ap, subst, ◌∙◌, inl, inr}
use Rattle.std.specs.Prelude.{codes, bytes_eq}
use Rattle.std.specs.Str.Parse.{digits_value}
use Rattle.adb_view.specs.Plain.{Plain, Plains, null, int, blob, arr, obj, none, more, Shape, number, text, hash, array, object, Fields, no_fields, field}
use Rattle.base_core.specs.Lists.{and_then}
use Rattle.base_core.proofs.AtName.{is_name}
use Rattle.adb_dump.specs.Dump.{Line, int_or_null_line, text_or_null_line, hash_or_null_line}
use Rattle.adb_dump.specs.Values.{IsOfBytes, AreOfBytes}
use Rattle.adb_dump.specs.ReadBack.{ResultOrBadLine, mapped_or_bad_line_shifted_by, strip_prefix, block_and_lines_after, bytes_of_hex_digits_unchecked, single_line_value, entry_read, entries_from_dash_line, entries_read_with_recursion_bound, array_or_bad_line_if_empty, object_or_bad_line_if_empty, fields_read_with_value_on_line, fields_read_with_value_below, value_if_printed_as_line, fields_read_by_name_match, block_read, named_read, fields_read, int_of_line_of_unchecked_form, text_of_line_of_unchecked_form, hash_of_line_of_unchecked_form}
use Rattle.adb_dump.proofs.Booleans.{chosen}
use Rattle.adb_dump.proofs.ReadOnly.{if_form_ok, made_blob_some}
use Rattle.gen_core.proofs.LineReads.{hash_bytes, some_text, text_bytes}

-- ---- results that are Ok

pub bound : {A B : Type 0} (r : ResultOrBadLine A) (f : A → ResultOrBadLine B) (y : B) → and_then r f ≡ Ok y → (x : A) × (r ≡ Ok x) × (f x ≡ Ok y)
bound (Ok x) f y e = (x, refl, e)
bound (Err k) f y e = absurd cc

pub read_after : {A B : Type 0} (n : ℕ) (f : A → B) (r : ResultOrBadLine A) (y : B) → mapped_or_bad_line_shifted_by n f r ≡ Ok y → (x : A) × (r ≡ Ok x) × (f x ≡ y)
read_after n f (Ok x) y e = (x, refl, cc)
read_after n f (Err k) y e = absurd cc

only_ok : (f : Line → ResultOrBadLine Plain) (ls : List Line) (v : Plain) → single_line_value f ls ≡ Ok v → (l : Line) × (f l ≡ Ok v)
only_ok f [] v e = absurd cc
only_ok f (l ∷ []) v e = (l, e)
only_ok f (l ∷ m ∷ ls) v e = absurd (let (x, a, b) = bound (f l) (λ v. Err 1) v e in cc)

-- ---- one line

pub int_of_bytes : (l : Line) (v : Plain) → value_if_printed_as_line int_or_null_line l (int_of_line_of_unchecked_form l) ≡ Ok v → IsOfBytes v
unfolding IsOfBytes
int_of_bytes l v e =
    elim (chosen (ltb (digits_value 10 l) (2 ^ 64)) _ _ _ (if_form_ok int_or_null_line l (int_of_line_of_unchecked_form l) v e).0) [
      | inl x ↦ let is : int (digits_value 10 l) ≡ v = (let f = x.1 in cc) in subst IsOfBytes is tt
      | inr x ↦ absurd (let f = x.1 in cc)
    ]

pub text_of_bytes : (l : Line) (v : Plain) → value_if_printed_as_line text_or_null_line l (text_of_line_of_unchecked_form l) ≡ Ok v → IsOfBytes v
unfolding IsOfBytes
text_of_bytes l v e =
    let (read, form) = if_form_ok text_or_null_line l (text_of_line_of_unchecked_form l) v e in
    let (b, is, ne) = some_text l v read in
    subst IsOfBytes (sym is) (text_bytes b l (read ∙ ap Some is) (ap text_or_null_line (sym is) ∙ form))

pub hash_of_bytes : (l : Line) (v : Plain) → value_if_printed_as_line hash_or_null_line l (hash_of_line_of_unchecked_form l) ≡ Ok v → IsOfBytes v
unfolding IsOfBytes
hash_of_bytes l v e =
    let (read, form) = if_form_ok hash_or_null_line l (hash_of_line_of_unchecked_form l) v e in
    let m = made_blob_some (bytes_of_hex_digits_unchecked l) v read in
    subst IsOfBytes (sym m.0) (hash_bytes (bytes_of_hex_digits_unchecked l) (ap bytes_of_hex_digits_unchecked (ap hash_or_null_line (sym m.0) ∙ form)))

-- ---- lists

-- what is read is of bytes
abbrev pub ReadsBytes : (List Line → ResultOrBadLine Plain) → Type 0
ReadsBytes f = (ls : List Line) (v : Plain) → f ls ≡ Ok v → IsOfBytes v

pub entry_bytes : (f : List Line → ResultOrBadLine Plain) → ReadsBytes f → (l : Line) (ls : List Line) (v : Plain) → entry_read f l ls ≡ Ok v → IsOfBytes v
unfolding IsOfBytes
entry_bytes f h l ls v e =
    elim (chosen (bytes_eq l (codes "null")) _ _ _ e) [
      | inl x ↦ let (m, is) = only_ok (λ y. Ok null) (l ∷ ls) v x.1 in let same : null ≡ v = cc in subst IsOfBytes same tt
      | inr x ↦ h (l ∷ ls) v x.1
    ]

entries_bytes : (f : List Line → ResultOrBadLine Plain) → ReadsBytes f → (n : ℕ) (ls : List Line) (vs : Plains) → entries_read_with_recursion_bound f n ls ≡ Ok vs → AreOfBytes vs
unfolding IsOfBytes
entries_bytes f h zero ls vs e = let same : none ≡ vs = cc in subst AreOfBytes same tt
entries_bytes f h (suc n) [] vs e = let same : none ≡ vs = cc in subst AreOfBytes same tt
entries_bytes f h (suc n) (l ∷ ls) vs e = go (strip_prefix (codes "- ") l) (entries_bytes f h n (block_and_lines_after ls).1) e
  where
    go : (o : Option Line) → ((us : Plains) → entries_read_with_recursion_bound f n (block_and_lines_after ls).1 ≡ Ok us → AreOfBytes us) → entries_from_dash_line f (entries_read_with_recursion_bound f n) (block_and_lines_after ls) o ≡ Ok vs → AreOfBytes vs
    go None k e = absurd cc
    go (Some m) k e =
        let (v, one, a) = bound (entry_read f m (block_and_lines_after ls).0) (λ v. mapped_or_bad_line_shifted_by (1 + length (block_and_lines_after ls).0) (more v) (entries_read_with_recursion_bound f n (block_and_lines_after ls).1)) vs e in
        let (us, others, is) = read_after (1 + length (block_and_lines_after ls).0) (more v) (entries_read_with_recursion_bound f n (block_and_lines_after ls).1) vs a in
        subst AreOfBytes is (entry_bytes f h m (block_and_lines_after ls).0 v one, k us others)

arr_bytes : (vs : Plains) (v : Plain) → AreOfBytes vs → array_or_bad_line_if_empty vs ≡ Ok v → IsOfBytes v
unfolding IsOfBytes
arr_bytes none v b e = absurd cc
arr_bytes (more u us) v b e = let same : arr (more u us) ≡ v = cc in subst IsOfBytes same b

obj_bytes : (vs : Plains) (v : Plain) → AreOfBytes vs → object_or_bad_line_if_empty vs ≡ Ok v → IsOfBytes v
unfolding IsOfBytes
obj_bytes none v b e = absurd cc
obj_bytes (more u us) v b e = let same : obj (more u us) ≡ v = cc in subst IsOfBytes same b

array_bytes : (s : Shape) → ReadsBytes (block_read s) → ReadsBytes (block_read (array s))
unfolding block_read
array_bytes s h ls v e =
    let (vs, some, made) = bound (entries_read_with_recursion_bound (block_read s) (length ls) ls) array_or_bad_line_if_empty v e in
    arr_bytes vs v (entries_bytes (block_read s) h (length ls) ls vs some) made

-- fields that are read are of bytes
abbrev pub ReadsAllBytes : (List Line → ResultOrBadLine Plains) → Type 0
ReadsAllBytes f = (ls : List Line) (vs : Plains) → f ls ≡ Ok vs → AreOfBytes vs

object_bytes : (which : ℕ) (fs : Fields) → ReadsAllBytes (fields_read fs) → ReadsBytes (block_read (object which fs))
unfolding block_read
object_bytes which fs h ls v e =
    let (vs, some, made) = bound (fields_read fs ls) object_or_bad_line_if_empty v e in
    obj_bytes vs v (h ls vs some) made

on_line_bytes : (g : Line → ResultOrBadLine Plain) (f : List Line → ResultOrBadLine Plains) → ((l : Line) (v : Plain) → g l ≡ Ok v → IsOfBytes v) → ReadsAllBytes f → (ls : List Line) (o : Option Line) (vs : Plains) → fields_read_with_value_on_line g f ls o ≡ Ok vs → AreOfBytes vs
unfolding IsOfBytes
on_line_bytes g f hg hf ls None vs e = absurd cc
on_line_bytes g f hg hf ls (Some l) vs e =
    let (v, one, a) = bound (g l) (λ v. mapped_or_bad_line_shifted_by 1 (more v) (f ls)) vs e in
    let (us, others, is) = read_after 1 (more v) (f ls) vs a in
    subst AreOfBytes is (hg l v one, hf ls us others)

below_bytes : (b : List Line → ResultOrBadLine Plain) (f : List Line → ResultOrBadLine Plains) → ReadsBytes b → ReadsAllBytes f → (ls : List Line) (rest : Line) (vs : Plains) → fields_read_with_value_below b f (block_and_lines_after ls) rest ≡ Ok vs → AreOfBytes vs
unfolding IsOfBytes
below_bytes b f hb hf ls (c ∷ cs) vs e = absurd cc
below_bytes b f hb hf ls [] vs e =
    let (v, one, a) = bound (mapped_or_bad_line_shifted_by 1 (λ v. v) (b (block_and_lines_after ls).0)) (λ v. mapped_or_bad_line_shifted_by (1 + length (block_and_lines_after ls).0) (more v) (f (block_and_lines_after ls).1)) vs e in
    let (u, some, same) = read_after 1 (λ v. v) (b (block_and_lines_after ls).0) v one in
    let (us, others, is) = read_after (1 + length (block_and_lines_after ls).0) (more v) (f (block_and_lines_after ls).1) vs a in
    subst AreOfBytes is (subst IsOfBytes same (hb (block_and_lines_after ls).0 u some), hf (block_and_lines_after ls).1 us others)

named_bytes : (s : Shape) (f : List Line → ResultOrBadLine Plains) → ReadsBytes (block_read s) → ReadsAllBytes f → (ls : List Line) (rest : Line) (vs : Plains) → named_read s f ls rest ≡ Ok vs → AreOfBytes vs
unfolding named_read block_read
named_bytes number f hb hf ls rest vs e = on_line_bytes (λ l. value_if_printed_as_line int_or_null_line l (int_of_line_of_unchecked_form l)) f int_of_bytes hf ls (strip_prefix (codes " ") rest) vs e
named_bytes text f hb hf ls rest vs e = on_line_bytes (λ l. value_if_printed_as_line text_or_null_line l (text_of_line_of_unchecked_form l)) f text_of_bytes hf ls (strip_prefix (codes " ") rest) vs e
named_bytes hash f hb hf ls rest vs e = on_line_bytes (λ l. value_if_printed_as_line hash_or_null_line l (hash_of_line_of_unchecked_form l)) f hash_of_bytes hf ls (strip_prefix (codes " ") rest) vs e
named_bytes (array s) f hb hf ls rest vs e = below_bytes (block_read (array s)) f hb hf ls rest vs e
named_bytes (object which fs) f hb hf ls rest vs e = below_bytes (block_read (object which fs)) f hb hf ls rest vs e

field_bytes : (name : List ℕ) (s : Shape) (fs : Fields) → ReadsBytes (block_read s) → ReadsAllBytes (fields_read fs) → ReadsAllBytes (fields_read (field name s fs))
unfolding fields_read IsOfBytes
field_bytes name s fs hb hf [] vs e = let same : none ≡ vs = cc in subst AreOfBytes same tt
field_bytes name s fs hb hf (l ∷ ls) vs e = go (strip_prefix (name ++ codes ":") l) e
  where
    go : (o : Option Line) → fields_read_by_name_match (mapped_or_bad_line_shifted_by 0 (more null) (fields_read fs (l ∷ ls))) (named_read s (fields_read fs) ls) o ≡ Ok vs → AreOfBytes vs
    go None e = let (us, some, is) = read_after 0 (more null) (fields_read fs (l ∷ ls)) vs e in subst AreOfBytes is (tt, hf (l ∷ ls) us some)
    go (Some rest) e = named_bytes s (fields_read fs) hb hf ls rest vs e

no_fields_bytes : ReadsAllBytes (fields_read no_fields)
unfolding fields_read IsOfBytes
no_fields_bytes [] vs e = let same : none ≡ vs = cc in subst AreOfBytes same tt
no_fields_bytes (l ∷ ls) vs e = absurd cc

number_bytes : ReadsBytes (block_read number)
unfolding block_read
number_bytes ls v e = let (l, one) = only_ok (λ l. value_if_printed_as_line int_or_null_line l (int_of_line_of_unchecked_form l)) ls v e in int_of_bytes l v one

text_bytes_read : ReadsBytes (block_read text)
unfolding block_read
text_bytes_read ls v e = let (l, one) = only_ok (λ l. value_if_printed_as_line text_or_null_line l (text_of_line_of_unchecked_form l)) ls v e in text_of_bytes l v one

hash_bytes_read : ReadsBytes (block_read hash)
unfolding block_read
hash_bytes_read ls v e = let (l, one) = only_ok (λ l. value_if_printed_as_line hash_or_null_line l (hash_of_line_of_unchecked_form l)) ls v e in hash_of_bytes l v one

mutual
  pub block_bytes : (s : Shape) → ReadsBytes (block_read s)
  block_bytes number = number_bytes
  block_bytes text = text_bytes_read
  block_bytes hash = hash_bytes_read
  block_bytes (array s) = array_bytes s (block_bytes s)
  block_bytes (object which fs) = object_bytes which fs (fields_bytes fs)

  pub fields_bytes : (fs : Fields) → ReadsAllBytes (fields_read fs)
  fields_bytes no_fields = no_fields_bytes
  fields_bytes (field name s fs) = field_bytes name s fs (block_bytes s) (fields_bytes fs)
