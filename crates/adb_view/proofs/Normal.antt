-- Each plain value that is found in bytes is normal.
use Rattle.std.proofs.Common.{◌≡◌, ◌≢◌, ℕ, zero, suc, ◌+◌, ◌<◌, ◌^◌, Bool, true, false, cond, eqb, leb, List, [], ◌∷◌, length, get_or, take, drop, Option, Some, None, option_map, Result, Ok, Err, refl, ◌∙◌, ap, subst, arith, lit<, ◌⊎◌, inl, inr}
use Rattle.std.specs.Prelude.{All, IfSome, if◌then◌else◌}
use Rattle.std.proofs.lemmas.List.Elements.{All-head, All-tail, All-take, All-drop}
use Rattle.std.specs.Int.{Width, w32, w64, byte_len, from_le_bytes}
use Rattle.adb_view.specs.Bytes.{number_at}
use Rattle.adb_view.specs.Plain.{Plain, null, int, blob, arr, obj, Plains, none, more, Shape, number, text, hash, array, object, Fields, no_fields, field, blob_or_null, array_or_null, object_or_null, prepend_plain_unless_last_null, without_last_nulls, trimmed_object_or_null, option_of_ok_value, plains_if_first_and_rest, plains_of_all_words, plain_of, plains_of, IsNormal, AreNormal}
use Rattle.adb_view.specs.Readers.{kind_number_of_word, low_28_bits, or_outside_cause, int_of, blob_of, run_entries_of_kind_in_payload_at_word, ARRAY, OBJECT}
use Rattle.adb_view.proofs.FoundShapes.{null_plain_if_null_word-all, mapped, run_found}
use Rattle.base_core.specs.declared.cause.Cause.{Cause}

-- ---- bytes, and the numbers that they spell

abbrev pub AreBytes : List ℕ → Type 0
AreBytes bytes = All (λ b. b < 256) bytes

-- also past the end
byte_at : (bytes : List ℕ) → AreBytes bytes → (i : ℕ) → get_or bytes i 0 < 256
byte_at [] h i = lit< tt
byte_at (x ∷ xs) h zero = All-head (λ b. b < 256) x xs h
byte_at (x ∷ xs) h (suc i) = byte_at xs (All-tail (λ b. b < 256) x xs h) i

four_fit : (bs : List ℕ) → AreBytes bs → from_le_bytes w32 bs < 2 ^ 64
four_fit bs h = omega (arith, byte_at bs h 0, byte_at bs h 1, byte_at bs h 2, byte_at bs h 3)

eight_fit : (bs : List ℕ) → AreBytes bs → from_le_bytes w64 bs < 2 ^ 64
eight_fit bs h =
    omega (arith, byte_at bs h 0, byte_at bs h 1, byte_at bs h 2, byte_at bs h 3, byte_at bs h 4, byte_at bs h 5, byte_at bs h 6, byte_at bs h 7)

-- a number that was read is one of bytes
read_bytes : (b : Bool) (bytes : List ℕ) (w : Width) (n : ℕ) → option_map (from_le_bytes w) (if b then Some bytes else None) ≡ Some n → from_le_bytes w bytes ≡ n
read_bytes true bytes w n e = cc
read_bytes false bytes w n e = absurd cc

number_fits : (w : Width) (bytes : List ℕ) (at n : ℕ) → ((bs : List ℕ) → AreBytes bs → from_le_bytes w bs < 2 ^ 64) → AreBytes bytes → number_at w bytes at ≡ Some n → n < 2 ^ 64
number_fits w bytes at n fit h e =
    let bs = take (byte_len w) (drop at bytes) in
    let small : from_le_bytes w bs < 2 ^ 64 = fit bs (All-take (λ b. b < 256) (byte_len w) (drop at bytes) (All-drop (λ b. b < 256) at bytes h)) in
    let same : from_le_bytes w bs ≡ n = read_bytes (leb (at + byte_len w) (length bytes)) bs w n e in
    subst (λ k. k < 2 ^ 64) same small

inside_fits : (word n : ℕ) (o : Option ℕ) → ((k : ℕ) → o ≡ Some k → k < 2 ^ 64) → or_outside_cause word o ≡ Ok n → n < 2 ^ 64
inside_fits word n (Some k) h e = let same : k ≡ n = cc in subst (λ i. i < 2 ^ 64) same (h k refl)
inside_fits word n None h e = absurd cc

either : {A : Type 0} (b : Bool) (x y z : A) → cond b x y ≡ z → (x ≡ z) ⊎ (y ≡ z)
either true x y z e = inl e
either false x y z e = inr e

low_fits : (word n : ℕ) → low_28_bits word ≡ n → n < 2 ^ 64
low_fits word n e = subst (λ k. k < 2 ^ 64) e (omega arith)

int_of-fits : (p : List ℕ) (w n : ℕ) → AreBytes p → int_of p w ≡ Ok n → n < 2 ^ 64
unfolding int_of
int_of-fits p w n h e =
    elim (either (eqb w 0) _ _ _ e) [
      | inl zero_is ↦ let same : 0 ≡ n = cc in omega arith
      | inr e1 ↦ elim (either (eqb (kind_number_of_word w) 1) _ _ _ e1) [
        | inl low_is ↦ let same : low_28_bits w ≡ n = cc in low_fits w n same
        | inr e2 ↦ elim (either (eqb (kind_number_of_word w) 2) _ _ _ e2) [
          | inl four_is ↦ inside_fits w n _ (λ k. number_fits w32 p (low_28_bits w) k four_fit h) four_is
          | inr e3 ↦ elim (either (eqb (kind_number_of_word w) 3) _ _ _ e3) [
            | inl eight_is ↦ inside_fits w n _ (λ k. number_fits w64 p (low_28_bits w) k eight_fit h) eight_is
            | inr e4 ↦ absurd cc
          ]
        ]
      ]
    ]

-- ---- lists without the Nulls that are last

keep_normal : (v : Plain) (vs : Plains) → IsNormal v → AreNormal vs → AreNormal (prepend_plain_unless_last_null v vs)
unfolding IsNormal
keep_normal null none h hs = tt
keep_normal null (more v vs) h hs = (tt, hs)
keep_normal (int n) vs h hs = (h, hs)
keep_normal (blob b) vs h hs = (h, hs)
keep_normal (arr us) vs h hs = (h, hs)
keep_normal (obj us) vs h hs = (h, hs)

pub trimmed_normal : (vs : Plains) → AreNormal vs → AreNormal (without_last_nulls vs)
unfolding IsNormal
trimmed_normal none hs = tt
trimmed_normal (more v vs) hs = keep_normal v (without_last_nulls vs) hs.0 (trimmed_normal vs hs.1)

keep_trimmed : (v : Plain) (vs : Plains) → without_last_nulls vs ≡ vs → without_last_nulls (prepend_plain_unless_last_null v vs) ≡ prepend_plain_unless_last_null v vs
keep_trimmed null none e = refl
keep_trimmed null (more v vs) e = ap (prepend_plain_unless_last_null null) e
keep_trimmed (int n) vs e = ap (more (int n)) e
keep_trimmed (blob b) vs e = ap (more (blob b)) e
keep_trimmed (arr us) vs e = ap (more (arr us)) e
keep_trimmed (obj us) vs e = ap (more (obj us)) e

pub trimmed-trimmed : (vs : Plains) → without_last_nulls (without_last_nulls vs) ≡ without_last_nulls vs
trimmed-trimmed none = refl
trimmed-trimmed (more v vs) = keep_trimmed v (without_last_nulls vs) (trimmed-trimmed vs)

-- a list that stays as it is without the Nulls that are last: its rest does, and its last value is not
-- Null
pub trimmed-more : (v : Plain) (vs : Plains) → without_last_nulls (more v vs) ≡ more v vs → (without_last_nulls vs ≡ vs) × ((vs ≡ none) → v ≢ null)
trimmed-more v vs e = go v (without_last_nulls vs) refl e
  where
    go : (v : Plain) (us : Plains) → without_last_nulls vs ≡ us → prepend_plain_unless_last_null v us ≡ more v vs → (without_last_nulls vs ≡ vs) × ((vs ≡ none) → v ≢ null)
    go null none i e = absurd cc
    go null (more u us) i e = let same : more u us ≡ vs = cc in (i ∙ same, λ n. absurd (let no : more u us ≡ none = same ∙ n in cc))
    go (int k) us i e = let same : us ≡ vs = cc in (i ∙ same, λ n x. absurd cc)
    go (blob b) us i e = let same : us ≡ vs = cc in (i ∙ same, λ n x. absurd cc)
    go (arr u) us i e = let same : us ≡ vs = cc in (i ∙ same, λ n x. absurd cc)
    go (obj u) us i e = let same : us ≡ vs = cc in (i ∙ same, λ n x. absurd cc)

-- ---- what each reader's answer becomes

int_normal : (r : Result ℕ Cause) → ((n : ℕ) → r ≡ Ok n → n < 2 ^ 64) → IfSome (option_of_ok_value (λ n. Some (int n)) r) IsNormal
unfolding IsNormal
int_normal (Ok n) h = h n refl
int_normal (Err c) h = tt

pub blob_value_normal : (b : List ℕ) → IsNormal (blob_or_null b)
unfolding IsNormal
blob_value_normal [] = tt
blob_value_normal (c ∷ cs) = λ e. absurd cc

blob_normal : (r : Result (List ℕ) Cause) → IfSome (option_of_ok_value (λ b. Some (blob_or_null b)) r) IsNormal
blob_normal (Ok b) = blob_value_normal b
blob_normal (Err c) = tt

pub arr_normal : (vs : Plains) → AreNormal vs → IsNormal (array_or_null vs)
unfolding IsNormal
arr_normal none hs = tt
arr_normal (more v vs) hs = (λ e. absurd cc, hs)

obj_of_normal : (vs : Plains) → without_last_nulls vs ≡ vs → AreNormal vs → IsNormal (object_or_null vs)
unfolding IsNormal
obj_of_normal none e hs = tt
obj_of_normal (more v vs) e hs = (λ x. absurd cc, e, hs)

pub obj_normal : (vs : Plains) → AreNormal vs → IsNormal (trimmed_object_or_null vs)
obj_normal vs hs = obj_of_normal (without_last_nulls vs) (trimmed-trimmed vs) (trimmed_normal vs hs)

more_normal : (v : Option Plain) (vs : Option Plains) → IfSome v IsNormal → IfSome vs AreNormal → IfSome (plains_if_first_and_rest v vs) AreNormal
unfolding IsNormal
more_normal (Some v) (Some vs) h hs = (h, hs)
more_normal (Some v) None h hs = tt
more_normal None vs h hs = tt

each_normal : (f : ℕ → Option Plain) → ((w : ℕ) → IfSome (f w) IsNormal) → (ws : List ℕ) → IfSome (plains_of_all_words f ws) AreNormal
unfolding IsNormal
each_normal f h [] = tt
each_normal f h (w ∷ ws) = more_normal (f w) (plains_of_all_words f ws) (h w) (each_normal f h ws)

mutual
  unfolding plain_of IsNormal

  pub plain_of_normal : (p : List ℕ) → AreBytes p → (s : Shape) (w : ℕ) → IfSome (plain_of p s w) IsNormal
  plain_of_normal p h number w = null_plain_if_null_word-all IsNormal w _ tt (int_normal (int_of p w) (λ n. int_of-fits p w n h))
  plain_of_normal p h text w = null_plain_if_null_word-all IsNormal w _ tt (blob_normal (blob_of p w))
  plain_of_normal p h hash w = null_plain_if_null_word-all IsNormal w _ tt (blob_normal (blob_of p w))
  plain_of_normal p h (array s) w = null_plain_if_null_word-all IsNormal w _ tt (run_found IsNormal (λ ws. option_map array_or_null (plains_of_all_words (plain_of p s) ws)) (λ ws. mapped IsNormal AreNormal array_or_null arr_normal (plains_of_all_words (plain_of p s) ws) (each_normal (plain_of p s) (plain_of_normal p h s) ws)) (run_entries_of_kind_in_payload_at_word ARRAY p w))
  plain_of_normal p h (object schema fs) w = null_plain_if_null_word-all IsNormal w _ tt (run_found IsNormal (λ ws. option_map trimmed_object_or_null (plains_of p fs ws)) (λ ws. mapped IsNormal AreNormal trimmed_object_or_null obj_normal (plains_of p fs ws) (plains_of_normal p h fs ws)) (run_entries_of_kind_in_payload_at_word OBJECT p w))

  pub plains_of_normal : (p : List ℕ) → AreBytes p → (fs : Fields) (ws : List ℕ) → IfSome (plains_of p fs ws) AreNormal
  plains_of_normal p h no_fields ws = tt
  plains_of_normal p h (field name s fs) [] = tt
  plains_of_normal p h (field name s fs) (w ∷ ws) = more_normal (plain_of p s w) (plains_of p fs ws) (plain_of_normal p h s w) (plains_of_normal p h fs ws)
