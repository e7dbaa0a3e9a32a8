-- A value on one line is read back.
use Rattle.std.proofs.Common.{◌≡◌, ◌≢◌, ℕ, zero, suc, ◌+◌, ◌*◌, ◌/◌, ◌%◌, ◌^◌, ◌<◌, ◌≤◌, Bool, true, false, cond, eqb, ltb, ◌&&◌, List, [], ◌∷◌, ◌++◌, length, Some, None, option_map, option_and_then, Ok, refl, ap, ◌∙◌, append_assoc, arith, inl, inr, eq-eqb, lit<, lit≤}
use Rattle.std.specs.Prelude.{not, codes, decimal, bytes_eq, slice_index}
use Rattle.std.specs.List.{flat_map, list_all, AllByRecursion}
use Rattle.std.specs.Str.Parse.{IsNumeral}
use Rattle.std.proofs.lemmas.Bool.{cases_lt, eqb-true, lt-ltb, not-true, and_parts, ne_eqb}
use Rattle.std.proofs.lemmas.List.{length-append}
use Rattle.std.proofs.lemmas.List.Concat.{flat_map-cons}
use Rattle.std.proofs.lemmas.Fmt.{decimal_is_IsNumeral}
use Rattle.std.proofs.lemmas.Str.Parse.{digit_at}
use Rattle.hex.specs.Hex.{encode_with, encode_lower, lower_digits}
use Rattle.base_core.proofs.AtName.{own_name}
use Rattle.adb_view.specs.Plain.{Plain, int, blob}
use Rattle.adb_dump.specs.Dump.{is_printable, begins_with_byte, needs_no_quotes, quoted_form_of_byte, bare_or_quoted_text, int_or_null_line, text_or_null_line, hash_or_null_line}
use Rattle.adb_dump.specs.ReadBack.{hex_digit_value_unchecked, quoted_text_read_with_recursion_bound, bytes_of_hex_digits_unchecked, blob_unless_empty, int_of_line_of_unchecked_form, text_of_line_of_unchecked_form, hash_of_line_of_unchecked_form, value_if_printed_as_line}

abbrev pub AreBytes : List ℕ → Type 0
AreBytes b = AllByRecursion (λ c. c < 256) b

pub value_if_printed_as_line-same : (form : Plain → List ℕ) (v : Plain) → value_if_printed_as_line form (form v) (Some v) ≡ Ok v
value_if_printed_as_line-same form v = rw own_name refl

-- ---- numbers

pub int_back : (n : ℕ) → n < 2 ^ 64 → value_if_printed_as_line int_or_null_line (decimal n) (int_of_line_of_unchecked_form (decimal n)) ≡ Ok (int n)
int_back n lt =
    let t : ltb n (2 ^ 64) ≡ true = lt-ltb _ _ lt in
    ap (λ (k : ℕ). value_if_printed_as_line int_or_null_line (decimal n) (cond (ltb k (2 ^ 64)) (Some (int k)) None)) (decimal_is_IsNumeral n lt).1 ∙ rw t (value_if_printed_as_line-same int_or_null_line (int n))

-- ---- hexadecimal digits

-- a test of one digit after another
tested : (test : ℕ → Bool) (xs : List ℕ) (n : ℕ) → test 0 ≡ true → list_all test xs ≡ true → test (slice_index xs n) ≡ true
tested test [] n past all = past
tested test (x ∷ xs) zero past all = (and_parts (test x) (list_all test xs) all).0
tested test (x ∷ xs) (suc n) past all = tested test xs n past (and_parts (test x) (list_all test xs) all).1

pub digit_not_end : (n : ℕ) → not (eqb (slice_index lower_digits n) 0x0a) ≡ true
digit_not_end n = tested (λ c. not (eqb c 0x0a)) lower_digits n refl refl

digit_not_n : (n : ℕ) → not (eqb (slice_index lower_digits n) 0x6e) ≡ true
digit_not_n n = tested (λ c. not (eqb c 0x6e)) lower_digits n refl refl

-- the first n digits are read back
abbrev all_back : ℕ → Bool
all_back zero = true
all_back (suc n) = eqb (hex_digit_value_unchecked (slice_index lower_digits n)) n && all_back n

back_at : (n k : ℕ) → all_back n ≡ true → k < n → hex_digit_value_unchecked (slice_index lower_digits k) ≡ k
back_at zero k h lt = absurd (omega arith)
back_at (suc n) k h lt =
    let a = and_parts (eqb (hex_digit_value_unchecked (slice_index lower_digits n)) n) (all_back n) h in
    elim (cases_lt k n) [
      | inl below ↦ back_at n k a.1 below
      | inr top ↦ let e : k ≡ n = omega arith in rw e (eqb-true (hex_digit_value_unchecked (slice_index lower_digits n)) n a.0)
    ]

pub hex_digit_value_unchecked-digit : (n : ℕ) → n < 16 → hex_digit_value_unchecked (slice_index lower_digits n) ≡ n
hex_digit_value_unchecked-digit n lt = back_at 16 n refl lt

hex_byte_back : (c : ℕ) → c < 256 → hex_digit_value_unchecked (slice_index lower_digits (c / 16)) * 16 + hex_digit_value_unchecked (slice_index lower_digits (c % 16)) ≡ c
hex_byte_back c lt =
    let h : hex_digit_value_unchecked (slice_index lower_digits (c / 16)) ≡ c / 16 = hex_digit_value_unchecked-digit (c / 16) (omega arith) in
    let l : hex_digit_value_unchecked (slice_index lower_digits (c % 16)) ≡ c % 16 = hex_digit_value_unchecked-digit (c % 16) (omega arith) in
    rw (h, l) (omega arith)

bytes_of_hex_digits_unchecked-pairs : (b : List ℕ) → AreBytes b → bytes_of_hex_digits_unchecked (encode_lower b) ≡ b
unfolding encode_with
bytes_of_hex_digits_unchecked-pairs [] fits = refl
bytes_of_hex_digits_unchecked-pairs (c ∷ cs) fits =
    ap (λ (x : ℕ). x ∷ bytes_of_hex_digits_unchecked (encode_lower cs)) (hex_byte_back c fits.0) ∙ ap (λ (x : List ℕ). c ∷ x) (bytes_of_hex_digits_unchecked-pairs cs fits.1)

made_blob-is : (b : List ℕ) → b ≢ [] → blob_unless_empty b ≡ Some (blob b)
made_blob-is [] ne = absurd (ne refl)
made_blob-is (c ∷ cs) ne = refl

pub hash_back : (b : List ℕ) → AreBytes b → b ≢ [] → value_if_printed_as_line hash_or_null_line (encode_lower b) (hash_of_line_of_unchecked_form (encode_lower b)) ≡ Ok (blob b)
hash_back b fits ne = ap (λ (x : List ℕ). value_if_printed_as_line hash_or_null_line (encode_lower b) (blob_unless_empty x)) (bytes_of_hex_digits_unchecked-pairs b fits) ∙ ap (value_if_printed_as_line hash_or_null_line (encode_lower b)) (made_blob-is b ne) ∙ value_if_printed_as_line-same hash_or_null_line (blob b)

-- ---- texts

-- one escape in front of what follows is read as its byte
escaped-len : (c : ℕ) → 0 < length (quoted_form_of_byte c)
unfolding encode_with
escaped-len c = by_test (eqb c 10) (eqb c 92) (eqb c 34) (is_printable c)
  where
    by_test : (b1 b2 b3 b4 : Bool) → 0 < length (cond b1 (92 ∷ 110 ∷ []) (cond b2 (92 ∷ 92 ∷ []) (cond b3 (92 ∷ 34 ∷ []) (cond b4 (c ∷ []) (codes "\\x" ++ encode_lower (c ∷ []))))))
    by_test true b2 b3 b4 = lit< tt
    by_test false true b3 b4 = lit< tt
    by_test false false true b4 = lit< tt
    by_test false false false true = lit< tt
    by_test false false false false = lit< tt

pub unquoted-escaped : (n c : ℕ) (more : List ℕ) → c < 256 → quoted_text_read_with_recursion_bound (suc n) (quoted_form_of_byte c ++ more) ≡ option_map (λ b. c ∷ b) (quoted_text_read_with_recursion_bound n more)
unfolding encode_with
unquoted-escaped n c more lt = go (eqb c 10) refl
  where
    plain : eqb c 92 ≡ false → eqb c 34 ≡ false → (b : Bool) → is_printable c ≡ b → quoted_text_read_with_recursion_bound (suc n) (cond b (c ∷ []) (codes "\\x" ++ encode_lower (c ∷ [])) ++ more) ≡ option_map (λ b. c ∷ b) (quoted_text_read_with_recursion_bound n more)
    plain e f true p = rw (f, e) refl
    plain e f false p = ap (λ (x : ℕ). option_map (λ b. x ∷ b) (quoted_text_read_with_recursion_bound n more)) (hex_byte_back c lt)

    quote : eqb c 92 ≡ false → (b : Bool) → eqb c 34 ≡ b → quoted_text_read_with_recursion_bound (suc n) (cond b (92 ∷ 34 ∷ []) (cond (is_printable c) (c ∷ []) (codes "\\x" ++ encode_lower (c ∷ []))) ++ more) ≡ option_map (λ b. c ∷ b) (quoted_text_read_with_recursion_bound n more)
    quote e true f = let is : c ≡ 34 = eqb-true _ _ f in rw is refl
    quote e false f = plain e f (is_printable c) refl

    back : (b : Bool) → eqb c 92 ≡ b → quoted_text_read_with_recursion_bound (suc n) (cond b (92 ∷ 92 ∷ []) (cond (eqb c 34) (92 ∷ 34 ∷ []) (cond (is_printable c) (c ∷ []) (codes "\\x" ++ encode_lower (c ∷ [])))) ++ more) ≡ option_map (λ b. c ∷ b) (quoted_text_read_with_recursion_bound n more)
    back true e = let is : c ≡ 92 = eqb-true _ _ e in rw is refl
    back false e = quote e (eqb c 34) refl

    go : (b : Bool) → eqb c 10 ≡ b → quoted_text_read_with_recursion_bound (suc n) (cond b (92 ∷ 110 ∷ []) (cond (eqb c 92) (92 ∷ 92 ∷ []) (cond (eqb c 34) (92 ∷ 34 ∷ []) (cond (is_printable c) (c ∷ []) (codes "\\x" ++ encode_lower (c ∷ []))))) ++ more) ≡ option_map (λ b. c ∷ b) (quoted_text_read_with_recursion_bound n more)
    go true e = let is : c ≡ 10 = eqb-true _ _ e in rw is refl
    go false e = back (eqb c 92) refl

escapes-len : (b : List ℕ) → length b ≤ length (flat_map quoted_form_of_byte b)
escapes-len [] = lit≤ tt
escapes-len (c ∷ cs) = omega (arith, ap length (flat_map-cons quoted_form_of_byte c cs), length-append (quoted_form_of_byte c) (flat_map quoted_form_of_byte cs), escapes-len cs, escaped-len c)

unquoted-all : (b : List ℕ) (n : ℕ) → AreBytes b → length b < n → quoted_text_read_with_recursion_bound n (flat_map quoted_form_of_byte b ++ 34 ∷ []) ≡ Some b
unquoted-all b zero fits lt = absurd (omega arith)
unquoted-all [] (suc n) fits lt = refl
unquoted-all (c ∷ cs) (suc n) fits lt =
    let regroup : flat_map quoted_form_of_byte (c ∷ cs) ++ 34 ∷ [] ≡ quoted_form_of_byte c ++ (flat_map quoted_form_of_byte cs ++ 34 ∷ []) = ap (λ (x : List ℕ). x ++ 34 ∷ []) (flat_map-cons quoted_form_of_byte c cs) ∙ append_assoc (quoted_form_of_byte c) (flat_map quoted_form_of_byte cs) (34 ∷ []) in
    ap (quoted_text_read_with_recursion_bound (suc n)) regroup ∙ unquoted-escaped n c (flat_map quoted_form_of_byte cs ++ 34 ∷ []) fits.0 ∙ ap (option_map (λ b. c ∷ b)) (unquoted-all cs n fits.1 (omega arith))

pub text_back : (b : List ℕ) → AreBytes b → b ≢ [] → value_if_printed_as_line text_or_null_line (bare_or_quoted_text b) (text_of_line_of_unchecked_form (bare_or_quoted_text b)) ≡ Ok (blob b)
text_back b fits ne = ap (value_if_printed_as_line text_or_null_line (bare_or_quoted_text b)) (go (needs_no_quotes b) refl) ∙ value_if_printed_as_line-same text_or_null_line (blob b)
  where
    go : (t : Bool) → needs_no_quotes b ≡ t → text_of_line_of_unchecked_form (cond t b (34 ∷ (flat_map quoted_form_of_byte b ++ 34 ∷ []))) ≡ Some (blob b)
    go true e =
        let four = and_parts _ _ e in
        let three = and_parts _ _ four.0 in
        let quote : begins_with_byte 34 b ≡ false = not-true _ three.1 in
        rw quote (made_blob-is b ne)
    go false e =
        let q : List ℕ = flat_map quoted_form_of_byte b ++ 34 ∷ [] in
        ap (option_and_then blob_unless_empty) (unquoted-all b (suc (length q)) fits (omega (arith, escapes-len b, length-append (flat_map quoted_form_of_byte b) (34 ∷ [])))) ∙ made_blob-is b ne

-- no value has the form `null`
begins_otherwise : (c : ℕ) (cs : List ℕ) → c ≢ 110 → bytes_eq (c ∷ cs) (codes "null") ≡ false
begins_otherwise c cs ne = let t : eqb c 110 ≡ false = ne_eqb c 110 ne in rw t refl

pub text_not_null : (b : List ℕ) → bytes_eq (bare_or_quoted_text b) (codes "null") ≡ false
text_not_null b = go (needs_no_quotes b) refl
  where
    go : (t : Bool) → needs_no_quotes b ≡ t → bytes_eq (cond t b (34 ∷ (flat_map quoted_form_of_byte b ++ 34 ∷ []))) (codes "null") ≡ false
    go true e = not-true _ (and_parts _ _ e).1
    go false e = refl

pub hash_not_null : (b : List ℕ) → b ≢ [] → bytes_eq (encode_lower b) (codes "null") ≡ false
unfolding encode_with
hash_not_null [] ne = absurd (ne refl)
hash_not_null (c ∷ cs) ne =
    begins_otherwise (slice_index lower_digits (c / 16)) (slice_index lower_digits (c % 16) ∷ encode_lower cs) (λ e. let t = eq-eqb _ _ e in let f = not-true _ (digit_not_n (c / 16)) in absurd cc)

pub int_not_null : (n : ℕ) → n < 2 ^ 64 → bytes_eq (decimal n) (codes "null") ≡ false
int_not_null n lt = first (decimal n) (decimal_is_IsNumeral n lt).0
  where
    lit0 : (ds : List ℕ) → 0 < suc (length ds)
    lit0 ds = omega arith

    first : (ds : List ℕ) → IsNumeral 10 ds → bytes_eq ds (codes "null") ≡ false
    first [] h = absurd (omega (arith, h.0))
    first (d ∷ ds) h = let r = digit_at (d ∷ ds) 0 h.1 (lit0 ds) in begins_otherwise d ds (λ e. absurd (omega arith))
