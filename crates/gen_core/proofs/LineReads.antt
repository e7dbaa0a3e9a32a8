-- A line is read as a value exactly if it is the form of one.
use Rattle.std.proofs.Common.{◌≡◌, ◌≢◌, ℕ, zero, suc, ◌+◌, ◌*◌, ◌/◌, ◌%◌, ◌^◌, ◌<◌, ◌≤◌, Bool, true, false, cond, eqb, ltb, leb, ◌&&◌, List, [], ◌∷◌, ◌++◌, length, drop, Option, Some, None, option_map, option_and_then, Ok, Err, refl, sym, ap, subst, ◌∙◌, append_assoc, arith, inl, inr, ◌⊎◌, lit<}
use Rattle.std.specs.Prelude.{codes, decimal, bytes_eq, not, slice_index}
use Rattle.std.specs.List.{flat_map, list_all}
use Rattle.std.specs.Str.Parse.{digits_value}
use Rattle.std.proofs.lemmas.Bool.{cases_lt, eqb-true, leb-true, ltb-true, and_parts, ne_eqb}
use Rattle.std.proofs.lemmas.List.Concat.{flat_map-cons}
use Rattle.hex.specs.Hex.{encode_with, encode_lower, lower_digits}
use Rattle.base_core.proofs.AtName.{other_name}
use Rattle.adb_view.specs.Plain.{Plain, int, blob, number, text, hash}
use Rattle.adb_dump.specs.Dump.{Line, is_printable, begins_with_byte, needs_no_quotes, quoted_form_of_byte, bare_or_quoted_text, int_or_null_line, text_or_null_line, hash_or_null_line}
use Rattle.adb_dump.specs.ReadBack.{ResultOrBadLine, hex_digit_value_unchecked, quoted_text_read_with_recursion_bound, bytes_of_hex_digits_unchecked, blob_unless_empty, int_of_line_of_unchecked_form, text_of_line_of_unchecked_form, hash_of_line_of_unchecked_form, value_if_printed_as_line}
use Rattle.adb_dump.proofs.Booleans.{chosen}
use Rattle.adb_dump.proofs.LineBack.{AreBytes, int_back, text_back, hash_back, hex_digit_value_unchecked-digit, unquoted-escaped}
use Rattle.adb_dump.proofs.ReadOnly.{made_blob_some}
use Rattle.gen_core.specs.Reads.{IsFormOf, line_read}
use Rattle.gen_core.proofs.Escapes.{quoted_rest}

-- ---- integers

pub number_read : (n : ℕ) (l : Line) → n < 2 ^ 64 → decimal n ≡ l → line_read number l ≡ Ok (int n)
number_read n l lt e = subst (λ (x : Line). line_read number x ≡ Ok (int n)) e (int_back n lt)

pub number_not_read : (l : Line) → ((n : ℕ) → n < 2 ^ 64 → decimal n ≢ l) → line_read number l ≡ Err 0
number_not_read l other = go (ltb (digits_value 10 l) (2 ^ 64)) refl
  where
    n : ℕ
    n = digits_value 10 l

    go : (b : Bool) → ltb n (2 ^ 64) ≡ b → value_if_printed_as_line int_or_null_line l (cond b (Some (int n)) None) ≡ Err 0
    go false e = refl
    go true e = let f : bytes_eq (decimal n) l ≡ false = other_name (decimal n) l (other n (ltb-true n (2 ^ 64) e)) in rw f refl

-- ---- what has a form is of bytes

past_digits : (n : ℕ) → 16 ≤ n → slice_index lower_digits n ≡ 0
past_digits n le = past lower_digits n le
  where
    past : (xs : List ℕ) (n : ℕ) → length xs ≤ n → slice_index xs n ≡ 0
    past [] n le = refl
    past (x ∷ xs) zero le = absurd (omega arith)
    past (x ∷ xs) (suc n) le = past xs n (omega (arith, le))

-- the digits of a number that is no byte are those of a lesser one
over_byte : (c : ℕ) → 256 ≤ c → hex_digit_value_unchecked (slice_index lower_digits (c / 16)) * 16 + hex_digit_value_unchecked (slice_index lower_digits (c % 16)) ≡ c % 16
over_byte c le =
    let high : slice_index lower_digits (c / 16) ≡ 0 = past_digits (c / 16) (omega (arith, le)) in
    let low : hex_digit_value_unchecked (slice_index lower_digits (c % 16)) ≡ c % 16 = hex_digit_value_unchecked-digit (c % 16) (omega arith) in
    ap (λ (d : ℕ). hex_digit_value_unchecked d * 16 + hex_digit_value_unchecked (slice_index lower_digits (c % 16))) high ∙ ap (λ (d : ℕ). 0 * 16 + d) low ∙ omega arith

pub hash_bytes : (b : List ℕ) → bytes_of_hex_digits_unchecked (encode_lower b) ≡ b → AreBytes b
unfolding encode_with
hash_bytes [] e = tt
hash_bytes (c ∷ cs) e =
    let value = hex_digit_value_unchecked (slice_index lower_digits (c / 16)) * 16 + hex_digit_value_unchecked (slice_index lower_digits (c % 16)) in
    let head : value ≡ c = heads value c (bytes_of_hex_digits_unchecked (encode_lower cs)) cs e in
    elim (cases_lt c 256) [
      | inl less ↦ (less, hash_bytes cs (tails value c (bytes_of_hex_digits_unchecked (encode_lower cs)) cs e))
      | inr more ↦ absurd (let o = over_byte c (omega (arith, more)) in omega (arith, o, head, more))
    ]
  where
    heads : (x y : ℕ) (xs ys : List ℕ) → x ∷ xs ≡ y ∷ ys → x ≡ y
    heads x y xs ys e = cc

    tails : (x y : ℕ) (xs ys : List ℕ) → x ∷ xs ≡ y ∷ ys → xs ≡ ys
    tails x y xs ys e = cc

-- a number that is no byte, between quotes
over_escape : (c : ℕ) → 256 ≤ c → quoted_form_of_byte c ≡ codes "\\x" ++ encode_lower (c ∷ [])
over_escape c le =
    let a : eqb c 0x0a ≡ false = ne_eqb c 0x0a (λ e. omega (arith, e, le)) in
    let b : eqb c 0x5c ≡ false = ne_eqb c 0x5c (λ e. omega (arith, e, le)) in
    let d : eqb c 0x22 ≡ false = ne_eqb c 0x22 (λ e. omega (arith, e, le)) in
    let p : is_printable c ≡ false = unprintable (is_printable c) refl in
    rw (a, b, d, p) refl
  where
    unprintable : (t : Bool) → is_printable c ≡ t → t ≡ false
    unprintable false e = refl
    unprintable true e = let h : c ≤ 0x7e = leb-true _ _ (and_parts (leb 0x20 c) (leb c 0x7e) e).1 in absurd (omega (arith, h, le))

mapped : (c : ℕ) (o : Option (List ℕ)) (d : ℕ) (ds : List ℕ) → option_map (λ (b : List ℕ). c ∷ b) o ≡ Some (d ∷ ds) → (c ≡ d) × (o ≡ Some ds)
mapped c None d ds e = absurd cc
mapped c (Some b) d ds e = let f : c ∷ b ≡ d ∷ ds = cc in (cc, cc)

over : (n c : ℕ) (more : List ℕ) → 256 ≤ c → option_map (λ (b : List ℕ). (hex_digit_value_unchecked (slice_index lower_digits (c / 16)) * 16 + hex_digit_value_unchecked (slice_index lower_digits (c % 16))) ∷ b) (quoted_text_read_with_recursion_bound n more) ≡ quoted_text_read_with_recursion_bound (suc n) (quoted_form_of_byte c ++ more)
unfolding encode_with
over n c more le = sym (ap (λ (e : List ℕ). quoted_text_read_with_recursion_bound (suc n) (e ++ more)) (over_escape c le))

quoted_bytes : (b : List ℕ) (n : ℕ) → quoted_text_read_with_recursion_bound n (quoted_rest b) ≡ Some b → AreBytes b
quoted_bytes [] n e = tt
quoted_bytes (c ∷ cs) zero e = absurd cc
quoted_bytes (c ∷ cs) (suc n) e =
    let there : quoted_rest (c ∷ cs) ≡ quoted_form_of_byte c ++ quoted_rest cs = ap (λ (x : List ℕ). x ++ codes "\"") (flat_map-cons quoted_form_of_byte c cs) ∙ append_assoc (quoted_form_of_byte c) (flat_map quoted_form_of_byte cs) (codes "\"") in
    elim (cases_lt c 256) [
      | inl less ↦
          let r = mapped c (quoted_text_read_with_recursion_bound n (quoted_rest cs)) c cs (sym (unquoted-escaped n c (quoted_rest cs) less) ∙ ap (quoted_text_read_with_recursion_bound (suc n)) (sym there) ∙ e) in
          (less, quoted_bytes cs n r.1)
      | inr more ↦
          let le : 256 ≤ c = omega (arith, more) in
          let value = hex_digit_value_unchecked (slice_index lower_digits (c / 16)) * 16 + hex_digit_value_unchecked (slice_index lower_digits (c % 16)) in
          let r = mapped value (quoted_text_read_with_recursion_bound n (quoted_rest cs)) c cs (over n c (quoted_rest cs) le ∙ ap (quoted_text_read_with_recursion_bound (suc n)) (sym there) ∙ e) in
          absurd (let o = over_byte c le in omega (arith, o, r.0, le))
    ]

bare_bytes : (b : List ℕ) → list_all is_printable b ≡ true → AreBytes b
bare_bytes [] e = tt
bare_bytes (c ∷ cs) e =
    let a = and_parts (is_printable c) (list_all is_printable cs) e in
    let le : c ≤ 0x7e = leb-true _ _ (and_parts (leb 0x20 c) (leb c 0x7e) a.0).1 in
    (omega (arith, le), bare_bytes cs a.1)

blob_some : (b c : List ℕ) → blob_unless_empty b ≡ Some (blob c) → b ≡ c
blob_some [] c e = absurd cc
blob_some (x ∷ xs) c e = cc

then_some : (o : Option (List ℕ)) (c : List ℕ) → option_and_then blob_unless_empty o ≡ Some (blob c) → o ≡ Some c
then_some None c e = absurd cc
then_some (Some b) c e = ap Some (blob_some b c e)

pub text_bytes : (b l : List ℕ) → text_of_line_of_unchecked_form l ≡ Some (blob b) → bare_or_quoted_text b ≡ l → AreBytes b
text_bytes b l r e = go (needs_no_quotes b) refl
  where
    go : (t : Bool) → needs_no_quotes b ≡ t → AreBytes b
    go true bare = bare_bytes b (and_parts _ _ (and_parts _ _ (and_parts _ _ (and_parts _ _ bare).0).0).0).0
    go false bare =
        let is : bare_or_quoted_text b ≡ 34 ∷ quoted_rest b = rw bare refl in
        let read : text_of_line_of_unchecked_form (34 ∷ quoted_rest b) ≡ Some (blob b) = ap text_of_line_of_unchecked_form (sym is ∙ e) ∙ r in
        quoted_bytes b (length (34 ∷ quoted_rest b)) (then_some _ b read)

-- ---- texts and hashes

-- a blob whose form a line is, or no line of a blob
no_blob : (form : List ℕ → Line) (l : Line) (o : Option Plain) (line : Plain → Line) → ((b : List ℕ) → line (blob b) ≡ form b) → ((v : Plain) → o ≡ Some v → (b : List ℕ) × (v ≡ blob b) × (b ≢ []) × (form b ≡ l → AreBytes b)) → IsFormOf form false [] l → value_if_printed_as_line line l o ≡ Err 0
no_blob form l None line k h other = refl
no_blob form l (Some v) line k h other =
    let (b, is, ne, fits) = h v refl in
    let differ : line v ≢ l = λ e. let f = sym (k b) ∙ ap line (sym is) ∙ e in other b (fits f) ne f in
    let f : bytes_eq (line v) l ≡ false = other_name (line v) l differ in
    rw f refl

pub some_text : (l : Line) (v : Plain) → text_of_line_of_unchecked_form l ≡ Some v → (b : List ℕ) × (v ≡ blob b) × (b ≢ [])
some_text l v e =
    elim (chosen (begins_with_byte 0x22 l) _ _ _ e) [
      | inl x ↦ quoted (quoted_text_read_with_recursion_bound (length l) (drop 1 l)) x.1
      | inr x ↦ let m = made_blob_some l v x.1 in (l, m.0, m.1)
    ]
  where
    quoted : (o : Option (List ℕ)) → option_and_then blob_unless_empty o ≡ Some v → (b : List ℕ) × (v ≡ blob b) × (b ≢ [])
    quoted None e = absurd cc
    quoted (Some b) e = let m = made_blob_some b v e in (b, m.0, m.1)

pub text_taken : (b : List ℕ) (l : Line) → AreBytes b → IsFormOf bare_or_quoted_text true b l → line_read text l ≡ Ok (blob b)
text_taken b l fits is = subst (λ (x : Line). line_read text x ≡ Ok (blob b)) is.1 (text_back b fits is.0)

pub text_not_taken : (b : List ℕ) (l : Line) → IsFormOf bare_or_quoted_text false b l → line_read text l ≡ Err 0
text_not_taken b l other =
    no_blob bare_or_quoted_text l (text_of_line_of_unchecked_form l) text_or_null_line (λ b. refl)
    (λ v e. let (b, is, ne) = some_text l v e in (b, is, ne, text_bytes b l (e ∙ ap Some is))) other

pub hash_taken : (b : List ℕ) (l : Line) → AreBytes b → IsFormOf encode_lower true b l → line_read hash l ≡ Ok (blob b)
hash_taken b l fits is = subst (λ (x : Line). line_read hash x ≡ Ok (blob b)) is.1 (hash_back b fits is.0)

pub hash_not_taken : (b : List ℕ) (l : Line) → IsFormOf encode_lower false b l → line_read hash l ≡ Err 0
hash_not_taken b l other =
    no_blob encode_lower l (hash_of_line_of_unchecked_form l) hash_or_null_line (λ b. refl)
    (λ v e. let m = made_blob_some (bytes_of_hex_digits_unchecked l) v e in (bytes_of_hex_digits_unchecked l, m.0, m.1, λ f. hash_bytes (bytes_of_hex_digits_unchecked l) (ap bytes_of_hex_digits_unchecked f))) other
