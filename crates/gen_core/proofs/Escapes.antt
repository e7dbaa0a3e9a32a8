-- The bytes that characters write: each byte has one form, and no other form gives it.
use Rattle.std.proofs.Common.{◌≡◌, ◌≢◌, ℕ, zero, suc, ◌+◌, ◌-◌, ◌*◌, ◌/◌, ◌%◌, ◌<◌, ◌≤◌, Bool, true, false, cond, eqb, leb, ◌&&◌, List, [], ◌∷◌, ◌++◌, length, get_or, Option, Some, None, lit<, refl, sym, ap, subst, ◌∙◌, append_assoc, arith, inl, inr, ◌⊎◌}
use Rattle.std.specs.Prelude.{codes, not, ◌||◌, slice_index, option_map}
use Rattle.std.specs.List.{flat_map, AllByRecursion}
use Rattle.std.proofs.lemmas.Bool.{cases_lt, eqb-true, leb-true, not-true, and_parts}
use Rattle.std.proofs.lemmas.List.{append-nil}
use Rattle.std.proofs.lemmas.List.Concat.{flat_map-cons}
use Rattle.hex.specs.Hex.{encode_with, encode_lower, lower_digits}
use Rattle.adb_dump.specs.Dump.{is_printable, quoted_form_of_byte, begins_with_byte, needs_no_quotes, bare_or_quoted_text}
use Rattle.adb_dump.proofs.Booleans.{chosen}
use Rattle.adb_dump.proofs.LineBack.{AreBytes}
use Rattle.gen_core.specs.Reads.{IsFormOf}
use Rattle.gen_core.specs.Quoted.{FirstByte, hex_digit_value, byte_of_digits, hex_byte_at, if_only_hex, escaped_at, unescaped_at}

-- ---- a test of each number below another

abbrev all_below : (ℕ → Bool) → ℕ → Bool
all_below test zero = true
all_below test (suc n) = test n && all_below test n

below : (test : ℕ → Bool) (n k : ℕ) → all_below test n ≡ true → k < n → test k ≡ true
below test zero k h lt = absurd (omega arith)
below test (suc n) k h lt =
    let a = and_parts (test n) (all_below test n) h in
    elim (cases_lt k n) [
      | inl less ↦ below test n k a.1 less
      | inr top ↦ let e : k ≡ n = omega arith in subst (λ (x : ℕ). test x ≡ true) (sym e) a.0
    ]

-- ---- digits

abbrev is_value : Option ℕ → ℕ → Bool
is_value None n = false
is_value (Some m) n = eqb m n

is_value-true : (o : Option ℕ) (n : ℕ) → is_value o n ≡ true → o ≡ Some n
is_value-true None n e = absurd cc
is_value-true (Some m) n e = ap Some (eqb-true m n e)

pub digit_back : (n : ℕ) → n < 16 → hex_digit_value (slice_index lower_digits n) ≡ Some n
digit_back n lt = is_value-true (hex_digit_value (slice_index lower_digits n)) n (below (λ n. is_value (hex_digit_value (slice_index lower_digits n)) n) 16 n refl lt)

low_digit : (n : ℕ) → n < 10 → slice_index lower_digits n ≡ n + 48
low_digit n lt = eqb-true (slice_index lower_digits n) (n + 48) (below (λ n. eqb (slice_index lower_digits n) (n + 48)) 10 n refl lt)

high_digit : (n : ℕ) → n < 6 → slice_index lower_digits (n + 10) ≡ n + 97
high_digit n lt = eqb-true (slice_index lower_digits (n + 10)) (n + 97) (below (λ n. eqb (slice_index lower_digits (n + 10)) (n + 97)) 6 n refl lt)

pub digit_some : (c n : ℕ) → hex_digit_value c ≡ Some n → (n < 16) × (slice_index lower_digits n ≡ c)
digit_some c n e =
    elim (chosen (leb 0x30 c && leb c 0x39) _ _ _ e) [
      | inl x ↦
          let t = and_parts (leb 0x30 c) (leb c 0x39) x.0 in
          let low : 0x30 ≤ c = leb-true _ _ t.0 in
          let high : c ≤ 0x39 = leb-true _ _ t.1 in
          let is : c - 0x30 ≡ n = (let f = x.1 in cc) in
          let small : n < 10 = omega (arith, is, low, high) in
          let back : n + 48 ≡ c = omega (arith, is, low, high) in
          (omega (arith, small), low_digit n small ∙ back)
      | inr x ↦
          elim (chosen (leb 0x61 c && leb c 0x66) _ _ _ x.1) [
            | inl y ↦
                let t = and_parts (leb 0x61 c) (leb c 0x66) y.0 in
                let low : 0x61 ≤ c = leb-true _ _ t.0 in
                let high : c ≤ 0x66 = leb-true _ _ t.1 in
                let is : c - 0x57 ≡ n = (let f = y.1 in cc) in
                let m : ℕ = n - 10 in
                let whole : m + 10 ≡ n = omega (arith, is, low, high) in
                let small : m < 6 = omega (arith, is, low, high) in
                let back : m + 97 ≡ c = omega (arith, is, low, high) in
                (omega (arith, is, low, high), ap (slice_index lower_digits) (sym whole) ∙ high_digit m small ∙ back)
            | inr y ↦ absurd (let f = y.1 in cc)
          ]
    ]

-- ---- two digits

pub pair_back : (b : ℕ) (cs : List ℕ) → b < 256 → hex_byte_at (encode_lower (b ∷ []) ++ cs) ≡ Some (b, cs)
unfolding encode_with
pair_back b cs lt =
    let high : hex_digit_value (slice_index lower_digits (b / 16)) ≡ Some (b / 16) = digit_back (b / 16) (omega arith) in
    let low : hex_digit_value (slice_index lower_digits (b % 16)) ≡ Some (b % 16) = digit_back (b % 16) (omega arith) in
    let whole : b / 16 * 16 + b % 16 ≡ b = omega arith in
    ap (λ (o : Option ℕ). byte_of_digits o (hex_digit_value (slice_index lower_digits (b % 16))) cs) high
    ∙ ap (λ (o : Option ℕ). byte_of_digits (Some (b / 16)) o cs) low
    ∙ ap (λ (n : ℕ). let b : FirstByte = (n, cs) in Some b) whole

digits_some : (o p : Option ℕ) (cs : List ℕ) (b : FirstByte) → byte_of_digits o p cs ≡ Some b → (x : ℕ) × (y : ℕ) × (o ≡ Some x) × (p ≡ Some y) × (b ≡ (x * 16 + y, cs))
digits_some None p cs b e = absurd cc
digits_some (Some x) None cs b e = absurd cc
digits_some (Some x) (Some y) cs b e = (x, y, refl, refl, cc)

pub pair_some : (cs : List ℕ) (b : FirstByte) → hex_byte_at cs ≡ Some b → (encode_lower (b.0 ∷ []) ++ b.1 ≡ cs) × (b.0 < 256)
unfolding encode_with
pair_some [] b e = absurd cc
pair_some (h ∷ []) b e = absurd cc
pair_some (h ∷ l ∷ cs) b e =
    let (x, y, high, low, is) = digits_some (hex_digit_value h) (hex_digit_value l) cs b e in
    let a = digit_some h x high in
    let c = digit_some l y low in
    let front : (x * 16 + y) / 16 ≡ x = omega (arith, a.0, c.0) in
    let back : (x * 16 + y) % 16 ≡ y = omega (arith, a.0, c.0) in
    let same : slice_index lower_digits ((x * 16 + y) / 16) ∷ slice_index lower_digits ((x * 16 + y) % 16) ∷ cs ≡ h ∷ l ∷ cs =
    ap (λ (n : ℕ). slice_index lower_digits n ∷ slice_index lower_digits ((x * 16 + y) % 16) ∷ cs) front ∙ ap (λ (n : ℕ). slice_index lower_digits x ∷ slice_index lower_digits n ∷ cs) back ∙ ap (λ (n : ℕ). n ∷ slice_index lower_digits y ∷ cs) a.1 ∙ ap (λ (n : ℕ). h ∷ n ∷ cs) c.1 in
    let small : x * 16 + y < 256 = omega (arith, a.0, c.0) in
    subst (λ (r : FirstByte). (encode_lower (r.0 ∷ []) ++ r.1 ≡ h ∷ l ∷ cs) × (r.0 < 256)) (sym is) (same, small)

-- ---- a byte between quotes

pub escape_back : (c : ℕ) (more : List ℕ) → c < 256 → unescaped_at (quoted_form_of_byte c ++ more) ≡ Some (c, more)
escape_back c more lt = go (eqb c 10) refl
  where
    digits : List ℕ
    digits = codes "\\x" ++ encode_lower (c ∷ [])

    plain : eqb c 10 ≡ false → eqb c 92 ≡ false → eqb c 34 ≡ false → (b : Bool) → is_printable c ≡ b → unescaped_at (cond b (c ∷ []) (codes "\\x" ++ encode_lower (c ∷ [])) ++ more) ≡ Some (c, more)
    plain d e f true p = rw (e, f, p) refl
    plain d e f false p = ap if_only_hex (pair_back c more lt) ∙ rw (d, p) refl

    quote : eqb c 10 ≡ false → eqb c 92 ≡ false → (b : Bool) → eqb c 34 ≡ b → unescaped_at (cond b (92 ∷ 34 ∷ []) (cond (is_printable c) (c ∷ []) (codes "\\x" ++ encode_lower (c ∷ []))) ++ more) ≡ Some (c, more)
    quote d e true f = let is : c ≡ 34 = eqb-true _ _ f in rw is refl
    quote d e false f = plain d e f (is_printable c) refl

    back : eqb c 10 ≡ false → (b : Bool) → eqb c 92 ≡ b → unescaped_at (cond b (92 ∷ 92 ∷ []) (cond (eqb c 34) (92 ∷ 34 ∷ []) (cond (is_printable c) (c ∷ []) (codes "\\x" ++ encode_lower (c ∷ [])))) ++ more) ≡ Some (c, more)
    back d true e = let is : c ≡ 92 = eqb-true _ _ e in rw is refl
    back d false e = quote d e (eqb c 34) refl

    go : (b : Bool) → eqb c 10 ≡ b → unescaped_at (cond b (92 ∷ 110 ∷ []) (cond (eqb c 92) (92 ∷ 92 ∷ []) (cond (eqb c 34) (92 ∷ 34 ∷ []) (cond (is_printable c) (c ∷ []) (codes "\\x" ++ encode_lower (c ∷ []))))) ++ more) ≡ Some (c, more)
    go true e = let is : c ≡ 10 = eqb-true _ _ e in rw is refl
    go false e = back e (eqb c 92) refl

-- what a byte that came first is
abbrev IsFirst : List ℕ → FirstByte → Type 0
IsFirst cs b = (quoted_form_of_byte b.0 ++ b.1 ≡ cs) × (b.0 < 256)

shorter_some : (o : Option FirstByte) (b : FirstByte) → if_only_hex o ≡ Some b → (o ≡ Some b) × (eqb b.0 10 ≡ false) × (is_printable b.0 ≡ false)
shorter_some None b e = absurd cc
shorter_some (Some a) b e =
    elim (chosen (eqb a.0 10 || is_printable a.0) _ _ _ e) [
      | inl x ↦ absurd (let f = x.1 in cc)
      | inr x ↦
          let f = x.1 in
          let same : a ≡ b = cc in
          let t = neither (eqb a.0 10) (is_printable a.0) x.0 in
          (ap Some same, subst (λ (r : FirstByte). eqb r.0 10 ≡ false) same t.0, subst (λ (r : FirstByte). is_printable r.0 ≡ false) same t.1)
    ]
  where
    neither : (a b : Bool) → (a || b) ≡ false → (a ≡ false) × (b ≡ false)
    neither true b e = absurd cc
    neither false b e = (refl, e)

hex_first : (cs : List ℕ) (b : FirstByte) → if_only_hex (hex_byte_at cs) ≡ Some b → IsFirst (92 ∷ 120 ∷ cs) b
hex_first cs b e =
    let (some, line, printable) = shorter_some (hex_byte_at cs) b e in
    let is = pair_some cs b some in
    let slash : eqb b.0 92 ≡ false = unprintable b.0 92 printable refl in
    let quote : eqb b.0 34 ≡ false = unprintable b.0 34 printable refl in
    (rw (line, slash, quote, printable) (ap (λ (l : List ℕ). 92 ∷ 120 ∷ l) is.0), is.1)
  where
    unprintable : (c d : ℕ) → is_printable c ≡ false → is_printable d ≡ true → eqb c d ≡ false
    unprintable c d e f = go (eqb c d) refl
      where
        go : (b : Bool) → eqb c d ≡ b → b ≡ false
        go true t = let same : c ≡ d = eqb-true c d t in let g = ap is_printable same in absurd cc
        go false t = refl

escape_first : (cs : List ℕ) (b : FirstByte) → escaped_at cs ≡ Some b → IsFirst (92 ∷ cs) b
escape_first [] b e = absurd cc
escape_first (d ∷ cs) b e =
    elim (chosen (eqb d 0x6e) _ _ _ e) [
      | inl x ↦ let is : d ≡ 0x6e = eqb-true _ _ x.0 in let f = x.1 in let same : (0x0a, cs) ≡ b = cc in subst (IsFirst (92 ∷ d ∷ cs)) same (rw is refl, lit< tt)
      | inr x ↦
          elim (chosen (eqb d 0x5c) _ _ _ x.1) [
            | inl y ↦ let is : d ≡ 0x5c = eqb-true _ _ y.0 in let f = y.1 in let same : (0x5c, cs) ≡ b = cc in subst (IsFirst (92 ∷ d ∷ cs)) same (rw is refl, lit< tt)
            | inr y ↦
                elim (chosen (eqb d 0x22) _ _ _ y.1) [
                  | inl z ↦ let is : d ≡ 0x22 = eqb-true _ _ z.0 in let f = z.1 in let same : (0x22, cs) ≡ b = cc in subst (IsFirst (92 ∷ d ∷ cs)) same (rw is refl, lit< tt)
                  | inr z ↦
                      elim (chosen (eqb d 0x78) _ _ _ z.1) [
                        | inl w ↦ let is : d ≡ 0x78 = eqb-true _ _ w.0 in subst (λ (n : ℕ). IsFirst (92 ∷ n ∷ cs) b) (sym is) (hex_first cs b w.1)
                        | inr w ↦ absurd (let f = w.1 in cc)
                      ]
                ]
          ]
    ]

pub first_some : (cs : List ℕ) (b : FirstByte) → unescaped_at cs ≡ Some b → (quoted_form_of_byte b.0 ++ b.1 ≡ cs) × (b.0 < 256)
first_some [] b e = absurd cc
first_some (c ∷ cs) b e =
    elim (chosen (eqb c 0x5c) _ _ _ e) [
      | inl x ↦ let is : c ≡ 0x5c = eqb-true _ _ x.0 in subst (λ (n : ℕ). IsFirst (n ∷ cs) b) (sym is) (escape_first cs b x.1)
      | inr x ↦
          elim (chosen (eqb c 0x22) _ _ _ x.1) [
            | inl y ↦ absurd (let f = y.1 in cc)
            | inr y ↦
                elim (chosen (is_printable c) _ _ _ y.1) [
                  | inl z ↦ let f = z.1 in let same : (c, cs) ≡ b = cc in subst (IsFirst (c ∷ cs)) same (as_it_is c cs x.0 y.0 z.0, small c z.0)
                  | inr z ↦ absurd (let f = z.1 in cc)
                ]
          ]
    ]
  where
    small : (c : ℕ) → is_printable c ≡ true → c < 256
    small c p = let le : c ≤ 0x7e = leb-true _ _ (and_parts (leb 0x20 c) (leb c 0x7e) p).1 in omega (arith, le)

    as_it_is : (c : ℕ) (cs : List ℕ) → eqb c 92 ≡ false → eqb c 34 ≡ false → is_printable c ≡ true → quoted_form_of_byte c ++ cs ≡ c ∷ cs
    as_it_is c cs e f p = let end : eqb c 10 ≡ false = no_end (eqb c 10) refl in rw (end, e, f, p) refl
      where
        no_end : (b : Bool) → eqb c 10 ≡ b → b ≡ false
        no_end true t = let same : c ≡ 10 = eqb-true c 10 t in let g = ap is_printable same in absurd cc
        no_end false t = refl

-- ---- bytes in front

-- some bytes whose form is what is left
pub record Left (form : List ℕ → List ℕ) (rest : List ℕ) : Type 0 where
  pub bytes : List ℕ
  pub fits : AreBytes bytes
  pub is : form bytes ≡ rest

-- bytes in hexadecimal digits, of which the first were read
pub hash_left : (done other rest : List ℕ) → AreBytes done → AreBytes other → encode_lower other ≡ encode_lower done ++ rest → Left encode_lower rest
unfolding encode_with
hash_left [] other rest a b e = record { bytes = other; fits = b; is = e }
hash_left (d ∷ ds) [] rest a b e = absurd cc
hash_left (d ∷ ds) (x ∷ xs) rest a b e = hash_left ds xs rest a.1 b.1 (tails _ _ _ _ (encode_lower xs) (encode_lower ds ++ rest) e)
  where
    tails : (a b c d : ℕ) (xs ys : List ℕ) → a ∷ b ∷ xs ≡ c ∷ d ∷ ys → xs ≡ ys
    tails a b c d xs ys e = cc

-- bytes between quotes, with the last quote
abbrev pub quoted_rest : List ℕ → List ℕ
quoted_rest b = flat_map quoted_form_of_byte b ++ codes "\""

first_of_rest : (b : ℕ) (bs : List ℕ) → b < 256 → unescaped_at (quoted_rest (b ∷ bs)) ≡ Some (b, quoted_rest bs)
first_of_rest b bs lt =
    ap unescaped_at (ap (λ (x : List ℕ). x ++ codes "\"") (flat_map-cons quoted_form_of_byte b bs) ∙ append_assoc (quoted_form_of_byte b) (flat_map quoted_form_of_byte bs) (codes "\""))
    ∙ escape_back b (quoted_rest bs) lt

firsts : (x y : FirstByte) → Some x ≡ Some y → x.0 ≡ y.0
firsts x y e = ap (λ (r : FirstByte). r.0) (inner e)
  where
    inner : Some x ≡ Some y → x ≡ y
    inner e = cc

rests : (x y : FirstByte) → Some x ≡ Some y → x.1 ≡ y.1
rests x y e = ap (λ (r : FirstByte). r.1) (inner e)
  where
    inner : Some x ≡ Some y → x ≡ y
    inner e = cc

pub quoted_left : (done other rest : List ℕ) → AreBytes done → AreBytes other → quoted_rest other ≡ flat_map quoted_form_of_byte done ++ rest → Left quoted_rest rest
quoted_left [] other rest a b e = record { bytes = other; fits = b; is = e }
quoted_left (d ∷ ds) [] rest a b e =
    let there = e ∙ ap (λ (x : List ℕ). x ++ rest) (flat_map-cons quoted_form_of_byte d ds) ∙ append_assoc (quoted_form_of_byte d) (flat_map quoted_form_of_byte ds) rest in
    let f = ap unescaped_at there ∙ escape_back d (flat_map quoted_form_of_byte ds ++ rest) a.0 in
    absurd cc
quoted_left (d ∷ ds) (x ∷ xs) rest a b e =
    let there = e ∙ ap (λ (x : List ℕ). x ++ rest) (flat_map-cons quoted_form_of_byte d ds) ∙ append_assoc (quoted_form_of_byte d) (flat_map quoted_form_of_byte ds) rest in
    let both = sym (first_of_rest x xs b.0) ∙ ap unescaped_at there ∙ escape_back d (flat_map quoted_form_of_byte ds ++ rest) a.0 in
    quoted_left ds xs rest a.1 b.1 (rests (x, quoted_rest xs) (d, flat_map quoted_form_of_byte ds ++ rest) both)

-- where no byte comes first, only the last quote is left
pub quote_alone : (rest : List ℕ) → Left quoted_rest rest → unescaped_at rest ≡ None → rest ≡ codes "\""
quote_alone rest l e = go l.bytes l.fits l.is
  where
    go : (b : List ℕ) → AreBytes b → quoted_rest b ≡ rest → rest ≡ codes "\""
    go [] a is = sym is
    go (x ∷ xs) a is = let f = ap unescaped_at (sym is) ∙ first_of_rest x xs a.0 in absurd cc

pub hash_ends : (rest : List ℕ) → Left encode_lower rest → hex_byte_at rest ≡ None → rest ≡ []
unfolding encode_with
hash_ends rest l e = go l.bytes l.fits l.is
  where
    go : (b : List ℕ) → AreBytes b → encode_lower b ≡ rest → rest ≡ []
    go [] a is = sym is
    go (x ∷ xs) a is = let f = ap hex_byte_at (sym is) ∙ pair_back x (encode_lower xs) a.0 in absurd cc

-- ---- the form of bytes on their line

pub are_items : (b : List ℕ) → ((i d : ℕ) → i < length b → get_or b i d < 256) → AreBytes b
are_items [] h = tt
are_items (c ∷ cs) h = (h 0 0 (omega arith), are_items cs (λ i d lt. h (suc i) d (omega (arith, lt))))

-- the byte that comes first, and what follows it
abbrev pub first_byte : ℕ → List ℕ → Option FirstByte
first_byte b cs = Some (b, cs)

-- one byte more
digits_more : (bytes : List ℕ) (b : ℕ) → encode_lower (bytes ++ b ∷ []) ≡ encode_lower bytes ++ encode_lower (b ∷ [])
unfolding encode_with
digits_more [] b = refl
digits_more (c ∷ cs) b = ap (λ (x : List ℕ). slice_index lower_digits (c / 16) ∷ slice_index lower_digits (c % 16) ∷ x) (digits_more cs b)

escapes_more : (bytes : List ℕ) (b : ℕ) → flat_map quoted_form_of_byte (bytes ++ b ∷ []) ≡ flat_map quoted_form_of_byte bytes ++ quoted_form_of_byte b
escapes_more [] b = flat_map-cons quoted_form_of_byte b [] ∙ append-nil (quoted_form_of_byte b)
escapes_more (c ∷ cs) b =
    flat_map-cons quoted_form_of_byte c (cs ++ b ∷ []) ∙ ap (λ (x : List ℕ). quoted_form_of_byte c ++ x) (escapes_more cs b)
    ∙ sym (append_assoc (quoted_form_of_byte c) (flat_map quoted_form_of_byte cs) (quoted_form_of_byte b))
    ∙ ap (λ (x : List ℕ). x ++ quoted_form_of_byte b) (sym (flat_map-cons quoted_form_of_byte c cs))

all_more : (bytes : List ℕ) (b : ℕ) → AreBytes bytes → b < 256 → AreBytes (bytes ++ b ∷ [])
all_more [] b a lt = (lt, tt)
all_more (c ∷ cs) b a lt = (a.0, all_more cs b a.1 lt)

-- the first bytes of a line were read: with the characters that are left their form is the line
pub record AreRead (form : List ℕ → List ℕ) (bytes rest line : List ℕ) : Type 0 where
  pub fits : AreBytes bytes
  pub is : form bytes ++ rest ≡ line

pub none_read : (form : List ℕ → List ℕ) (bytes line : List ℕ) → form [] ≡ [] → bytes ≡ [] → AreRead form bytes line line
none_read form bytes line e is = record { fits = subst AreBytes (sym is) tt; is = ap (λ (x : List ℕ). x ++ line) (ap form is ∙ e) }

pub no_digits : encode_lower [] ≡ []
unfolding encode_with
no_digits = refl

pub hash_more : (bytes rest line further new : List ℕ) (b : ℕ) → AreRead encode_lower bytes rest line → first_byte b further ≡ hex_byte_at rest → new ≡ bytes ++ b ∷ [] → AreRead encode_lower new further line
hash_more bytes rest line further new b r e is =
    let first = pair_some rest (b, further) (sym e) in
    record {
      fits = subst AreBytes (sym is) (all_more bytes b r.fits first.1);
      is =
          ap (λ (x : List ℕ). encode_lower x ++ further) is
          ∙ ap (λ (x : List ℕ). x ++ further) (digits_more bytes b)
          ∙ append_assoc (encode_lower bytes) (encode_lower (b ∷ [])) further
          ∙ ap (λ (x : List ℕ). encode_lower bytes ++ x) first.0 ∙ r.is;
    }

pub quoted_more : (bytes rest line further new : List ℕ) (b : ℕ) → AreRead (flat_map quoted_form_of_byte) bytes rest line → first_byte b further ≡ unescaped_at rest → new ≡ bytes ++ b ∷ [] → AreRead (flat_map quoted_form_of_byte) new further line
quoted_more bytes rest line further new b r e is =
    let first = first_some rest (b, further) (sym e) in
    record {
      fits = subst AreBytes (sym is) (all_more bytes b r.fits first.1);
      is =
          ap (λ (x : List ℕ). flat_map quoted_form_of_byte x ++ further) is
          ∙ ap (λ (x : List ℕ). x ++ further) (escapes_more bytes b)
          ∙ append_assoc (flat_map quoted_form_of_byte bytes) (quoted_form_of_byte b) further
          ∙ ap (λ (x : List ℕ). flat_map quoted_form_of_byte bytes ++ x) first.0 ∙ r.is;
    }

pub empty_line : (xs : List ℕ) → true ≡ eqb (length xs) 0 → xs ≡ []
empty_line [] e = refl
empty_line (x ∷ xs) e = absurd (omega (arith, eqb-true (length (x ∷ xs)) 0 (sym e)))

pub some_line : (xs : List ℕ) → false ≡ eqb (length xs) 0 → xs ≢ []
some_line xs e is = let f = ap (λ (l : List ℕ). eqb (length l) 0) is in absurd cc

pub hash_of_none : (bytes line : List ℕ) → line ≡ [] → IsFormOf encode_lower false bytes line
unfolding encode_with
hash_of_none bytes line none [] b ne e = ne refl
hash_of_none bytes line none (x ∷ xs) b ne e = let f = e ∙ none in absurd cc

-- all digits were read, or not
pub hash_form : (bytes rest line : List ℕ) (empty : Bool) → AreRead encode_lower bytes rest line → line ≢ [] → None ≡ hex_byte_at rest → empty ≡ eqb (length rest) 0 → IsFormOf encode_lower empty bytes line
unfolding encode_with
hash_form bytes rest line true r some stop e =
    let none = empty_line rest e in
    let whole : encode_lower bytes ≡ line = sym (append-nil (encode_lower bytes)) ∙ ap (λ (x : List ℕ). encode_lower bytes ++ x) (sym none) ∙ r.is in
    (λ is. some (sym whole ∙ ap encode_lower is), whole)
hash_form bytes rest line false r some stop e = λ other b ne f.
    some_line rest e (hash_ends rest (hash_left bytes other rest r.fits b (f ∙ sym r.is)) (sym stop))

-- a text that stands as it is does not begin with a quote
bare_unquoted : (b quoted : List ℕ) → needs_no_quotes b ≡ true → b ≢ 34 ∷ quoted
bare_unquoted b quoted bare is =
    let four = and_parts _ _ bare in
    let three = and_parts _ _ four.0 in
    let quote : begins_with_byte 34 b ≡ false = not-true _ three.1 in
    let begins : begins_with_byte 34 (34 ∷ quoted) ≡ true = refl in
    let same = ap (begins_with_byte 34) is in
    absurd cc

bare_form : (b : List ℕ) → needs_no_quotes b ≡ true → b ≡ bare_or_quoted_text b
bare_form b e = rw e refl

quoted_form : (b : List ℕ) → needs_no_quotes b ≡ false → bare_or_quoted_text b ≡ 34 ∷ quoted_rest b
quoted_form b e = rw e refl

-- the text of a line between quotes; other texts that stand as they are do not begin with a quote
quoted_other : (other quoted : List ℕ) → bare_or_quoted_text other ≡ 34 ∷ quoted → quoted_rest other ≡ quoted
quoted_other other quoted e = go (needs_no_quotes other) refl e
  where
    tail : (xs ys : List ℕ) → 34 ∷ xs ≡ 34 ∷ ys → xs ≡ ys
    tail xs ys e = cc

    go : (t : Bool) → needs_no_quotes other ≡ t → cond t other (34 ∷ quoted_rest other) ≡ 34 ∷ quoted → quoted_rest other ≡ quoted
    go true bare e = absurd (bare_unquoted other quoted bare e)
    go false bare e = tail (quoted_rest other) quoted e

-- all was read: another text of the line is this one
only_quoted : (bytes other : List ℕ) → AreBytes bytes → AreBytes other → quoted_rest other ≡ quoted_rest bytes → other ≡ bytes
only_quoted [] [] a b e = refl
only_quoted [] (x ∷ xs) a b e = absurd (let f = sym (first_of_rest x xs b.0) ∙ ap unescaped_at e in cc)
only_quoted (d ∷ ds) [] a b e = absurd (let f = sym (first_of_rest d ds a.0) ∙ ap unescaped_at (sym e) in cc)
only_quoted (d ∷ ds) (x ∷ xs) a b e =
    let both = sym (first_of_rest x xs b.0) ∙ ap unescaped_at e ∙ first_of_rest d ds a.0 in
    let more = only_quoted ds xs a.1 b.1 (rests (x, quoted_rest xs) (d, quoted_rest ds) both) in
    let one : x ≡ d = firsts (x, quoted_rest xs) (d, quoted_rest ds) both in
    cc

pub quoted_not_read : (bytes rest quoted : List ℕ) → AreRead (flat_map quoted_form_of_byte) bytes rest quoted → None ≡ unescaped_at rest → rest ≢ codes "\"" → IsFormOf bare_or_quoted_text false bytes (34 ∷ quoted)
quoted_not_read bytes rest quoted r stop some other b ne e =
    some (quote_alone rest (quoted_left bytes other rest r.fits b (quoted_other other quoted e ∙ sym r.is)) (sym stop))

pub quoted_of_none : (bytes quoted : List ℕ) → quoted ≡ codes "\"" → IsFormOf bare_or_quoted_text false bytes (34 ∷ quoted)
quoted_of_none bytes quoted is other b ne e = ne (only_quoted [] other tt b (quoted_other other quoted e ∙ is))

-- all was read: whether the text has to stand between quotes
pub quoted_all : (bytes rest quoted : List ℕ) (bare : Bool) → AreRead (flat_map quoted_form_of_byte) bytes rest quoted → quoted ≢ codes "\"" → rest ≡ codes "\"" → bare ≡ needs_no_quotes bytes → IsFormOf bare_or_quoted_text (not bare) bytes (34 ∷ quoted)
quoted_all bytes rest quoted true r some e is = λ other b ne f.
    let whole : quoted_rest bytes ≡ quoted = ap (λ (x : List ℕ). flat_map quoted_form_of_byte bytes ++ x) (sym e) ∙ r.is in
    let same = only_quoted bytes other r.fits b (quoted_other other quoted f ∙ sym whole) in
    let bare : needs_no_quotes other ≡ true = ap needs_no_quotes same ∙ sym is in
    bare_unquoted other quoted bare (bare_form other bare ∙ f)
quoted_all bytes rest quoted false r some e is =
    let whole : quoted_rest bytes ≡ quoted = ap (λ (x : List ℕ). flat_map quoted_form_of_byte bytes ++ x) (sym e) ∙ r.is in
    (λ none. some (sym whole ∙ ap quoted_rest none), quoted_form bytes (sym is) ∙ ap (λ (x : List ℕ). 34 ∷ x) whole)
