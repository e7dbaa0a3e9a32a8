-- What is written piece by piece.
use Rattle.std.proofs.Common.{◌≡◌, ℕ, zero, suc, ◌+◌, ◌-◌, ◌<◌, ◌≤◌, Bool, true, false, eqb, List, [], ◌∷◌, ◌++◌, length, get_or, take, drop, Some, None, ◌*◌, refl, sym, ap, ◌∙◌, arith}
use Rattle.std.specs.Prelude.{codes, ◌&&◌, slice_get}
use Rattle.std.specs.List.{flat_map, list_all}
use Rattle.std.proofs.lemmas.List.{drop-take, drop_more, drop_all, take_rest, take-take}
use Rattle.std.proofs.lemmas.List.Concat.{flat_map-cons}
use Rattle.hex.specs.Hex.{encode_with, encode_lower}
use Rattle.adb_dump.specs.Dump.{quoted_form_of_byte, is_printable, begins_with_byte, ends_with_byte}
use Rattle.adb_dump.specs.Margin.{margin}

pub hex_more : (bytes : List ℕ) (i : ℕ) → i < length bytes → encode_lower (drop i bytes) ≡ encode_lower (get_or bytes i 0 ∷ []) ++ encode_lower (drop (i + 1) bytes)
unfolding encode_with
hex_more bytes i lt = rw (drop_more bytes i 0 lt) refl

pub hex_over : (bytes : List ℕ) (i : ℕ) → length bytes ≤ i → encode_lower (drop i bytes) ≡ []
unfolding encode_with
hex_over bytes i le = rw (drop_all i bytes le) refl

pub escapes_more : (text : List ℕ) (i : ℕ) → i < length text → flat_map quoted_form_of_byte (drop i text) ≡ quoted_form_of_byte (get_or text i 0) ++ flat_map quoted_form_of_byte (drop (i + 1) text)
escapes_more text i lt = ap (flat_map quoted_form_of_byte) (drop_more text i 0 lt) ∙ flat_map-cons quoted_form_of_byte (get_or text i 0) (drop (i + 1) text)

pub escapes_over : (text : List ℕ) (i : ℕ) → length text ≤ i → flat_map quoted_form_of_byte (drop i text) ≡ []
escapes_over text i le = ap (flat_map quoted_form_of_byte) (drop_all i text le)

printable_more : (text : List ℕ) (i : ℕ) → i < length text → list_all is_printable (drop i text) ≡ (is_printable (get_or text i 0) && list_all is_printable (drop (i + 1) text))
printable_more text i lt = ap (list_all is_printable) (drop_more text i 0 lt)

pub printable_next : (all : Bool) (text : List ℕ) (i : ℕ) → i < length text → (all && list_all is_printable (drop i text)) ≡ ((all && is_printable (get_or text i 0)) && list_all is_printable (drop (i + 1) text))
printable_next true text i lt = printable_more text i lt
printable_next false text i lt = refl

pub printable_over : (all : Bool) (text : List ℕ) (i : ℕ) → length text ≤ i → (all && list_all is_printable (drop i text)) ≡ all
printable_over true text i le = ap (list_all is_printable) (drop_all i text le)
printable_over false text i le = refl

-- ---- windows over a text

both_covered : (b t a : Bool) → a ≡ (t && a) → (b && a) ≡ ((b && t) && (b && a))
both_covered true t a e = e
both_covered false t a e = refl

first_covered : (b t a w : Bool) → w ≡ (t && a) → (b && w) ≡ ((b && t) && a)
first_covered true t a w e = e
first_covered false t a w e = refl

-- the window that ends where the text does
window_end : (xs : List ℕ) (last len : ℕ) → last + len ≡ length xs → drop last xs ≡ take len (drop last xs)
window_end xs last len end =
    let rest : length xs - last ≡ len = omega (arith, end) in
    sym (take_rest xs last) ∙ ap (λ (n : ℕ). take n (drop last xs)) rest

-- a window by its ends, and by its length
pub window_told : (p : ℕ → Bool) (xs : List ℕ) (at len : ℕ) → list_all p (take (at + len - at) (drop at xs)) ≡ list_all p (take len (drop at xs))
window_told p xs at len = let same : at + len - at ≡ len = omega arith in ap (λ (n : ℕ). list_all p (take n (drop at xs))) same

-- a front and an end that reach each other are all
pub all_covered : (p : ℕ → Bool) (xs : List ℕ) (j k : ℕ) → j ≤ k → list_all p xs ≡ (list_all p (take k xs) && list_all p (drop j xs))
all_covered p [] zero zero le = refl
all_covered p [] zero (suc k) le = refl
all_covered p [] (suc j) zero le = refl
all_covered p [] (suc j) (suc k) le = refl
all_covered p (x ∷ xs) zero zero le = refl
all_covered p (x ∷ xs) zero (suc k) le = both_covered (p x) (list_all p (take k xs)) (list_all p xs) (all_covered p xs zero k (omega arith))
all_covered p (x ∷ xs) (suc j) zero le = absurd (omega (arith, le))
all_covered p (x ∷ xs) (suc j) (suc k) le = first_covered (p x) (list_all p (take k xs)) (list_all p (drop j xs)) (list_all p xs) (all_covered p xs j k (omega (arith, le)))

-- the bytes up to the end of a window, by those before it and those within it
pub window_next : (p : ℕ → Bool) (xs : List ℕ) (at len : ℕ) → list_all p (take at xs) ≡ true → list_all p (take (at + len) xs) ≡ list_all p (take len (drop at xs))
window_next p xs at len before =
    all_covered p (take (at + len) xs) at at (omega arith)
    ∙ ap (λ (front : List ℕ). list_all p front && list_all p (drop at (take (at + len) xs))) (take-take at (at + len) xs (omega arith))
    ∙ ap (λ (b : Bool). b && list_all p (drop at (take (at + len) xs))) before
    ∙ ap (list_all p) (drop-take at len xs)

-- a window that is not printable
pub window_stops : (p : ℕ → Bool) (xs : List ℕ) (at len : ℕ) → list_all p (take at xs) ≡ true → list_all p (take len (drop at xs)) ≡ false → list_all p xs ≡ false
window_stops p xs at len before window =
    all_covered p xs (at + len) (at + len) (omega arith)
    ∙ ap (λ (b : Bool). b && list_all p (drop (at + len) xs)) (window_next p xs at len before ∙ window)

-- the last window, before which all is printable
pub window_last : (p : ℕ → Bool) (xs : List ℕ) (at last len : ℕ) → last ≤ at → last + len ≡ length xs → list_all p (take at xs) ≡ true → list_all p xs ≡ list_all p (take len (drop last xs))
window_last p xs at last len le end before =
    all_covered p xs last at le ∙ ap (λ (b : Bool). b && list_all p (drop last xs)) before ∙ ap (list_all p) (window_end xs last len end)

-- a window at both ends
pub windows_cover : (p : ℕ → Bool) (xs : List ℕ) (last len : ℕ) → last ≤ len → last + len ≡ length xs → list_all p xs ≡ (list_all p (take len xs) && list_all p (take len (drop last xs)))
windows_cover p xs last len le end =
    all_covered p xs last len le ∙ ap (λ (l : List ℕ). list_all p (take len xs) && list_all p l) (window_end xs last len end)

pub margin_more : (depth i : ℕ) → i < depth → margin (depth - i) ≡ codes "  " ++ margin (depth - (i + 1))
margin_more depth i lt = let same : depth - i ≡ suc (depth - (i + 1)) = omega arith in rw same refl

pub margin_over : (depth i : ℕ) → depth ≤ i → margin (depth - i) ≡ []
margin_over depth i le = let same : depth - i ≡ 0 = omega arith in rw same refl

-- the last levels of a margin
drop_margin : (k d : ℕ) (rest : List ℕ) → drop (2 * k) (margin (k + d) ++ rest) ≡ margin d ++ rest
drop_margin zero d rest = let none : 0 + d ≡ d = omega arith in rw none refl
drop_margin (suc k) d rest =
    let two : 2 * suc k ≡ suc (suc (2 * k)) = omega arith in
    let one : suc k + d ≡ suc (k + d) = omega arith in
    rw (two, one) (drop_margin k d rest)

-- the last levels of a front, and what follows them
pub front_end : (front : List ℕ) (levels : ℕ) → levels ≤ 8 → front ≡ margin 8 ++ drop 16 front → drop (16 - 2 * levels) front ≡ margin levels ++ drop 16 front
front_end front levels le spaces =
    let from : 16 - 2 * levels ≡ 2 * (8 - levels) = omega (arith, le) in
    let eight : 8 ≡ (8 - levels) + levels = omega (arith, le) in
    let all : margin 8 ≡ margin ((8 - levels) + levels) = ap margin eight in
    ap (drop (16 - 2 * levels)) spaces ∙ ap (λ (n : ℕ). drop n (margin 8 ++ drop 16 front)) from
    ∙ ap (λ (m : List ℕ). drop (2 * (8 - levels)) (m ++ drop 16 front)) all
    ∙ drop_margin (8 - levels) levels (drop 16 front)

pub begins_some : (c x : ℕ) (text : List ℕ) → slice_get text 0 ≡ Some x → begins_with_byte c text ≡ eqb c x
begins_some c x [] e = absurd cc
begins_some c x (d ∷ ds) e = let same : d ≡ x = cc in rw same refl

pub begins_none : (c : ℕ) (text : List ℕ) → slice_get text 0 ≡ None → begins_with_byte c text ≡ false
begins_none c [] e = refl
begins_none c (d ∷ ds) e = absurd cc

ends_at : (c x : ℕ) (text : List ℕ) (i : ℕ) → length text ≡ suc i → slice_get text i ≡ Some x → ends_with_byte c text ≡ eqb c x
ends_at c x [] i len e = absurd (omega arith)
ends_at c x (d ∷ []) zero len e = let same : d ≡ x = cc in rw same refl
ends_at c x (d ∷ []) (suc i) len e = absurd (omega arith)
ends_at c x (d ∷ f ∷ ds) zero len e = absurd (omega arith)
ends_at c x (d ∷ f ∷ ds) (suc i) len e = ends_at c x (f ∷ ds) i (omega arith) e

pub ends_some : (c x : ℕ) (text : List ℕ) → slice_get text (length text - 1) ≡ Some x → ends_with_byte c text ≡ eqb c x
ends_some c x [] e = absurd cc
ends_some c x (d ∷ ds) e = ends_at c x (d ∷ ds) (length (d ∷ ds) - 1) (omega arith) e

pub ends_none : (c : ℕ) (text : List ℕ) → slice_get text (length text - 1) ≡ None → ends_with_byte c text ≡ false
ends_none c [] e = refl
ends_none c (d ∷ ds) e = absurd (no (d ∷ ds) (length (d ∷ ds) - 1) (omega arith) e)
  where
    no : (text : List ℕ) (i : ℕ) → length text ≡ suc i → slice_get text i ≡ None → ⊥
    no [] i len e = omega arith
    no (d ∷ ds) zero len e = cc
    no (d ∷ ds) (suc i) len e = no ds i (omega arith) e
