-- The name of each waiting file is one.
use Rattle.std.proofs.Common.{◌≡◌, ◌||◌, ◌≢◌, ℕ, zero, suc, ◌+◌, ◌/◌, ◌%◌, ◌≤◌, ◌<◌, Bool, true, false, cond, not, ◌&&◌, nat_lt, nat_le, eqb, ltb, List, [], ◌∷◌, length, codes, decimal, refl, ap, ◌∙◌, arith}
use Rattle.std.specs.Fmt.{digits, digits_onto, digit_glyph}
use Rattle.std.specs.Str.{bytes_eq, is_utf8}
use Rattle.std.specs.List.{slice_split, list_all, list_any, onto_first}
use Rattle.std.proofs.lemmas.Bool.{lt-ltb, le-leb, ne_eqb, and_from}
use Rattle.std.proofs.lemmas.Str.{IsUtf8-from_ascii, is_utf8-from_IsUtf8}
use Rattle.base_core.specs.Name.{is_name, is_path_part, path_parts_of}
use Rattle.base_core.proofs.AtName.{other_name}
use Rattle.base_core.proofs.NameParts.{all_off, ascii_by}
use Rattle.journal_intent.specs.Intent.{stage_name}

-- ---- decimal digits

abbrev pub IsDigit : ℕ → Type 0
IsDigit b = (48 ≤ b) × (b < 58)

abbrev pub AreDigits : List ℕ → Type 0
AreDigits [] = Unit {0}
AreDigits (b ∷ bs) = IsDigit b × AreDigits bs

glyph-digit : (n : ℕ) → IsDigit (digit_glyph false (n % 10))
glyph-digit n = glyph_by (ltb (n % 10) 10) (n % 10) (lt-ltb (n % 10) 10 (omega arith)) (omega arith)
  where
    glyph_by : (b : Bool) (d : ℕ) → b ≡ true → d < 10 → IsDigit (cond b (48 + d) (87 + d))
    glyph_by true d is low = (omega arith, omega (arith, low))
    glyph_by false d is low = absurd (cc (is))

by_digits : (b : Bool) (xs ys : List ℕ) → AreDigits xs → AreDigits ys → AreDigits (cond b xs ys)
by_digits true xs ys x y = x
by_digits false xs ys x y = y

digits-onto : (k n : ℕ) (acc : List ℕ) → AreDigits acc → AreDigits (digits_onto k 10 false n acc)
digits-onto zero n acc are = are
digits-onto (suc k) n acc are =
    by_digits (eqb (n / 10) 0) _ _ (glyph-digit n, are) (digits-onto k (n / 10) (digit_glyph false (n % 10) ∷ acc) (glyph-digit n, are))

pub by_least : (b : Bool) (m : ℕ) (xs ys : List ℕ) → m ≤ length xs → m ≤ length ys → m ≤ length (cond b xs ys)
by_least true m xs ys x y = x
by_least false m xs ys x y = y

by_most : (b : Bool) (m : ℕ) (xs ys : List ℕ) → length xs ≤ m → length ys ≤ m → length (cond b xs ys) ≤ m
by_most true m xs ys x y = x
by_most false m xs ys x y = y

pub grows : (k n : ℕ) (acc : List ℕ) → length acc ≤ length (digits_onto k 10 false n acc)
grows zero n acc = omega arith
grows (suc k) n acc =
    by_least (eqb (n / 10) 0) (length acc) _ _ (omega arith) (let more = grows k (n / 10) (digit_glyph false (n % 10) ∷ acc) in omega (arith, more))

one_more : (k n : ℕ) (acc : List ℕ) → length acc + 1 ≤ length (digits_onto (suc k) 10 false n acc)
one_more k n acc = by_least (eqb (n / 10) 0) (length acc + 1) _ _ (omega arith) (let more = grows k (n / 10) (digit_glyph false (n % 10) ∷ acc) in omega (arith, more))

at_most : (k n : ℕ) (acc : List ℕ) → length (digits_onto k 10 false n acc) ≤ k + length acc
at_most zero n acc = omega arith
at_most (suc k) n acc =
    by_most (eqb (n / 10) 0) (suc k + length acc) _ _ (omega arith) (let most = at_most k (n / 10) (digit_glyph false (n % 10) ∷ acc) in omega (arith, most))

pub decimal-digits : (n : ℕ) → AreDigits (decimal n)
unfolding digits
decimal-digits n = digits-onto 64 n [] tt

decimal-some : (n : ℕ) → 1 ≤ length (decimal n)
unfolding digits
decimal-some n = one_more 63 n []

decimal-few : (n : ℕ) → length (decimal n) ≤ 64
unfolding digits
decimal-few n = at_most 64 n []

-- ---- they are a part of a name

no_zero : (ds : List ℕ) → AreDigits ds → list_any (λ b. eqb b 0) ds ≡ false
no_zero [] are = refl
no_zero (d ∷ ds) are = let low = are.0.0 in ap (λ b. b || list_any (λ b. eqb b 0) ds) (ne_eqb d 0 (λ e. omega (arith, low, e))) ∙ no_zero ds are.1

ascii_digits : (ds : List ℕ) → AreDigits ds → list_all (λ b. ltb b 128) ds ≡ true
ascii_digits [] are = refl
ascii_digits (d ∷ ds) are = let high = are.0.1 in ap (λ b. b && list_all (λ b. ltb b 128) ds) (lt-ltb d 128 (omega (arith, high))) ∙ ascii_digits ds are.1

one_part : (ds : List ℕ) → AreDigits ds → slice_split (λ b. eqb b 47) ds ≡ ds ∷ []
one_part [] are = refl
one_part (d ∷ ds) are =
    let low = are.0.0 in
    ap (λ b. cond b ([] ∷ slice_split (λ b. eqb b 47) ds) (onto_first d (slice_split (λ b. eqb b 47) ds))) (ne_eqb d 47 (λ e. omega (arith, low, e)))
    ∙ ap (onto_first d) (one_part ds are.1)

off_dot : (ds rest : List ℕ) → AreDigits ds → ds ≢ 46 ∷ rest
off_dot [] rest are e = cc
off_dot (d ∷ ds) rest are e = let same : d ≡ 46 = cc in let low = are.0.0 in absurd (omega (arith, low, same))

digits_part : (ds : List ℕ) → AreDigits ds → 1 ≤ length ds → is_path_part ds ≡ true
digits_part ds are some = all_off (eqb (length ds) 0) (bytes_eq ds (codes ".")) (bytes_eq ds (codes ".."))
    (ne_eqb (length ds) 0 (λ e. omega (arith, some, e)))
    (other_name ds (codes ".") (off_dot ds [] are))
    (other_name ds (codes "..") (off_dot ds (46 ∷ []) are))

parts_good : (ds : List ℕ) → AreDigits ds → 1 ≤ length ds → list_all is_path_part (slice_split (λ b. eqb b 47) ds) ≡ true
parts_good ds are some = ap (list_all is_path_part) (one_part ds are) ∙ ap (λ b. b && true) (digits_part ds are some)

pub stage_is_name : (k : ℕ) → is_name (stage_name k) ≡ true
unfolding is_name
stage_is_name k =
    let are = decimal-digits k in
    let some = decimal-some k in
    let few = decimal-few k in
    and_from _ (list_all is_path_part (path_parts_of (stage_name k)))
    (and_from _ (is_utf8 (stage_name k))
    (and_from _ (not (list_any (λ b. eqb b 0) (stage_name k)))
    (and_from (nat_lt 0 (length (stage_name k))) (nat_le (length (stage_name k)) 1024) (lt-ltb _ _ (omega (arith))) (le-leb _ _ (omega (arith, few))))
    (ap not (no_zero (decimal k) are)))
    (is_utf8-from_IsUtf8 (stage_name k) (IsUtf8-from_ascii (stage_name k) (ascii_by (stage_name k) (ascii_digits (decimal k) are)))))
    (parts_good (decimal k) are some)
