-- The header of a file is that of its first eight bytes.
use Rattle.std.proofs.Common.{◌≡◌, ℕ, ◌<◌, ◌≤◌, min, Bool, true, false, nat_lt, nat_le, List, length, take, drop, refl, ap, sym, subst, ◌∙◌, arith, lit≤}
use Rattle.std.proofs.lemmas.List.{take-take, drop-take, length-take, take_all}
use Rattle.std.specs.Int.{w32, from_le_bytes}
use Rattle.std.proofs.lemmas.Bool.{le-ltb}
use Rattle.adb_block.specs.Header.{schema_of_header, word_at}

header_parts : (a b : List ℕ) → nat_lt (length a) 4 ≡ nat_lt (length b) 4 → nat_lt (length a) 8 ≡ nat_lt (length b) 8 → take 4 a ≡ take 4 b → word_at 4 a ≡ word_at 4 b → schema_of_header a ≡ schema_of_header b
unfolding schema_of_header
header_parts a b four eight front word = rw (four, eight, front, word) refl

header_long : (file : List ℕ) → 8 ≤ length file → schema_of_header (take 8 file) ≡ schema_of_header file
header_long file le =
    let n : length (take 8 file) ≡ 8 = (let e = length-take 8 file in omega arith) in
    let front : take 4 (take 8 file) ≡ take 4 file = take-take 4 8 file (lit≤ tt) in
    let back : take 4 (drop 4 (take 8 file)) ≡ take 4 (drop 4 file) = ap (take 4) (drop-take 4 4 file) ∙ take-take 4 4 (drop 4 file) (lit≤ tt) in
    header_parts (take 8 file) file
    (le-ltb (length (take 8 file)) 4 (omega (arith, n)) ∙ sym (le-ltb (length file) 4 (omega (arith, le))))
    (le-ltb (length (take 8 file)) 8 (omega (arith, n)) ∙ sym (le-ltb (length file) 8 le))
    front
    (ap (λ (w : List ℕ). from_le_bytes w32 w) back)

pub header_front : (file bytes : List ℕ) (len : ℕ) → length bytes ≡ min len 8 → length file ≡ len → take (length bytes) file ≡ bytes → schema_of_header bytes ≡ schema_of_header file
header_front file bytes len n long has = by_room (nat_le 8 len) refl
  where
    by_room : (b : Bool) → nat_le 8 len ≡ b → schema_of_header bytes ≡ schema_of_header file
    by_room true e =
        let le : 8 ≤ len = grind arith in
        let eight : length bytes ≡ 8 = omega arith in
        let is : take 8 file ≡ bytes = subst (λ (k : ℕ). take k file ≡ bytes) eight has in
        ap schema_of_header (sym is) ∙ header_long file (omega arith)
    by_room false e =
        let over : len < 8 = grind arith in
        let all : length file ≤ length bytes = omega arith in
        ap schema_of_header (sym has ∙ take_all (length bytes) file all)
