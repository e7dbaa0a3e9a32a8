-- The operators of a dependency, as their match bits. The rule is in `docs/formats.md`, "Versions" ("An
-- operator has four bits"); how each operator is spelled, in "Dependencies".
use Rattle.std.specs.Prelude.{ℕ, ◌==◌, Bool, ◌&&◌, not, nat_lt}

-- ---- the match bits, by the result of a comparison with the wanted version

-- the version that is tested is equal to the wanted one
abbrev pub EQUAL : ℕ
EQUAL = 1

-- the version that is tested is less than the wanted one
abbrev pub LESS : ℕ
LESS = 2

-- the version that is tested is greater than the wanted one
abbrev pub GREATER : ℕ
GREATER = 4

-- the version that is tested begins with the tokens of the wanted one (`~`)
abbrev pub FUZZY : ℕ
FUZZY = 8

-- whether a number is the match bits of an operator: four bits, in which less and greater are not both set without
-- equal (so neither 6, which is 2 and 4, nor 14, which is 2, 4 and 8)
abbrev pub are_match_bits_below_16_except_6_and_14 : ℕ → Bool
are_match_bits_below_16_except_6_and_14 bits = nat_lt bits 16 && not (bits == 6) && not (bits == 14)
