-- How long what is put in is.
use Rattle.std.proofs.Common.{◌≡◌, ℕ, ◌+◌, List, ◌++◌, length, length-append, arith, subst, sym}
use Rattle.std.specs.BTreeMap.{BTreeMap}
use Rattle.hex.specs.Hex.{encode_lower, lower_digits}
use Rattle.hex.proofs.HexLemmas.{length-encode_with}
use Rattle.adb_dump.specs.Out.{AreLineLengths}

-- a count of what is held is one of what is held then, with as many more as the piece has
pub counts_more : (old mid new len : ℕ) (before piece : List ℕ) → mid ≡ old → new ≡ mid + len → len ≡ length piece → old ≡ length before → new ≡ length (before ++ piece)
counts_more old mid new len before piece same more is was = omega (arith, same, more, is, was, length-append before piece)

-- two digits for each byte
pub hash_counts : (old mid new n : ℕ) (before hash : List ℕ) → mid ≡ old + n → new ≡ mid + n → n ≡ length hash → old ≡ length before → new ≡ length (before ++ encode_lower hash)
hash_counts old mid new n before hash half all is was = omega (arith, half, all, is, was, length-append before (encode_lower hash), length-encode_with lower_digits hash)

-- lengths that stay as they are stay right
pub lengths_stay : (payload : List ℕ) (old new : BTreeMap ℕ ℕ) → new ≡ old → AreLineLengths payload old → AreLineLengths payload new
lengths_stay payload old new same right = subst (AreLineLengths payload) (sym same) right
