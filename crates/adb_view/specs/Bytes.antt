-- Ranges and numbers of a byte list, such as a payload. Used by *Readers*. The rule is in `docs/formats.md`,
-- "Values": an offset counts bytes from the payload's start, and a range that is not within the payload is refused.
use Rattle.std.specs.Prelude.{ℕ, zero, suc, ◌+◌, List, [], ◌∷◌, length, take, drop, Option, Some, None, option_map, nat_le, if◌then◌else◌}
use Rattle.std.specs.Int.{Width, w32, byte_len, from_le_bytes}

-- the `len` bytes that begin at the offset `at`; None if fewer than `len` bytes are there
abbrev pub bytes_at_with_len : List ℕ → ℕ → ℕ → Option (List ℕ)
bytes_at_with_len bytes at len = if nat_le (at + len) (length bytes) then Some (take len (drop at bytes))
    else None

-- the little-endian number of the width `w` at the offset `at`; None if it is not within the bytes
abbrev pub number_at : Width → List ℕ → ℕ → Option ℕ
number_at w bytes at = option_map (from_le_bytes w) (bytes_at_with_len bytes at (byte_len w))

-- the first n words of some bytes: little-endian numbers of four bytes each
unfoldable pub words : ℕ → List ℕ → List ℕ
words zero bytes = []
words (suc n) bytes = from_le_bytes w32 (take 4 bytes) ∷ words n (drop 4 bytes)
