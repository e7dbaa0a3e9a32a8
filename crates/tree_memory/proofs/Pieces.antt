-- The bytes of a piece that is appended to a file.
use Rattle.std.proofs.Common.{ℕ, ◌<◌, List, get_or, subst}
use Rattle.std.specs.List.{All}
use Rattle.std.proofs.lemmas.List.{get_or_default}

-- each element of a slice of bytes is a byte
pub all_bytes : (xs : List ℕ) → ((i : ℕ) → get_or xs i 0 < 256) → All (λ b. b < 256) xs
all_bytes xs h k d l = subst (λ (n : ℕ). n < 256) (get_or_default xs k 0 d l) (h k)
