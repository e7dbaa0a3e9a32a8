-- Adjacent claims that have the same path.
-- No document has a rule for this: it serves the contracts of `src/claim.rt`, over claims in the order
-- of their paths.
use Rattle.std.specs.Prelude.{ℕ, zero, suc, Bool, true, not, List, [], ◌∷◌, Option, Some, None, cond, slice_get, bytes_eq}
use Rattle.path_claims.specs.Claims.{PathClaim}

-- the longest prefix of a list whose elements all pass the test `p`
abbrev pub passing_prefix : {X : Type 0} → (X → Bool) → List X → List X
passing_prefix p [] = []
passing_prefix p (x ∷ xs) = cond (p x) (x ∷ passing_prefix p xs) []

-- whether two claims have different paths; an absent claim differs from every claim
abbrev pub differ_in_path : Option PathClaim → Option PathClaim → Bool
differ_in_path None d = true
differ_in_path (Some c) None = true
differ_in_path (Some c) (Some d) = not (bytes_eq c.path d.path)

-- whether the claim with this index is the first of the list, or has another path than the claim before it
abbrev pub is_first_of_path : List PathClaim → ℕ → Bool
is_first_of_path claims zero = true
is_first_of_path claims (suc i) = differ_in_path (slice_get claims i) (slice_get claims (suc i))
