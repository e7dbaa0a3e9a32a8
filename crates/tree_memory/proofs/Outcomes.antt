-- Facts on each outcome of a call.
use Rattle.std.proofs.Common.{◌≡◌, ℕ, Option, None, Some, IsSome, Result, Ok, Err, OnErr}

-- what is present is not absent
pub not_both : (o : Option ℕ) → IsSome o → o ≡ None → ⊥
not_both None some none = cc (some)
not_both (Some n) some none = cc (none)

pub on_any_err : {T E : Type 0} (r : Result T E) {P : Type 0} → P → OnErr r P
on_any_err (Ok x) p = tt
on_any_err (Err e) p = p
