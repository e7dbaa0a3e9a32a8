-- What passes no limit.
use Rattle.std.proofs.Common.{◌≡◌, ◌≤◌, ℕ, nat_lt, false, Option, None, sym, ap, ◌∙◌, arith}
use Rattle.std.specs.Prelude.{is_some}
use Rattle.std.proofs.lemmas.Bool.{ltb-false, or_parts}
use Rattle.adb_sound.specs.adb_write.Canonical.{exceeds_a_limit, MOST_BYTES, MOST_VALUES}

none_some : {A : Type 0} (o : Option A) → o ≡ None → is_some o ≡ false
none_some o e = ap is_some e

pub fits_of : (o : Option (ℕ × ℕ)) (bytes values : ℕ) → o ≡ None → is_some o ≡ exceeds_a_limit (bytes, values) → bytes ≤ MOST_BYTES
fits_of o bytes values none over =
    let both = or_parts (nat_lt MOST_BYTES bytes) (nat_lt MOST_VALUES values) (sym over ∙ none_some o none) in
    let low = ltb-false MOST_BYTES bytes both.0 in
    omega (arith, low)

pub few_of : (o : Option (ℕ × ℕ)) (bytes values : ℕ) → o ≡ None → is_some o ≡ exceeds_a_limit (bytes, values) → values ≤ MOST_VALUES
few_of o bytes values none over =
    let both = or_parts (nat_lt MOST_BYTES bytes) (nat_lt MOST_VALUES values) (sym over ∙ none_some o none) in
    let low = ltb-false MOST_VALUES values both.1 in
    omega (arith, low)
