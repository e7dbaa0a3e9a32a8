-- The first cause of two, and none.
use Rattle.std.proofs.Common.{Option, ◌≡◌, None, refl, Some, true}
use Rattle.std.specs.Option.{option_or}
use Rattle.std.specs.Prelude.{is_none}
use Rattle.base_core.specs.declared.cause.Cause.{Cause}

pub both_none : (a b : Option Cause) → option_or a b ≡ None → (a ≡ None) × (b ≡ None)
both_none None b e = (refl, e)
both_none (Some c) b e = absurd (cc)

pub first_none : (a b : Option Cause) → option_or a b ≡ None → a ≡ None
first_none None b h = refl
first_none (Some c) b h = h

pub second_none : (a b : Option Cause) → option_or a b ≡ None → b ≡ None
second_none None b h = h
second_none (Some c) b h = absurd (cc)

pub none_both : (a b : Option Cause) → a ≡ None → b ≡ None → option_or a b ≡ None
none_both None b e f = f
none_both (Some c) b e f = absurd (cc)

pub none_of : (o : Option Cause) → is_none o ≡ true → o ≡ None
none_of None h = refl
none_of (Some c) h = (cc)
