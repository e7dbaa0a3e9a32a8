-- What the crate of versions says of each version, as the proofs here are given it.
use Rattle.std.proofs.Common.{◌≡◌, ℕ, true, List}
use Rattle.std.specs.List.{list_all}
use Rattle.version_core.specs.Grammar.{begins_with_digit, is_version_byte}
use Rattle.version_core.specs.Order.{is_version}

pub record Versions : Type 0 where
  pub bytes : (text : List ℕ) → is_version text ≡ true → list_all is_version_byte text ≡ true
  pub first : (text : List ℕ) → is_version text ≡ true → begins_with_digit text ≡ true
