-- A hasher of the function that a digest's length selects, as in `docs/formats.md`, "The other blocks".
-- Serves the contracts of `Hasher`.
use Rattle.std.specs.Prelude.{◌≡◌, ℕ, List, length, None}
use Rattle.sha1.specs.Sha1.{Holds}
use Rattle.sha2.specs.Hashers.{Holds256, Holds512}
use Rattle.pkg_core.specs.Contents.{fault_if_digest_is_not_of_bytes}
use Rattle.pkg_core.specs.declared.hasher.Hasher.{Hasher}
use Rattle.pkg_core.specs.declared.hasher.Hasher.TheVariants as Hashers

-- the hasher has taken the bytes `message`, whose digest is to be compared with `hash`. Its function is
-- the one that the length of `hash` selects. `Other` is for a digest of any other length, which is not
-- compared, so that no bytes have a fault
abbrev pub HasHashedMessage : Hasher → List ℕ → List ℕ → Type 0
HasHashedMessage (Hashers.Sha1 hasher) hash message = (length hash ≡ 20) × Holds hasher message
HasHashedMessage (Hashers.Sha256 hasher) hash message = (length hash ≡ 32) × Holds256 hasher message
HasHashedMessage (Hashers.Sha512 hasher) hash message = (length hash ≡ 64) × Holds512 hasher message
HasHashedMessage Hashers.Other hash message =
    (bytes : List ℕ) → fault_if_digest_is_not_of_bytes hash bytes ≡ None
