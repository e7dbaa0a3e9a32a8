-- Which test of a file's header fails. The tests are in `docs/formats.md`, "Container", the rows of the
-- header in its table.
use Rattle.std.specs.Prelude.{◌≡◌, ◌⊎◌, ◌<◌, ◌≤◌, ℕ, List, ◌++◌, length, codes}
use Rattle.base_core.specs.declared.Cause.{Cause}
use Rattle.base_core.specs.declared.Cause.TheVariants.{NotAdb, Compressed, Truncated}

-- the file begins with the bytes `mark`
abbrev pub BeginsAs : List ℕ → List ℕ → Type 0
BeginsAs mark file = (rest : List ℕ) × (file ≡ mark ++ rest)

-- the file begins as a compressed container does
abbrev pub IsCompressedFile : List ℕ → Type 0
IsCompressedFile file = BeginsAs (codes "ADBd") file ⊎ BeginsAs (codes "ADBc") file

-- the file begins neither as a compressed container nor as a container
abbrev pub BeginsAsNoContainer : List ℕ → Type 0
BeginsAsNoContainer file = (IsCompressedFile file → ⊥) × (BeginsAs (codes "ADB.") file → ⊥)

-- c is the fault of the file's header, the first of these: it has fewer than four bytes; it begins as a compressed
-- container; it does not begin as a container; it has fewer than eight bytes
abbrev pub IsHeaderFault : List ℕ → Cause → Type 0
IsHeaderFault file c =
    ((length file < 4) × (c ≡ Truncated 0))
    ⊎ ((IsCompressedFile file × (c ≡ Compressed))
    ⊎ (((4 ≤ length file) × BeginsAsNoContainer file × (c ≡ NotAdb))
    ⊎ (BeginsAs (codes "ADB.") file × (length file < 8) × (c ≡ Truncated 0))))
