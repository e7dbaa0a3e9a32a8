-- The header of a file: its schema, or the first failed test. The rules are in `docs/formats.md`,
-- "Container" ("A file begins with") and the rows "header" of its table.
use Rattle.std.specs.Prelude.{ℕ, Bool, not, ◌||◌, nat_lt, if◌then◌else◌, List, length, take, drop, codes, Result, Ok, Err}
use Rattle.std.specs.Str.{bytes_eq}
use Rattle.std.specs.Int.{w32, w64, from_le_bytes}
use Rattle.base_core.specs.declared.Cause.{Cause}
use Rattle.base_core.specs.declared.Cause.TheVariants.{NotAdb, Compressed, Truncated}

-- the number in the four bytes at the offset `at`, the least significant byte first
abbrev pub word_at : ℕ → List ℕ → ℕ
word_at at bytes = from_le_bytes w32 (take 4 (drop at bytes))

-- the number in the eight bytes at the offset `at`, the least significant byte first
abbrev pub eight_byte_number_at : ℕ → List ℕ → ℕ
eight_byte_number_at at bytes = from_le_bytes w64 (take 8 (drop at bytes))

-- whether `front`, the first four bytes of a file, are those of a compressed container
abbrev pub is_four_byte_mark_of_compressed_file : List ℕ → Bool
is_four_byte_mark_of_compressed_file front = bytes_eq front (codes "ADBd") || bytes_eq front (codes "ADBc")

-- the schema of a file, which is the number after its first four bytes, or the first fault of its
-- header
unfoldable pub schema_of_header : List ℕ → Result ℕ Cause
schema_of_header file =
    if nat_lt (length file) 4 then Err (Truncated 0)
    else if is_four_byte_mark_of_compressed_file (take 4 file) then Err Compressed
    else if not (bytes_eq (take 4 file) (codes "ADB.")) then Err NotAdb
    else if nat_lt (length file) 8 then Err (Truncated 0)
    else Ok (word_at 4 file)
