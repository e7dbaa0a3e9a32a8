-- The texts of the reports of `audit` and `manifest` (apk(8)). The rules are in `docs/commands.md`,
-- "`audit`" and "`manifest`".
use Rattle.std.specs.Prelude.{ℕ, ◌==◌, List, ◌++◌, codes, length, if◌then◌else◌}
use Rattle.hex.specs.Hex.{encode_lower}

-- ---- `audit`

-- the text for a listed file that is missing: `X PATH`
abbrev pub missing_file_text : List ℕ → List ℕ
missing_file_text path = codes "X " ++ path

-- the text for a file whose bytes are not as its entry lists them: `U PATH`
abbrev pub modified_file_text : List ℕ → List ℕ
modified_file_text path = codes "U " ++ path

-- ---- `manifest`

-- a digest with the name of its hash function, as `sha256:DIGITS`. The length of the digest determines the function
-- (FIPS 180-4). `none` for any other length, so also if there is no digest
abbrev pub digest_with_algorithm_name : List ℕ → List ℕ
digest_with_algorithm_name digest =
    if length digest == 20 then codes "sha1:" ++ encode_lower digest
    else if length digest == 32 then codes "sha256:" ++ encode_lower digest
    else if length digest == 64 then codes "sha512:" ++ encode_lower digest
    else codes "none"

-- the text for a listed file: its digest, two spaces and its path
abbrev pub digest_and_path_text : List ℕ → List ℕ → List ℕ
digest_and_path_text digest path = digest_with_algorithm_name digest ++ codes "  " ++ path
