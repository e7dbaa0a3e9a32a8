-- The rules for single texts of a container (apk-v3(5), apk-package(5)). The rules are in the table of
-- `docs/formats.md`, "The texts".
use Rattle.std.specs.Prelude.{ℕ, ◌==◌, nat_lt, nat_le, Bool, true, false, not, ◌&&◌, ◌||◌, List, [], ◌∷◌, length, codes}
use Rattle.std.specs.Str.{bytes_eq, is_utf8}
use Rattle.std.specs.List.{list_any}
use Rattle.base_core.specs.Name.{is_name}
use Rattle.adb_schema.specs.Reserved.{is_intent_or_stage_name}
use Rattle.adb_fields.specs.Paths.{path_of}

-- ---- lengths of digests in bytes: SHA-1 has 20, SHA-256 32, SHA-512 64

-- whether this is the length of a SHA-1, a SHA-256 or a SHA-512 in bytes
abbrev pub is_digest_length : ℕ → Bool
is_digest_length len = (len == 20) || (len == 32) || (len == 64)

-- whether this is the length of a digest in bytes, or 0
abbrev pub is_digest_length_or_none : ℕ → Bool
is_digest_length_or_none len = (len == 0) || is_digest_length len

-- whether this is the length in bytes of a package's id in an index: the SHA-256 of the package's
-- payload, or its first 20 bytes
abbrev pub is_id_length : ℕ → Bool
is_id_length len = (len == 20) || (len == 32)

-- ---- names

-- whether bytes name a folder: a path, or nothing for the root folder
abbrev pub is_folder_name : List ℕ → Bool
is_folder_name [] = true
is_folder_name (b ∷ rest) = is_name (b ∷ rest)

-- whether bytes are one part of a path: a name without a slash (47)
abbrev pub is_one_part : List ℕ → Bool
is_one_part name = is_name name && not (list_any (λ b. b == 47) name)

-- whether bytes name a file of this folder: they are one part of a path, and the path of the folder and the file
-- has at most 1,024 bytes
abbrev pub is_valid_file_name_in_folder : List ℕ → List ℕ → Bool
is_valid_file_name_in_folder folder name = is_one_part name && nat_le (length (path_of folder name)) 1024

-- whether a change may remove or write the path: it is a name, and not the journal, the staging area,
-- or a name below one of them
abbrev pub is_name_allowed_in_intent : List ℕ → Bool
is_name_allowed_in_intent path = is_name path && not (is_intent_or_stage_name path)

-- ---- other texts

-- whether bytes are a link's target: the bytes 0 and 160, and then a UTF-8 text that is not empty. The two bytes
-- are the type 0xa000 of a symbolic link, with the low byte first
abbrev pub is_link_target : List ℕ → Bool
is_link_target [] = false
is_link_target (low ∷ []) = false
is_link_target (low ∷ high ∷ text) = (low == 0) && (high == 160) && nat_lt 0 (length text) && is_utf8 text

-- whether bytes are a file's target: empty for a file that is no link
abbrev pub is_link_target_or_none : List ℕ → Bool
is_link_target_or_none [] = true
is_link_target_or_none (b ∷ rest) = is_link_target (b ∷ rest)

-- whether bytes are a pattern by which an index names its packages' files: empty, or the only known
-- pattern
abbrev pub is_supported_pkgname_spec : List ℕ → Bool
is_supported_pkgname_spec [] = true
is_supported_pkgname_spec (b ∷ rest) = bytes_eq (b ∷ rest) (codes "${name}-${version}.apk")
