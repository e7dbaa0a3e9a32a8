-- Whether bytes are what a package's entry of a file says of them. The rules are in `docs/commands.md`,
-- "What a change does with files", part "Configuration files", the table; the fields in
-- `docs/formats.md`, "Schemas", table 4.
use Rattle.std.specs.Prelude.{ℕ, ◌==◌, Bool, not, ◌&&◌, if◌then◌else◌, List, ◌++◌, length, drop, codes, bytes_eq, is_none}
use Rattle.adb_view.specs.Plain.{Plain}
use Rattle.adb_view.specs.FieldIndexes.{FILE_HASHES_INDEX, FILE_SIZE_INDEX, FILE_TARGET_INDEX}
use Rattle.adb_view.specs.Values.{entry_at_index, int_in, text_in}
use Rattle.pkg_core.specs.Contents.{fault_if_digest_is_not_of_bytes}

-- the size in bytes that the entry of a file gives; 0 if it gives none
abbrev pub file_size : Plain → ℕ
file_size entry = int_in (entry_at_index entry FILE_SIZE_INDEX)

-- the digest that the entry of a file gives, whose length selects the function; no bytes if the entry
-- gives none
abbrev pub file_hash : Plain → List ℕ
file_hash entry = text_in (entry_at_index entry FILE_HASHES_INDEX)

-- the target that the entry of a file gives: for a link `00 a0` and the link's text, for another file no
-- bytes
abbrev pub file_target : Plain → List ℕ
file_target entry = text_in (entry_at_index entry FILE_TARGET_INDEX)

-- whether the entry is that of a symbolic link: its target is not empty
abbrev pub has_target : Plain → Bool
has_target entry = not (length (file_target entry) == 0)

-- the offset in a target at which the text of the link begins, counted from 0: after `00 a0`
abbrev pub link_text_offset_in_target : ℕ
link_text_offset_in_target = 2

-- the text of a link with this target
abbrev pub link_text_of_target : List ℕ → List ℕ
link_text_of_target target = drop link_text_offset_in_target target

-- the bytes of a file that represents a link to a target: a mark, and the link's text
abbrev pub link_file_bytes_of_target : List ℕ → List ℕ
link_file_bytes_of_target target = codes "!<symlink>" ++ link_text_of_target target

-- the bytes of a file that represents the link of an entry
abbrev pub link_file_bytes_of_entry : Plain → List ℕ
link_file_bytes_of_entry entry = link_file_bytes_of_target (file_target entry)

-- Whether `bytes` are as an entry with this size, hash and target lists them. With a target, they are the
-- bytes of the link; with a hash, they have this hash. With neither, the size is 0 and there are no
-- bytes.
unfoldable pub is_as_listed_by_size_hash_target : ℕ → List ℕ → List ℕ → List ℕ → Bool
is_as_listed_by_size_hash_target size hash target bytes =
    if not (length target == 0) then bytes_eq bytes (link_file_bytes_of_target target)
    else if length hash == 0 then (size == 0) && (length bytes == 0)
    else is_none (fault_if_digest_is_not_of_bytes hash bytes)

-- whether bytes are as an entry lists them
abbrev pub is_as_listed : Plain → List ℕ → Bool
is_as_listed entry bytes =
    is_as_listed_by_size_hash_target (file_size entry) (file_hash entry) (file_target entry) bytes

-- whether two entries of files give the same size, the same hash and the same target
unfoldable pub are_sizes_hashes_targets_equal : Plain → Plain → Bool
are_sizes_hashes_targets_equal a b =
    (file_size a == file_size b)
    && (bytes_eq (file_hash a) (file_hash b) && bytes_eq (file_target a) (file_target b))
