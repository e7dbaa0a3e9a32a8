-- What a `ListedFile` says of bytes, and how a file of a tree compares with two of them. It serves the
-- contracts of `compare_file`, `listed_file` and `ListedFile::agrees`.
use Rattle.std.specs.Prelude.{◌≡◌, ℕ, Bool, false, List, Option, Some, None}
use Rattle.std.specs.Option.{option_map}
use Rattle.adb_view.specs.Plain.{Plain}
use Rattle.file_guard.specs.AsListed.{file_hash, file_size, file_target, is_as_listed_by_size_hash_target}
use Rattle.file_guard.specs.declared.compare.Comparison.{Comparison}
use Rattle.file_guard.specs.declared.compare.ListedFile.{ListedFile}

-- a `ListedFile` says of the bytes what the entry says
pub record DescribesEntry (listed : ListedFile) (entry : Plain) : Type 0 where
  -- the size is the entry's
  pub size : listed.size ≡ file_size entry
  -- the digest is the entry's
  pub hash : listed.hash.now ≡ file_hash entry
  -- the link target is the entry's
  pub target : listed.target.now ≡ file_target entry

-- whether the bytes are as the `ListedFile` describes them; without a `ListedFile`, no bytes are
abbrev pub is_as_described : Option ListedFile → List ℕ → Bool
is_as_described None bytes = false
is_as_described (Some listed) bytes =
    is_as_listed_by_size_hash_target listed.size listed.hash.now listed.target.now bytes

-- the two answers for these bytes: whether they are as the first `ListedFile` (`new`) describes, and
-- whether they are as the second one (`old`) describes
abbrev pub comparison_of_bytes : Option ListedFile → Option ListedFile → List ℕ → Comparison
comparison_of_bytes new old bytes =
    record { as_new = is_as_described new bytes; as_old = is_as_described old bytes }

-- the two answers for the file that was found under a name; None if there is no file
abbrev pub comparison_of_found_file : Option ListedFile → Option ListedFile → Option (List ℕ)
    → Option Comparison
comparison_of_found_file new old found = option_map (comparison_of_bytes new old) found
