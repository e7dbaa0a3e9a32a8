-- The number of bytes of the contents of all files of a package. Serves the law `contents_are_in_their_container`;
-- contents are defined in `docs/formats.md`, "The other blocks".
use Rattle.std.specs.Prelude.{ℕ, ◌+◌, List, [], ◌∷◌, length}
use Rattle.pkg_core.specs.Contents.{Contents}

-- how many bytes the contents of these files have together
abbrev pub total_size_of_file_contents : List Contents → ℕ
total_size_of_file_contents [] = 0
total_size_of_file_contents (c ∷ cs) = length c.bytes + total_size_of_file_contents cs
