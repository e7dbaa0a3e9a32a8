-- Files and paths, as operands and values name them. The rules are in `docs/commands.md`, "Words", the
-- last paragraph and the row of `-o`; for a path in "`info`".
use Rattle.std.specs.Prelude.{ℕ, nat_le, Bool, ◌&&◌, List, length, take, drop, codes, if◌then◌else◌}
use Rattle.std.specs.Str.{bytes_eq}
use Rattle.base_core.specs.Name.{is_name}
use Rattle.dep_core.specs.LeadingSlash.{without_leading_slash}

-- a text without one leading `./`
abbrev pub without_one_leading_dot_slash : List ℕ → List ℕ
without_one_leading_dot_slash text = if bytes_eq (take 2 text) (codes "./") then drop 2 text else text

-- whether a text names a file: without one leading `./` it is a valid name. Whether the file exists does
-- not matter
abbrev pub is_file_argument : List ℕ → Bool
is_file_argument text = is_name (without_one_leading_dot_slash text)

-- the longest path of a file that is made, in bytes: its scratch name, the path with `.apk-tmp` after
-- it, has eight bytes more, and a name at most 1,024
abbrev pub most_output_path_bytes : ℕ
most_output_path_bytes = 1016

-- whether a text names a file that may be written: without one leading `./` it has at most 1,016 bytes
abbrev pub is_file_argument_within_output_length : List ℕ → Bool
is_file_argument_within_output_length text =
    is_file_argument text && nat_le (length (without_one_leading_dot_slash text)) most_output_path_bytes

-- whether a text is a path, as `info --who-owns` takes one: one leading `/` is dropped, and the rest is
-- a name
abbrev pub is_name_with_optional_leading_slash : List ℕ → Bool
is_name_with_optional_leading_slash text = is_name (without_leading_slash text)
