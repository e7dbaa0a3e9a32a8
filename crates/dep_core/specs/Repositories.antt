-- Repositories: the paths of indexes, one on each line, some under a tag. The rules are in
-- `docs/formats.md`, "Repositories".
use Rattle.std.specs.Prelude.{ℕ, ◌+◌, ◌-◌, ◌==◌, Bool, true, false, ◌&&◌, if◌then◌else◌, List, [], ◌∷◌, ◌++◌, length, take, Option, Some, None, Result, Ok, Err}
use Rattle.std.specs.Option.{option_map}
use Rattle.std.specs.List.{suffix_len, take_while}
use Rattle.base_core.specs.Name.{is_name}
use Rattle.dep_core.specs.Dependency.{is_tag_byte, is_tag}
use Rattle.dep_core.specs.LeadingSlash.{without_leading_slash}
use Rattle.dep_core.specs.Reading.{without_leading_bytes}
use Rattle.dep_core.specs.World.{is_blank, lines_of}

-- a repository: the path of the file of its index, and the tag by which world may ask for its packages
pub record Repository : Type 0 where
  -- the tag of the repository, if it has one
  pub tag : Option (List ℕ)
  -- the path of the index file
  pub path : List ℕ

-- a repository from its parts
abbrev pub repository : Option (List ℕ) → List ℕ → Repository
repository tag path = record { tag = tag; path = path }

-- the text without the spaces and tabs at its end
abbrev pub without_trailing_blanks : List ℕ → List ℕ
without_trailing_blanks text = take (length text - suffix_len is_blank text) text

-- the text without spaces and tabs at both ends
abbrev pub without_outer_blanks : List ℕ → List ℕ
without_outer_blanks text = without_trailing_blanks (without_leading_bytes is_blank text)

-- whether a line is skipped, given the line without blanks at both ends: it is empty, or begins with `#` (35)
abbrev pub is_trimmed_line_empty_or_comment : List ℕ → Bool
is_trimmed_line_empty_or_comment [] = true
is_trimmed_line_empty_or_comment (b ∷ rest) = b == 35

-- whether the first byte is a space or a tab
abbrev pub begins_with_blank : List ℕ → Bool
begins_with_blank [] = false
begins_with_blank (b ∷ rest) = is_blank b

-- the repository at a path, perhaps under a tag: one leading slash is dropped, and the rest must be a
-- name
abbrev pub repository_at_path : Option (List ℕ) → List ℕ → Option Repository
repository_at_path tag path =
    if is_name (without_leading_slash path) then Some
    (repository tag (without_leading_slash path)) else None

-- the repository of a line, given the text after the `@` of the line: a tag, blanks, and a path
unfoldable pub repository_after_at_sign : List ℕ → Option Repository
repository_after_at_sign text =
    let tag = take_while is_tag_byte text in
    let rest = without_leading_bytes is_tag_byte text in
    if is_tag tag && begins_with_blank rest then repository_at_path (Some tag)
    (without_leading_bytes is_blank rest)
    else None

-- the repository of a line that is not skipped, given without blanks at both ends; `@` (64) precedes a tag
unfoldable pub repository_of : List ℕ → Option Repository
repository_of [] = None
repository_of (b ∷ rest) =
    if b == 64 then repository_after_at_sign rest else repository_at_path None (b ∷ rest)

-- the list of one repository
abbrev pub singleton : Repository → List Repository
singleton found = found ∷ []

-- the repositories on a line: none if the line is skipped, otherwise one. None if the line is bad
abbrev pub repositories_on_line : List ℕ → Option (List Repository)
repositories_on_line line =
    if is_trimmed_line_empty_or_comment (without_outer_blanks line) then Some []
    else option_map singleton (repository_of (without_outer_blanks line))

-- the repositories of a line, followed by those of the later lines (`rest`); if the line is bad
-- (None), its number
abbrev pub with_repositories_of_line : ℕ → Option (List Repository) → Result (List Repository) ℕ
    → Result (List Repository) ℕ
with_repositories_of_line line None rest = Err line
with_repositories_of_line line (Some found) (Ok rest) = Ok (found ++ rest)
with_repositories_of_line line (Some found) (Err bad) = Err bad

-- the repositories of some lines, the first of which has this number; or else the number of the first
-- bad line
abbrev pub repositories_from : ℕ → List (List ℕ) → Result (List Repository) ℕ
repositories_from line [] = Ok []
repositories_from line (text ∷ rest) =
    with_repositories_of_line line (repositories_on_line text) (repositories_from (line + 1) rest)

-- the repositories that a text names, or the number of its first bad line, counted from 1
unfoldable pub repositories_of : List ℕ → Result (List Repository) ℕ
repositories_of text = repositories_from 1 (lines_of text)
