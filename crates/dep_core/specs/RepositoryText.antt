-- Which repositories a line of `etc/apk/repositories` can name, and a text that names given repositories. The rules are
-- in `docs/formats.md`, "Repositories"; serves the law `repositories_are_read_back`.
use Rattle.std.specs.Prelude.{ℕ, ◌==◌, Bool, not, ◌&&◌, List, [], ◌∷◌, ◌++◌, Option, Some, None}
use Rattle.std.specs.List.{list_all, suffix_len}
use Rattle.base_core.specs.Name.{is_name}
use Rattle.dep_core.specs.DependencyText.{is_tag_or_none}
use Rattle.dep_core.specs.Repositories.{Repository}
use Rattle.dep_core.specs.World.{is_blank, is_line_end}

-- whether a line can have this path: it is a name, has no line end, and does not end with a space or a tab
abbrev pub is_path_writable_in_line : List ℕ → Bool
is_path_writable_in_line path =
    is_name path && (list_all (λ b. not (is_line_end b)) path && (suffix_len is_blank path == 0))

-- whether a line can name this repository: its tag is a tag, and a line can have its path
abbrev pub is_repository_writable_as_line : Repository → Bool
is_repository_writable_as_line found = is_tag_or_none found.tag && is_path_writable_in_line found.path

-- the text before the path: `@` (64), the tag and a space (32), or nothing if there is no tag
abbrev pub tag_prefix : Option (List ℕ) → List ℕ
tag_prefix None = []
tag_prefix (Some tag) = 64 ∷ (tag ++ (32 ∷ []))

-- a text that names these repositories, each on a line: its tag, if any, a slash (47), its path, and a line end (10)
abbrev pub repositories_text : List Repository → List ℕ
repositories_text [] = []
repositories_text (found ∷ rest) =
    (tag_prefix found.tag ++ (47 ∷ found.path)) ++ (10 ∷ repositories_text rest)
