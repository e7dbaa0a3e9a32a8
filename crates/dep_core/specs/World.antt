-- World, after apk-world(5): the dependencies that the user asks for, one for each name, in byte order
-- of the names. The rules are in `docs/formats.md`, "World".
use Rattle.std.specs.Prelude.{ℕ, ◌+◌, ◌==◌, Bool, true, not, ◌&&◌, ◌||◌, if◌then◌else◌, List, [], ◌∷◌, ◌++◌, length, Option, Some, None, option_and_then, Result, Ok, Err, IsTrue}
use Rattle.std.specs.List.{filter, list_all, list_any, slice_split}
use Rattle.std.specs.Ordering.{is_lt, match_ordering}
use Rattle.std.specs.Str.{bytes_eq}
use Rattle.base_core.specs.ByteOrder.{bytes_cmp}
use Rattle.dep_core.specs.Dependency.{Dependency}
use Rattle.dep_core.specs.DependencyText.{dep_text, is_dependency}
use Rattle.dep_core.specs.Reading.{dependency_of}

-- whether the name of each dependency precedes, in byte order, the names of those after it
abbrev pub is_in_order : List Dependency → Bool
is_in_order [] = true
is_in_order (d ∷ rest) =
    list_all (λ (e : Dependency). is_lt (bytes_cmp d.name e.name)) rest && is_in_order rest

-- the list is a world: valid dependencies in byte order of their names, each name once
abbrev pub IsWorldSortedByName : List Dependency → Type 0
IsWorldSortedByName world = IsTrue (list_all is_dependency world && is_in_order world)

-- whether one of the dependencies has this name
abbrev pub has_dependency_named : List ℕ → List Dependency → Bool
has_dependency_named name world = list_any (λ (d : Dependency). bytes_eq d.name name) world

-- world with this dependency: it replaces the entry with its name, or is inserted in the order of
-- the names
abbrev pub world_with_dependency_put_in_name_order : Dependency → List Dependency → List Dependency
world_with_dependency_put_in_name_order d [] = d ∷ []
world_with_dependency_put_in_name_order d (e ∷ rest) =
    match_ordering (bytes_cmp d.name e.name) (d ∷ (e ∷ rest)) (d ∷ rest)
    (e ∷ world_with_dependency_put_in_name_order d rest)

-- world without the entry of a name
abbrev pub world_without_name : List ℕ → List Dependency → List Dependency
world_without_name name world = filter (λ (d : Dependency). not (bytes_eq d.name name)) world

-- the text of a world: a line for each entry, which ends with a line end (10)
abbrev pub world_text : List Dependency → List ℕ
world_text [] = []
world_text (d ∷ rest) = dep_text d ++ (10 ∷ world_text rest)

-- whether a byte is a blank: a space (32) or a tab (9)
abbrev pub is_blank : ℕ → Bool
is_blank b = (b == 32) || (b == 9)

-- whether a byte is a line end (10)
abbrev pub is_line_end : ℕ → Bool
is_line_end b = b == 10

-- the lines of a text, which is split at each line end; the text after the last line end is a line
-- too
abbrev pub lines_of : List ℕ → List (List ℕ)
lines_of text = slice_split is_line_end text

-- the words of a line, between blanks
abbrev pub words_between_blanks : List ℕ → List (List ℕ)
words_between_blanks line = filter (λ word. not (length word == 0)) (slice_split is_blank line)

-- world with this dependency as a new entry, or None if an entry has its name
abbrev pub world_with_new_dependency : List Dependency → Dependency → Option (List Dependency)
world_with_new_dependency world d =
    if has_dependency_named d.name world then None else Some
    (world_with_dependency_put_in_name_order d world)

-- world with the entries of some words; None if a word is no dependency, or repeats the name of an entry
abbrev pub world_with_words : List Dependency → List (List ℕ) → Option (List Dependency)
world_with_words world [] = Some world
world_with_words world (word ∷ words) =
    option_and_then (λ more. world_with_words more words)
    (option_and_then (world_with_new_dependency world) (dependency_of word))

-- the result of `next` for the world that includes the entries of a line; if the line is bad
-- (None), its number
abbrev pub or_bad_line : ℕ → (List Dependency → Result (List Dependency) ℕ)
    → Option (List Dependency) → Result (List Dependency) ℕ
or_bad_line line next None = Err line
or_bad_line line next (Some world) = next world

-- world with the entries of some lines, the first of which has this number; or else the number of the
-- first bad line
abbrev pub world_with_lines : List Dependency → ℕ → List (List ℕ) → Result (List Dependency) ℕ
world_with_lines world line [] = Ok world
world_with_lines world line (text ∷ rest) =
    or_bad_line line (λ more. world_with_lines more (line + 1) rest)
    (world_with_words world (words_between_blanks text))

-- the world that a text denotes, or the number of its first bad line, counted from 1
unfoldable pub world_of : List ℕ → Result (List Dependency) ℕ
world_of text = world_with_lines [] 1 (lines_of text)
