-- The world of a text, defined independently of how the text is read. The rules are in `docs/formats.md`, "World"; the
-- laws in `src/laws.rt` prove that *world_of* agrees with this definition.
use Rattle.std.specs.Prelude.{◌≡◌, ℕ, ◌+◌, ◌<◌, Bool, true, false, not, ◌&&◌, List, [], ◌∷◌, length, map, take, Some, is_ok}
use Rattle.std.specs.List.{flat_map}
use Rattle.std.specs.List.Sorted.{IsPermutation}
use Rattle.dep_core.specs.Dependency.{Dependency}
use Rattle.dep_core.specs.Reading.{dependency_of}
use Rattle.dep_core.specs.World.{IsWorldSortedByName, has_dependency_named, lines_of, world_with_lines, words_between_blanks}

-- the words of all lines of a text, in their order
abbrev pub words_in : List ℕ → List (List ℕ)
words_in text = flat_map words_between_blanks (lines_of text)

-- whether no two of some dependencies have the same name
abbrev pub have_different_names : List Dependency → Bool
have_different_names [] = true
have_different_names (d ∷ rest) = not (has_dependency_named d.name rest) && have_different_names rest

-- `world` is the world of the text: each word of the text is a dependency, no name occurs twice, and the world has
-- exactly these dependencies, in byte order of their names
pub record IsSortedWorldOfTextWithoutRepeatedNames (text : List ℕ) (world : List Dependency) : Type 0 where
  -- the dependencies of the words, in the order of the words
  pub entries : List Dependency
  -- each word is a dependency
  pub read : map dependency_of (words_in text) ≡ map Some entries
  -- no two of these dependencies have the same name
  pub apart : have_different_names entries ≡ true
  -- the world has these dependencies, perhaps in another order
  pub same : IsPermutation entries world
  -- the world is in byte order of the names
  pub in_order : IsWorldSortedByName world

-- `line`, counted from 1, is the first bad line of the text: the lines before it are a world, but together with it they
-- are not
pub record IsFirstBadLineOfWorldText (text : List ℕ) (line : ℕ) : Type 0 where
  -- how many lines precede the bad line
  pub before : ℕ
  -- the number of the bad line counts from 1
  pub number : line ≡ before + 1
  -- the text has a line with this number
  pub within : before < length (lines_of text)
  -- the lines before the bad line are a world
  pub good_before : is_ok (world_with_lines [] 1 (take before (lines_of text))) ≡ true
  -- the lines before it, together with the bad line, are not a world
  pub bad_with : is_ok (world_with_lines [] 1 (take (before + 1) (lines_of text))) ≡ false
