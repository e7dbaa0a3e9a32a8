-- The names that the program compares, and their order. Serves the contracts of `src/pairs.rt` and
-- `src/name_lists.rt`; the rule is in `docs/formats.md`, "Names that stand twice".
use Rattle.std.specs.Prelude.{ℕ, List, [], ◌∷◌, Option}
use Rattle.adb_fields.specs.Repeated.{list_of}
use Rattle.adb_fields.specs.JoinedPath.{joined_path}
use Rattle.std.specs.Ordering.{nat_cmp, ordering_then}
use Rattle.std.specs.declared.cmp.Ordering.{Ordering}
use Rattle.std.specs.Cmp.Lexicographic.{slice_cmp}
use Rattle.adb_fields.specs.Pairs.{NameWithPosition, pair_if_same_name_and_first_precedes}
use Rattle.adb_fields.specs.declared.pairs.Pair.{Pair}
use Rattle.adb_view.specs.Plain.{Plain}
use Rattle.adb_view.specs.Values.{entries_in}
use Rattle.adb_fields.specs.Fields.{array_at}
use Rattle.adb_view.specs.declared.tables.Kind.{Kind}
use Rattle.adb_fields.specs.declared.pairs.PathWithPosition.{PathWithPosition}

-- the name with its position that an entry of the program's list represents. If the entry has a folder, the name is
-- the joined path
abbrev pub joined_name_with_position : PathWithPosition → NameWithPosition
joined_name_with_position e = record { name = joined_path e.path; position = e.position }

-- the order in which names are sorted: in byte order, and equal names by position
abbrev pub name_with_position_cmp : NameWithPosition → NameWithPosition → Ordering
name_with_position_cmp x y = ordering_then (slice_cmp nat_cmp x.name y.name) (nat_cmp x.position y.position)

-- for the name x and each of the names after it: the pair of positions of this name and the next one, if the two
-- names are equal and this position is the smaller one, otherwise None
abbrev pub neighbours_from : NameWithPosition → List NameWithPosition → List (Option Pair)
neighbours_from x [] = []
neighbours_from x (y ∷ ys) = pair_if_same_name_and_first_precedes x y ∷ neighbours_from y ys

-- for each name of a list but the last: the pair of positions of this name and the next one, if the two names are
-- equal and this position is the smaller one, otherwise None
abbrev pub neighbours : List NameWithPosition → List (Option Pair)
neighbours [] = []
neighbours (x ∷ xs) = neighbours_from x xs

-- a name with its position
abbrev pub name_with_position : List ℕ → ℕ → NameWithPosition
name_with_position name position = record { name = name; position = position }

-- the plain values of the entries of an array in the payload `p`: `words` are its words, and `k` is the kind of each
-- entry
abbrev pub plains_of_array_words : List ℕ → Kind → List ℕ → List Plain
plains_of_array_words p k words = list_of (entries_in (array_at p k words))
