-- The remembered results of the searches for a repeated name in lists of objects. The result for a list is the
-- first pair of positions with the same name, or None. It is remembered by the word of the list, since many folders
-- or packages may share one list. Serves the contract of `KnownLists::least_positions_of_name_twice_in_list`; the
-- rule is in `docs/formats.md`, "Names that stand twice".
use Rattle.std.specs.Prelude.{◌≡◌, ℕ, List, map, Option, Some}
use Rattle.std.specs.BTreeMap.{BTreeMap, get}
use Rattle.std.specs.Ordering.{nat_cmp}
use Rattle.adb_view.specs.Values.{entries_in, value_at}
use Rattle.adb_view.specs.declared.tables.Which.{Which}
use Rattle.adb_view.specs.declared.tables.Kind.TheVariants.{ObjArr}
use Rattle.adb_fields.specs.Repeated.{least_positions_of_name_twice_in_list, list_of, name_of}
use Rattle.adb_fields.specs.declared.pairs.Pair.{Pair}

-- the first pair of positions at which the list of objects with this word has the same name; None if there is none.
-- The objects are of the table `which`
abbrev pub repeated_name_pair_at : List ℕ → Which → ℕ → Option Pair
repeated_name_pair_at payload which word = least_positions_of_name_twice_in_list (map name_of
    (list_of (entries_in (value_at payload (ObjArr which) word))))

-- `pairs` maps words of lists to results: the result of each word is the first pair of positions with the same name in
-- the list of this word, or None if no name occurs twice there
abbrev pub AreFirstRepeatsOfWords : List ℕ → Which → BTreeMap ℕ (Option Pair) → Type 0
AreFirstRepeatsOfWords payload which pairs = (word : ℕ) → (pair : Option Pair)
    → get nat_cmp pairs word ≡ Some pair → pair ≡ repeated_name_pair_at payload which word
