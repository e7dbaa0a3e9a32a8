-- The program's type `Parts`, an item before it is written, as an *Item* of the layout. Serves the contracts of
-- `src/item.rt`; the layout is in `docs/formats.md`, "Canonical layout" ("Values are written depth first").
use Rattle.std.specs.Prelude.{ℕ, ◌<◌, ◌^◌, List, []}
use Rattle.std.specs.List.{flat_map}
use Rattle.std.specs.Int.{w32, to_le_bytes}
use Rattle.adb_view.specs.Readers.{ARRAY, OBJECT}
use Rattle.adb_write.specs.Canonical.{Item, int_item, blob_item, array_or_object_item}
use Rattle.adb_write.specs.declared.item.Width.{Width}
use Rattle.adb_write.specs.declared.item.Width.TheVariants.{One, Two, Four, Eight}
use Rattle.adb_write.specs.declared.item.ListKind.{ListKind}
use Rattle.adb_write.specs.declared.item.ListKind.TheVariants.{Array, Object}
use Rattle.adb_write.specs.declared.item.Parts.{Parts}
use Rattle.adb_write.specs.declared.item.Parts.TheVariants.{Int, Blob, List as Listed}

-- how many bytes a number of this width has
abbrev pub width_len : Width → ℕ
width_len One = 1
width_len Two = 2
width_len Four = 4
width_len Eight = 8

-- the kind of the words that point to a list: an array or an object
abbrev pub list_kind : ListKind → ℕ
list_kind Array = ARRAY
list_kind Object = OBJECT

-- the bytes of an item that follow the number with which it begins: none for an integer
abbrev pub content_bytes : Parts → List ℕ
content_bytes (Int n) = []
content_bytes (Blob b) = b.now
content_bytes (Listed kind ws) = flat_map (to_le_bytes w32) ws.now

-- the item of the layout that a `Parts` represents
abbrev pub item_of : Parts → Item
item_of (Int n) = int_item n
item_of (Blob b) = blob_item b.now
item_of (Listed kind ws) = array_or_object_item (list_kind kind) ws.now

-- an integer in a `Parts` has 64 bits, as in the program
abbrev pub HasNumbersInRange : Parts → Type 0
HasNumbersInRange (Int n) = n < 2 ^ 64
HasNumbersInRange (Blob b) = Unit {0}
HasNumbersInRange (Listed kind ws) = Unit {0}
