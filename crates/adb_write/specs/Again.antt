-- Items whose first bytes give their length, so that an equal item can be found in the payload, and the word of a blob
-- that is written again. Serves the contracts of `blob_word` and `blob_again` of `adb_values`; that equal values are
-- stored once is stated in `docs/formats.md`, "Canonical layout" ("Equal values are stored once").
use Rattle.std.specs.Prelude.{◌≡◌, ℕ, ◌+◌, ◌*◌, ◌<◌, ◌≤◌, ◌==◌, true, false, List, length, take, if◌then◌else◌}
use Rattle.std.specs.List.{AllByRecursion}
use Rattle.std.specs.Int.{w8, w16, w32, from_le_bytes}
use Rattle.adb_write.specs.Canonical.{Item, Layout, WrittenItem, is_equal_item}
use Rattle.adb_write.specs.Writing.{Writing, blob_call, is_past_limit, layout_of}

-- how many bytes at the beginning of an item of this kind give its length (the kinds 8 and 9 are blobs whose length
-- has 1 or 2 bytes)
abbrev pub len_of_length_field : ℕ → ℕ
len_of_length_field kind = if kind == 8 then 1 else if kind == 9 then 2 else 4

-- the length in bytes of an item, by its kind and its first bytes `front`: 4 or 8 for an integer (kinds 2, 3); 1, 2 or
-- 4 plus the number in `front` for a blob (kinds 8, 9, 10); 4 times this number for a list
abbrev pub item_len_from_front : ℕ → List ℕ → ℕ
item_len_from_front kind front =
    if kind == 2 then 4 else
    if kind == 3 then 8 else
    if kind == 8 then 1 + from_le_bytes w8 front else
    if kind == 9 then 2 + from_le_bytes w16 front else
    if kind == 10 then 4 + from_le_bytes w32 front else
    4 * from_le_bytes w32 front

-- the kind and the first bytes of the item give its length
pub record HasLengthInFront (i : Item) : Type 0 where
  -- the item has bytes
  pub some : 0 < length i.bytes
  -- the item has all bytes that give its length
  pub long : len_of_length_field i.kind ≤ length i.bytes
  -- the length of the item is the one that these bytes give
  pub len : length i.bytes ≡ item_len_from_front i.kind (take (len_of_length_field i.kind) i.bytes)

-- the bytes of a layout (`body`) have, at the offset of the written item x, an item of its kind whose first bytes give
-- its length
pub record IsItemInBytes (body : List ℕ) (x : WrittenItem) : Type 0 where
  -- the item
  pub what : Item
  -- the kind and the first bytes of this item give its length
  pub framed : HasLengthInFront what
  -- this item is at the offset of the written item, and has the same kind
  pub equal : is_equal_item body what x ≡ true

-- each written item of the layout is in the bytes of the layout, where it begins with its length
pub record HasItemsInBytes (out : Layout) : Type 0 where
  -- each written item is there
  pub all : AllByRecursion (IsItemInBytes out.body) out.items

-- each written item of the writer is in the writer's bytes, and the count of bytes is right
pub record HasAllItemsInBytes (w : Writing) : Type 0 where
  -- each written item is in the bytes of the writer
  pub whole : HasItemsInBytes (layout_of w)
  -- the count of bytes is that of the payload, with its head of 8 bytes
  pub bytes : w.bytes ≡ 8 + length w.body

-- unless the writer passed a limit, each of its written items is in its bytes
abbrev pub HasAllItemsUnlessPastLimit : Writing → Type 0
HasAllItemsUnlessPastLimit w = is_past_limit w ≡ false → HasAllItemsInBytes w

-- unless the writer passed a limit, the call for a blob with these bytes returns this word and changes nothing
abbrev pub IsWordOfBlob : Writing → List ℕ → ℕ → Type 0
IsWordOfBlob w bytes word =
    is_past_limit w ≡ false → ◌≡◌ {A = ℕ × Writing} (blob_call bytes w) (word, w)
