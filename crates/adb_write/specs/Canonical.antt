-- The canonical layout of a payload: the bytes that each value adds, and when a value overflows. The rules are in
-- `docs/formats.md`, "Canonical layout"; the kinds of words, in the table of "Values".
use Rattle.std.specs.Prelude.{ℕ, suc, ◌+◌, ◌-◌, ◌*◌, ◌%◌, ◌^◌, Bool, ◌&&◌, ◌||◌, List, [], ◌∷◌, ◌++◌, length, take, drop, replicate, Option, Some, None, Result, Ok, Err, nat_lt, ◌==◌, bytes_eq, find, if◌then◌else◌}
use Rattle.std.specs.List.{flat_map}
use Rattle.std.specs.Int.{w8, w16, w32, w64, to_le_bytes}
use Rattle.adb_view.specs.Plain.{Plain, null, int, blob, arr, obj, Plains, none, more}
use Rattle.adb_view.specs.Readers.{ARRAY, OBJECT}
pub use Rattle.adb_view.specs.Visits.{MOST_VALUES}

-- how many zeros are between the offset n and the next multiple of `align`
abbrev pub padding_to_alignment_from_offset : ℕ → ℕ → ℕ
padding_to_alignment_from_offset align n = (align - n % align) % align

-- an item: the stored bytes of a value that does not fit into its word, before it is written at an offset
pub record Item : Type 0 where
  -- the kind of the words that point to it
  pub kind : ℕ
  -- the alignment: the offset of the item is a multiple of this number
  pub align : ℕ
  -- the bytes of the item
  pub bytes : List ℕ
  -- how many entries the item has, each of which counts as a value; only a list has entries
  pub entries : ℕ

-- a value as it is written: a word that itself contains the value (`in_place`), or an item to which a word points
-- (`apart`)
pub data Cell : Type 0 where
  in_place : ℕ → Cell
  apart : Item → Cell

-- the item of an integer, in 32 or 64 bits. The kinds of words, here and below, are those of the table in
-- `docs/formats.md`, "Values"
abbrev pub int_item : ℕ → Item
int_item n =
    if nat_lt n (2 ^ 32)
    then record { kind = 2; align = 4; bytes = to_le_bytes w32 n; entries = 0 }
    else record { kind = 3; align = 8; bytes = to_le_bytes w64 n; entries = 0 }

-- an integer as it is written; below 2^28 it is in its word, whose kind is 1
abbrev pub int_cell : ℕ → Cell
int_cell n = if nat_lt n (2 ^ 28) then in_place (2 ^ 28 + n) else apart (int_item n)

-- the item of a blob: the blob's length, in 1, 2 or 4 bytes, and the blob's bytes
abbrev pub blob_item : List ℕ → Item
blob_item b =
    if nat_lt (length b) (2 ^ 8)
    then record { kind = 8; align = 1; bytes = to_le_bytes w8 (length b) ++ b; entries = 0 }
    else if nat_lt (length b) (2 ^ 16)
    then record { kind = 9; align = 2; bytes = to_le_bytes w16 (length b) ++ b; entries = 0 }
    else record { kind = 10; align = 4; bytes = to_le_bytes w32 (length b) ++ b; entries = 0 }

-- a blob as it is written; an empty one is NULL
abbrev pub blob_cell : List ℕ → Cell
blob_cell [] = in_place 0
blob_cell (b ∷ bs) = apart (blob_item (b ∷ bs))

-- the bytes of a run of the words `ws`: the number of words, which counts this number too, and then the words
abbrev pub run_bytes_with_leading_count : List ℕ → List ℕ
run_bytes_with_leading_count ws = to_le_bytes w32 (suc (length ws)) ++ flat_map (to_le_bytes w32) ws

-- the item of an array or an object with these words as entries; `kind` is the kind of the words that point to it (13
-- for an array, 14 for an object)
abbrev pub array_or_object_item : ℕ → List ℕ → Item
array_or_object_item kind ws =
    record { kind = kind; align = 4; bytes = run_bytes_with_leading_count ws; entries = length ws }

-- an array or an object with these words as it is written (`kind` as above); without words it is NULL
abbrev pub array_or_object_cell : ℕ → List ℕ → Cell
array_or_object_cell kind [] = in_place 0
array_or_object_cell kind (w ∷ ws) = apart (array_or_object_item kind (w ∷ ws))

-- words with one more in front; this word is dropped if it is NULL (0) and would be the last one
abbrev pub prepend_unless_last_null : ℕ → List ℕ → List ℕ
prepend_unless_last_null w (v ∷ vs) = w ∷ v ∷ vs
prepend_unless_last_null w [] = if w == 0 then [] else w ∷ []

-- the words of an object without the NULLs at the end
abbrev pub words_without_last_nulls : List ℕ → List ℕ
words_without_last_nulls [] = []
words_without_last_nulls (w ∷ ws) = prepend_unless_last_null w (words_without_last_nulls ws)

-- ---- the layout so far

-- an item that was written. Its length is not recorded
pub record WrittenItem : Type 0 where
  -- the kind of the words that point to it
  pub kind : ℕ
  -- the offset of the item, counted from the end of the payload's head of 8 bytes
  pub offset : ℕ

-- the layout so far: the payload after its head of 8 bytes, the items in it, and the number of its values
pub record Layout : Type 0 where
  -- the bytes of the payload after its head
  pub body : List ℕ
  -- the items in it, the latest first
  pub items : List WrittenItem
  -- how many values there are, including the root
  pub values : ℕ

-- the layout before anything is written: the root alone counts as a value
abbrev pub empty_layout_counting_root : Layout
empty_layout_counting_root = record { body = []; items = []; values = 1 }

-- the offset of the payload's end, including the head of 8 bytes
abbrev pub payload_end_offset : Layout → ℕ
payload_end_offset out = 8 + length out.body

-- whether the written item `there` is equal to the item i: it has the same kind and, in the bytes `body` of the layout,
-- the same bytes
abbrev pub is_equal_item : List ℕ → Item → WrittenItem → Bool
is_equal_item body i there =
    there.kind == i.kind && bytes_eq (take (length i.bytes) (drop there.offset body)) i.bytes

-- the word that points to a written item: the item's kind, and the item's offset including the head of 8 bytes
abbrev pub word_of_written_item : WrittenItem → ℕ
word_of_written_item there = there.kind * 2 ^ 28 + (8 + there.offset)

-- the word of the new item i, and the layout with this item: it is at the next offset that its alignment allows, with
-- zeros before it
abbrev pub word_and_layout_with_new_item : Item → Layout → ℕ × Layout
word_and_layout_with_new_item i out = (
  i.kind * 2 ^ 28 + (payload_end_offset out + padding_to_alignment_from_offset i.align
      (payload_end_offset out)),
  record {
    body = out.body ++ (replicate (padding_to_alignment_from_offset i.align (payload_end_offset out)) 0
        ++ i.bytes);
    items = (record {
      kind = i.kind;
      offset = length out.body + padding_to_alignment_from_offset i.align (payload_end_offset out);
    }) ∷ out.items;
    values = out.values + i.entries;
  },
)

-- the word of the item i, and the layout with this item. If an equal item was written (`there`), the word of that item
-- is returned, no bytes are added, and only the entries are counted
abbrev pub word_and_layout_with_reused_or_new_item : Option WrittenItem → Item → Layout → ℕ × Layout
word_and_layout_with_reused_or_new_item None i out = word_and_layout_with_new_item i out
word_and_layout_with_reused_or_new_item (Some there) i out =
    (word_of_written_item there, record out { values = out.values + i.entries })

-- the word of the item i, and the layout with this item, which is written unless an equal item was written before
abbrev pub word_and_layout_with_item : Item → Layout → ℕ × Layout
word_and_layout_with_item i out =
    word_and_layout_with_reused_or_new_item (find (is_equal_item out.body i) out.items) i out

-- the word of a value, and the layout with the value's item, if the word does not contain the value itself
abbrev pub word_and_layout_with_cell : Cell → Layout → ℕ × Layout
word_and_layout_with_cell (in_place w) out = (w, out)
word_and_layout_with_cell (apart i) out = word_and_layout_with_item i out

-- the word of an array or an object with these words (`kind` is 13 or 14), and the layout with this list
abbrev pub word_and_layout_with_array_or_object : ℕ → List ℕ → Layout → ℕ × Layout
word_and_layout_with_array_or_object kind ws out =
    word_and_layout_with_cell (array_or_object_cell kind ws) out

-- the word of a value, and the layout with this value: its entries are written in order, then its own item
unfoldable mutual
  pub write : Plain → Layout → ℕ × Layout
  write null out = (0, out)
  write (int n) out = word_and_layout_with_cell (int_cell n) out
  write (blob b) out = word_and_layout_with_cell (blob_cell b) out
  write (arr vs) out = word_and_layout_with_array_or_object ARRAY (write_all vs out).0 (write_all vs out).1
  write (obj vs) out =
      word_and_layout_with_array_or_object OBJECT (words_without_last_nulls (write_all vs out).0)
      (write_all vs out).1

  -- the words of values that are written in order, and the layout with these values
  pub write_all : Plains → Layout → List ℕ × Layout
  write_all none out = ([], out)
  write_all (more v vs) out =
      ((write v out).0 ∷ (write_all vs (write v out).1).0, (write_all vs (write v out).1).1)

-- the payload of a layout; `root` is the word of the root. First four bytes 0 (the version 0, and three ignored bytes),
-- then the root's word, then the bytes of the layout
abbrev pub payload_with_root_word_in_head : ℕ → Layout → List ℕ
payload_with_root_word_in_head root out = 0 ∷ 0 ∷ 0 ∷ 0 ∷ (to_le_bytes w32 root ++ out.body)

-- the canonical payload of a value
abbrev pub canonical : Plain → List ℕ
canonical v =
    payload_with_root_word_in_head (write v empty_layout_counting_root).0
    (write v empty_layout_counting_root).1

-- ---- limits

-- how many bytes a payload may have: 2^28 - 1, since the offsets in words have 28 bits
abbrev pub MOST_BYTES : ℕ
MOST_BYTES = 268435455

-- how many bytes a payload has, and how many values, in this order
abbrev pub ByteAndValueCounts : Type 0
ByteAndValueCounts = ℕ × ℕ

-- the two counts of a layout: bytes, including the head, and values
abbrev pub layout_counts : Layout → ByteAndValueCounts
layout_counts out = (payload_end_offset out, out.values)

-- whether one of the two counts is above its limit (*MOST_BYTES*, *MOST_VALUES*)
abbrev pub exceeds_a_limit : ByteAndValueCounts → Bool
exceeds_a_limit c = nat_lt MOST_BYTES c.0 || nat_lt MOST_VALUES c.1

-- the two counts just after each value that is written, in the order of writing; `out` is the layout before the value
unfoldable mutual
  pub counts_after_values : Plain → Layout → List ByteAndValueCounts
  counts_after_values null out = []
  counts_after_values (int n) out = layout_counts (write (int n) out).1 ∷ []
  counts_after_values (blob b) out = layout_counts (write (blob b) out).1 ∷ []
  counts_after_values (arr vs) out = trace_all vs out ++ layout_counts (write (arr vs) out).1 ∷ []
  counts_after_values (obj vs) out = trace_all vs out ++ layout_counts (write (obj vs) out).1 ∷ []

  -- the two counts just after each of these values and of the values below them
  pub trace_all : Plains → Layout → List ByteAndValueCounts
  trace_all none out = []
  trace_all (more v vs) out = counts_after_values v out ++ trace_all vs (write v out).1

-- the two counts just after the first value in `v` that brings one of them above its limit; None if no value does
abbrev pub counts_at_first_overflow : Plain → Option ByteAndValueCounts
counts_at_first_overflow v = find exceeds_a_limit (counts_after_values v empty_layout_counting_root)

-- the payload, unless there are counts at which a value overflows
abbrev pub payload_unless_overflow : List ℕ → Option ByteAndValueCounts → Result (List ℕ) ByteAndValueCounts
payload_unless_overflow payload None = Ok payload
payload_unless_overflow payload (Some counts) = Err counts

-- the result of writing a value: its canonical payload, or the counts at which it overflows
unfoldable pub payload_or_counts_at_overflow : Plain → Result (List ℕ) ByteAndValueCounts
payload_or_counts_at_overflow v = payload_unless_overflow (canonical v) (counts_at_first_overflow v)
