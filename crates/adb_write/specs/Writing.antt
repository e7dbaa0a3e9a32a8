-- A writer as contracts see it: the bytes and the items written so far, two counts, and the effect of each call of
-- `Writer`. The rules are in `docs/formats.md`, "Canonical layout"; the results past a limit, below "A payload has at
-- most".
use Rattle.std.specs.Prelude.{ℕ, ◌<◌, Bool, List, [], ◌∷◌, length, Result, Ok, Err, if◌then◌else◌}
use Rattle.adb_view.specs.Plain.{Plain, null, int, blob, arr, obj, Plains, none, more}
use Rattle.adb_view.specs.Readers.{ARRAY, OBJECT}
use Rattle.adb_write.specs.Canonical.{WrittenItem, Cell, in_place, apart, int_cell, blob_cell, array_or_object_cell, words_without_last_nulls, Layout, word_and_layout_with_cell, ByteAndValueCounts, layout_counts, exceeds_a_limit, payload_with_root_word_in_head}

-- the state of a writer: the written bytes and items, and the counts of bytes and values. The counts are those of the
-- written values. If a value exceeded a limit, they are the counts just after this value
pub record Writing : Type 0 where
  -- the bytes of the payload after its head of 8 bytes
  pub body : List ℕ
  -- the items in it, the latest first
  pub items : List WrittenItem
  -- how many bytes there are, including the head
  pub bytes : ℕ
  -- how many values there are, including the root
  pub values : ℕ

-- the writer that has written these bytes and items, with these counts
abbrev pub writing_from_parts : List ℕ → List WrittenItem → ℕ → ℕ → Writing
writing_from_parts body items bytes values =
    record { body = body; items = items; bytes = bytes; values = values }

-- the writer that has written nothing: it counts the 8 bytes of the head, and the root as the only value
abbrev pub empty_writing_counting_root : Writing
empty_writing_counting_root = writing_from_parts [] [] 8 1

-- the two counts of a writer: its bytes and its values
abbrev pub writing_counts : Writing → ByteAndValueCounts
writing_counts w = (w.bytes, w.values)

-- whether a writer passed a limit: one of its counts is above the limit
abbrev pub is_past_limit : Writing → Bool
is_past_limit w = exceeds_a_limit (writing_counts w)

-- the items and the counts of a writer, as a layout
abbrev pub layout_of : Writing → Layout
layout_of w = record { body = w.body; items = w.items; values = w.values }

-- the writer of a layout whose counts exceed no limit
abbrev pub writing_of : Layout → Writing
writing_of out = writing_from_parts out.body out.items (layout_counts out).0 (layout_counts out).1

-- the word that a call returns and the writer afterwards. `w` is the writer before, and `r` the word and the layout
-- that the definition of the layout gives. If the counts of this layout exceed a limit, the writer gets these counts,
-- but no new bytes and items, and the word is NULL
abbrev pub unless_past_limit : Writing → ℕ × Layout → ℕ × Writing
unless_past_limit w r =
    if exceeds_a_limit (layout_counts r.1)
    then (0, record (writing_of r.1) { body = w.body; items = w.items })
    else (r.0, writing_of r.1)

-- the word that a call for this value returns, and the writer afterwards. From the first value on that exceeds a limit,
-- the word is NULL. A value that its word itself contains adds nothing
unfoldable pub call : Cell → Writing → ℕ × Writing
call (in_place word) w = ((if is_past_limit w then 0 else word), w)
call (apart i) w =
    if is_past_limit w then (0, w) else unless_past_limit w (word_and_layout_with_cell (apart i)
    (layout_of w))

-- a writer has more bytes in the state `later` than in the state `before`, so it needed memory
abbrev pub Grows : Writing → Writing → Type 0
Grows before later = length before.body < length later.body

-- the word that the call `int` returns, and the writer afterwards
abbrev pub int_call : ℕ → Writing → ℕ × Writing
int_call n w = call (int_cell n) w

-- the word that the call `blob` returns for these bytes, and the writer afterwards
abbrev pub blob_call : List ℕ → Writing → ℕ × Writing
blob_call b w = call (blob_cell b) w

-- the word that the call `arr` returns for an array with these words, and the writer afterwards
abbrev pub arr_call : List ℕ → Writing → ℕ × Writing
arr_call ws w = call (array_or_object_cell ARRAY ws) w

-- the word that the call `obj` returns for an object with these words, and the writer afterwards; NULLs at the end of
-- the words are dropped
abbrev pub obj_call : List ℕ → Writing → ℕ × Writing
obj_call ws w = call (array_or_object_cell OBJECT (words_without_last_nulls ws)) w

-- the result of `finish`: the payload whose root has the word `root`, or the two counts if the writer passed a limit
abbrev pub finish_result : ℕ → Writing → Result (List ℕ) ByteAndValueCounts
finish_result root w =
    if is_past_limit w then Err (writing_counts w) else Ok
    (payload_with_root_word_in_head root (layout_of w))

-- the word of a value after the calls that write this value depth first, and the writer afterwards. Each word that a
-- call returns is used once
unfoldable mutual
  pub calls : Plain → Writing → ℕ × Writing
  calls null w = (0, w)
  calls (int n) w = int_call n w
  calls (blob b) w = blob_call b w
  calls (arr vs) w = arr_call (calls_all vs w).0 (calls_all vs w).1
  calls (obj vs) w = obj_call (calls_all vs w).0 (calls_all vs w).1

  -- the words of values after the calls that write these values in order, and the writer afterwards
  pub calls_all : Plains → Writing → List ℕ × Writing
  calls_all none w = ([], w)
  calls_all (more v vs) w =
      ((calls v w).0 ∷ (calls_all vs (calls v w).1).0, (calls_all vs (calls v w).1).1)
