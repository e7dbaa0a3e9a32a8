-- The meaning of a word in a payload, for each of the four readers: of integers, blobs, arrays and objects. The rules
-- are in the table of `docs/formats.md`, "Values", and in the two paragraphs below this table.
use Rattle.std.specs.Prelude.{ℕ, zero, suc, ◌+◌, ◌*◌, ◌/◌, ◌%◌, ◌^◌, List, [], Option, Some, None, option_map, option_and_then, Result, Ok, Err, ◌==◌, if◌then◌else◌}
use Rattle.std.specs.Int.{Width, w8, w16, w32, w64, byte_len}
use Rattle.adb_view.specs.Bytes.{bytes_at_with_len, number_at, words}
use Rattle.base_core.specs.declared.cause.Cause.{Cause}
use Rattle.base_core.specs.declared.cause.Cause.TheVariants.{Outside, WrongKind}

-- the kind of a word: its top four bits
abbrev pub kind_number_of_word : ℕ → ℕ
kind_number_of_word word = word / 2 ^ 28

-- the low 28 bits of a word: a number, or an offset from the payload's start
abbrev pub low_28_bits : ℕ → ℕ
low_28_bits word = word % 2 ^ 28

-- the value that was read at the offset of `word`; the cause `Outside` if no value could be read there
abbrev pub or_outside_cause : {A : Type 0} → ℕ → Option A → Result A Cause
or_outside_cause word (Some x) = Ok x
or_outside_cause word None = Err (Outside word)

-- the integer to which `word` refers: it is in the word (kind 1), or in 4 or 8 bytes at the word's offset (kinds 2, 3);
-- NULL is 0. The kinds of words, here and below, are numbered as in the table of `docs/formats.md`, "Values"
unfoldable pub int_of : List ℕ → ℕ → Result ℕ Cause
int_of payload word =
    if word == 0 then Ok 0
    else if kind_number_of_word word == 1 then Ok (low_28_bits word)
    else if kind_number_of_word word == 2 then or_outside_cause word
    (number_at w32 payload (low_28_bits word))
    else if kind_number_of_word word == 3 then or_outside_cause word
    (number_at w64 payload (low_28_bits word))
    else Err (WrongKind word)

-- the bytes of the blob at the offset `at` of the payload. At this offset is the blob's length, a number of the
-- width `w`, and the bytes follow it
abbrev pub length_prefixed_bytes_at : Width → List ℕ → ℕ → Option (List ℕ)
length_prefixed_bytes_at w payload at =
    option_and_then (λ len. bytes_at_with_len payload (at + byte_len w) len)
    (number_at w payload at)

-- the bytes of the blob to which `word` refers. At the word's offset is their length in 1, 2 or 4 bytes (kinds 8,
-- 9, 10), and then they follow. NULL has no bytes
unfoldable pub blob_of : List ℕ → ℕ → Result (List ℕ) Cause
blob_of payload word =
    if word == 0 then Ok []
    else if kind_number_of_word word == 8 then or_outside_cause word
    (length_prefixed_bytes_at w8 payload (low_28_bits word))
    else if kind_number_of_word word == 9 then or_outside_cause word
    (length_prefixed_bytes_at w16 payload (low_28_bits word))
    else if kind_number_of_word word == 10 then or_outside_cause word
    (length_prefixed_bytes_at w32 payload (low_28_bits word))
    else Err (WrongKind word)

-- the entries of a run at the offset `at`, given the first word of the run: this is the number of its words, including
-- the first one. None if the number is 0, or the words are not within the payload
abbrev pub run_entries_at_with_word_count : List ℕ → ℕ → ℕ → Option (List ℕ)
run_entries_at_with_word_count payload at zero = None
run_entries_at_with_word_count payload at (suc n) =
    option_map (words n) (bytes_at_with_len payload (at + 4) (4 * n))

-- the entries of the run at the offset `at`; the first word of the run is the number of its words
abbrev pub run_entries_at : List ℕ → ℕ → Option (List ℕ)
run_entries_at payload at =
    option_and_then (run_entries_at_with_word_count payload at) (number_at w32 payload at)

-- the entries of the array or object to which `word` refers; the word must have the kind `kind` (13 or 14). NULL has
-- no entries
unfoldable pub run_entries_of_kind_in_payload_at_word : ℕ → List ℕ → ℕ → Result (List ℕ) Cause
run_entries_of_kind_in_payload_at_word kind payload word =
    if word == 0 then Ok []
    else if kind_number_of_word word == kind then or_outside_cause word
    (run_entries_at payload (low_28_bits word))
    else Err (WrongKind word)

-- the kind of a word that points to an array
abbrev pub ARRAY : ℕ
ARRAY = 13

-- the kind of a word that points to an object
abbrev pub OBJECT : ℕ
OBJECT = 14
