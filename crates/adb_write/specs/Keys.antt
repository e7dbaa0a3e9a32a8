-- The keys by which the writer sorts its locators. The key of an item is a list of numbers: the item's fingerprint, its
-- kind, and its content. Serves the contracts of `src/item.rt`, `src/locator.rt` and `src/word_pages.rt`. How locators
-- are stored is described in the README of this crate.
use Rattle.std.specs.Prelude.{ℕ, ◌+◌, ◌-◌, ◌*◌, ◌/◌, ◌%◌, ◌^◌, List, [], ◌∷◌, length, get_or, map, reverse, take, drop, Result, Ok, Err, nat_le, nat_lt, if◌then◌else◌}
use Rattle.std.specs.Ordering.{nat_cmp}
use Rattle.std.specs.Cmp.Lexicographic.{slice_cmp}
use Rattle.std.specs.Hash.FoldHasher.{initial, write, finish}
use Rattle.std.specs.List.Sorted.{IsStrictlySortedBy}
use Rattle.base_core.specs.declared.cause.Cause.{Cause}
use Rattle.adb_view.specs.Readers.{kind_number_of_word, int_of, blob_of, run_entries_of_kind_in_payload_at_word}
use Rattle.adb_view.specs.Visits.{or_empty}
use Rattle.adb_write.specs.Items.{item_of}
use Rattle.adb_write.specs.declared.item.Parts.{Parts}
use Rattle.adb_write.specs.declared.item.Parts.TheVariants.{Int, Blob, List as Listed}

-- words as they are stored, in 32 bits
abbrev pub low_words : List ℕ → List ℕ
low_words = map (λ w. w % 2 ^ 32)

-- the content of an item, as numbers that are compared in order; of a list the words of its entries, the last entry
-- first, since lists mostly differ there
abbrev pub comparison_numbers : Parts → List ℕ
comparison_numbers (Int n) = n ∷ []
comparison_numbers (Blob b) = b.now
comparison_numbers (Listed kind ws) = reverse (low_words ws.now)

-- the part of an item's key after the fingerprint: the item's kind, and its content
abbrev pub kind_and_comparison_numbers : Parts → List ℕ
kind_and_comparison_numbers parts = (item_of parts).kind ∷ comparison_numbers parts

-- the content of an integer that was read; nothing if it could not be read
abbrev pub single_or_empty : Result ℕ Cause → List ℕ
single_or_empty (Ok n) = n ∷ []
single_or_empty (Err c) = []

-- the content of the item to which the word points: `kind` says whether it is an integer (below 8), a blob (below 13),
-- or a list, of which the entries are given, the last one first
abbrev pub comparison_numbers_at : ℕ → List ℕ → ℕ → List ℕ
comparison_numbers_at kind payload word =
    if nat_lt kind 8 then single_or_empty (int_of payload word)
    else if nat_lt kind 13 then or_empty (blob_of payload word)
    else reverse (or_empty (run_entries_of_kind_in_payload_at_word kind payload word))

-- the part of the key after the fingerprint, for the item to which the word points: the item's kind, and its content
abbrev pub kind_and_comparison_numbers_at : List ℕ → ℕ → List ℕ
kind_and_comparison_numbers_at payload word =
    kind_number_of_word word ∷ comparison_numbers_at (kind_number_of_word word) payload word

-- ---- the fingerprint of an item: it distinguishes most items, so that the payload is not read

-- how many bytes of each end of a long blob are hashed; any number is correct
abbrev pub END : ℕ
END = 2048

-- the hash of a blob, by the hasher of the standard library: of all of its bytes, or of both ends of a long blob
unfoldable pub blob_hash : List ℕ → ℕ
blob_hash b =
    if nat_le (length b) (2 * END) then finish (write initial b)
    else finish (write (write initial (take END b)) (drop (length b - END) b))

-- the low four bits of the four bytes from index i on, as a number of base 16, in which the first byte counts most;
-- bytes past the end count as 0
abbrev pub low_nibbles : List ℕ → ℕ → ℕ
low_nibbles b i =
    get_or b i 0 % 16 * 2 ^ 12 + get_or b (i + 1) 0 % 16 * 2 ^ 8
    + get_or b (i + 2) 0 % 16 * 2 ^ 4 + get_or b (i + 3) 0 % 16

-- a number from the first four bytes of a blob, and from the four before the last two. Neighbours in a sorted list of
-- texts have numbers that are close to each other
abbrev pub neighbourhood : List ℕ → ℕ
neighbourhood b = low_nibbles b 0 + low_nibbles b (length b - 6)

-- the fingerprint of a blob: its neighbourhood, and 22 bits of its hash plus its length; any function of the bytes is
-- correct
unfoldable pub blob_fingerprint : List ℕ → ℕ
blob_fingerprint b =
    (neighbourhood b * 2 ^ 16 + (blob_hash b + length b) % 2 ^ 22) % 2 ^ 32

-- the fingerprint of a list: its last word, or 0 without words. The entries of a list are written just before the list,
-- so the locator of a new list is mostly inserted near the one inserted last
abbrev pub list_fingerprint : List ℕ → ℕ
list_fingerprint words = get_or words (length words - 1) 0

-- the fingerprint of an item: of an integer its low 32 bits, of a blob *blob_fingerprint*, of a list
-- *list_fingerprint*
abbrev pub fingerprint_of : Parts → ℕ
fingerprint_of (Int n) = n % 2 ^ 32
fingerprint_of (Blob b) = blob_fingerprint b.now
fingerprint_of (Listed kind ws) = list_fingerprint (low_words ws.now)

-- ---- locators: the fingerprint of an item, and in the low 32 bits the word that points to it

-- the locator of an item that has this fingerprint, and to which this word points
abbrev pub locator_of : ℕ → ℕ → ℕ
locator_of fingerprint word = fingerprint * 2 ^ 32 + word

-- the word that points to the item of a locator
abbrev pub word_of_locator : ℕ → ℕ
word_of_locator locator = locator % 2 ^ 32

-- the fingerprint of the item of a locator
abbrev pub fingerprint_of_locator : ℕ → ℕ
fingerprint_of_locator locator = locator / 2 ^ 32

-- ---- keys, which order the locators: fingerprint, kind, and the item's content

-- the key of an item, given its fingerprint
abbrev pub key_with_fingerprint : ℕ → Parts → List ℕ
key_with_fingerprint fingerprint parts = fingerprint ∷ kind_and_comparison_numbers parts

-- the key of an item
abbrev pub key_of : Parts → List ℕ
key_of parts = key_with_fingerprint (fingerprint_of parts) parts

-- the key of the item in the payload that a locator names
abbrev pub key_of_locator : List ℕ → ℕ → List ℕ
key_of_locator payload locator =
    fingerprint_of_locator locator ∷ kind_and_comparison_numbers_at payload (word_of_locator locator)

-- the locators are in the order of the keys of their items in the payload, and no two of these keys are equal
abbrev pub HaveRisingKeys : List ℕ → List ℕ → Type 0
HaveRisingKeys payload locators =
    IsStrictlySortedBy (slice_cmp nat_cmp) (map (key_of_locator payload) locators)
