-- The state of the program's `Writer`: the unfinished payload, the locators of its items, and the two counts. Serves
-- the invariant of `Writer` and the contracts of `src/store.rt`. How locators are stored is described in the README of
-- this crate.
use Rattle.std.specs.Prelude.{◌≡◌, ℕ, ◌+◌, ◌-◌, ◌^◌, ◌<◌, ◌≤◌, ◌⊎◌, ◌%◌, suc, false, List, [], ◌∷◌, length, take, drop, replicate, nat_lt, find, option_map, Some, Result, Ok, Err, if◌then◌else◌}
use Rattle.std.specs.List.{AllByRecursion, concat}
use Rattle.adb_view.specs.Readers.{kind_number_of_word, low_28_bits}
use Rattle.adb_write.specs.Canonical.{Item, WrittenItem, is_equal_item, word_of_written_item, int_item, blob_item, array_or_object_item, ByteAndValueCounts, exceeds_a_limit}
use Rattle.adb_write.specs.Writing.{Writing, is_past_limit}
use Rattle.adb_write.specs.Items.{list_kind}
use Rattle.adb_write.specs.Keys.{HaveRisingKeys, blob_fingerprint, fingerprint_of_locator, list_fingerprint, word_of_locator}
use Rattle.adb_write.specs.WordPages.{HaveNoEmptyPage}
use Rattle.adb_write.specs.declared.item.ListKind.{ListKind}
use Rattle.adb_write.specs.declared.writer.WriteFault.{WriteFault}
use Rattle.adb_write.specs.declared.writer.WriteFault.TheVariants.{TooLarge, Memory}

-- the unfinished payload is empty, or begins with its head. The head is 8 zeros, until `finish` writes the root's word
-- into it
abbrev pub IsEmptyOrHasHead : List ℕ → Type 0
IsEmptyOrHasHead payload = (payload ≡ []) ⊎ (take 8 payload ≡ replicate 8 0)

-- ---- the items of locators

-- the value of an item that is stored in a payload: an integer, a blob, or the words of a list
pub data Stored : Type 0 where
  stored_int : ℕ → Stored
  stored_blob : List ℕ → Stored
  stored_list : ListKind → List ℕ → Stored

-- the item of the layout that a *Stored* represents
abbrev pub item_of_stored : Stored → Item
item_of_stored (stored_int n) = int_item n
item_of_stored (stored_blob b) = blob_item b
item_of_stored (stored_list kind ws) = array_or_object_item (list_kind kind) ws

-- the fingerprint of this item
abbrev pub fingerprint_of_stored : Stored → ℕ
fingerprint_of_stored (stored_int n) = n % 2 ^ 32
fingerprint_of_stored (stored_blob b) = blob_fingerprint b
fingerprint_of_stored (stored_list kind ws) = list_fingerprint ws

-- the numbers of a stored item have at most as many bits as their bytes allow: an integer 64, a length and a word 32
abbrev pub HasNumbersThatFit : Stored → Type 0
HasNumbersThatFit (stored_int n) = n < 2 ^ 64
HasNumbersThatFit (stored_blob b) = length b < 2 ^ 32
HasNumbersThatFit (stored_list kind ws) = AllByRecursion (λ w. w < 2 ^ 32) ws × (suc (length ws) < 2 ^ 32)

-- the word points to the item `what` in the payload, which is after the head of 8 bytes
pub record IsStoredAt (payload : List ℕ) (what : Stored) (word : ℕ) : Type 0 where
  -- the numbers of the item have at most the allowed bits
  pub small : HasNumbersThatFit what
  -- the word has the kind of the item
  pub kind : kind_number_of_word word ≡ (item_of_stored what).kind
  -- the offset in the word is after the head
  pub behind_head : 8 ≤ low_28_bits word
  -- the bytes of the item are at this offset
  pub there : take (length (item_of_stored what).bytes) (drop (low_28_bits word) payload)
      ≡ (item_of_stored what).bytes

-- the locator names an item in the payload
pub record IsStored (payload : List ℕ) (locator : ℕ) : Type 0 where
  -- the item that the locator names
  pub what : Stored
  -- the locator has the fingerprint of this item
  pub fingerprint : fingerprint_of_locator locator ≡ fingerprint_of_stored what
  -- the word of the locator points to this item
  pub stored : IsStoredAt payload what (word_of_locator locator)

-- each locator names an item in the payload
abbrev pub AreStored : List ℕ → List ℕ → Type 0
AreStored payload locators = AllByRecursion (IsStored payload) locators

-- ---- the items as contracts see them: the latest first, after the others

-- the written item that a locator names
abbrev pub written_item : ℕ → WrittenItem
written_item locator = record {
  kind = kind_number_of_word (word_of_locator locator);
  offset = low_28_bits (word_of_locator locator) - 8;
}

-- the items with one more among them: it is inserted so that the items remain sorted by offset, the greatest first
abbrev pub with_item : WrittenItem → List WrittenItem → List WrittenItem
with_item item [] = item ∷ []
with_item item (other ∷ others) =
    if nat_lt other.offset item.offset then item ∷ other ∷ others
    else other ∷ with_item item others

-- the items that locators name, sorted by offset, the greatest first, which is the latest written
abbrev pub items_of_locators : List ℕ → List WrittenItem
items_of_locators [] = []
items_of_locators (locator ∷ locators) =
    with_item (written_item locator) (items_of_locators locators)

-- ---- the writer

-- the state of a writer: the locators in the pages name items of the payload, in the order of their keys. `bytes` and
-- `values` are the two counts. Unless a limit was passed, `bytes` is the length of the payload with its head
pub record IsWriterState (payload : List ℕ) (pages : List (List ℕ))
    (bytes values : ℕ) : Type 0 where
  -- the payload is empty, or begins with its head
  pub head : IsEmptyOrHasHead payload
  -- unless a limit was passed, the count of bytes is 8 for the head, and the bytes after it
  pub agree : exceeds_a_limit (bytes, values) ≡ false → bytes ≡ 8 + length (drop 8 payload)
  -- no page is empty
  pub filled : HaveNoEmptyPage pages
  -- all locators are in the order of their keys
  pub rising : HaveRisingKeys payload (concat pages)
  -- each locator names an item of the payload
  pub stored : AreStored payload (concat pages)

-- `word` points to the first written item of the writer that is equal to the item i
abbrev pub IsWordOfEqualItem : Item → Writing → ℕ → Type 0
IsWordOfEqualItem i w word =
    option_map word_of_written_item (find (is_equal_item w.body i) w.items) ≡ Some word

-- the result of `finish` for the writer w is `answer`, the result of the definition: a payload, of which `view` is the
-- list of bytes, or the two counts if a limit was passed. If nothing was written, it may be out of memory instead
abbrev pub IsFinishResult : {A : Type 0} → (A → List ℕ) → Writing → Result A WriteFault
    → Result (List ℕ) ByteAndValueCounts → Type 0
IsFinishResult view w (Ok payload) answer = answer ≡ Ok (view payload)
IsFinishResult view w (Err (TooLarge bytes values)) answer = answer ≡ Err (bytes, values)
IsFinishResult view w (Err Memory) answer = (is_past_limit w ≡ false) × (w.body ≡ [])
