-- A writer with one item more.
use Rattle.std.proofs.Common.{◌≡◌, ℕ, ◌+◌, ◌-◌, ◌*◌, ◌^◌, ◌<◌, ◌≤◌, List, [], ◌∷◌, ◌++◌, length, take, drop, replicate, refl, sym, ap, subst, ◌∙◌, append_assoc, arith}
use Rattle.std.specs.List.{concat}
use Rattle.std.proofs.lemmas.List.{append-nil, length-append, length-replicate, length-drop, drop-drop, drop_at, take_at}
use Rattle.adb_view.specs.Readers.{kind_number_of_word, low_28_bits}
use Rattle.adb_write.specs.Canonical.{padding_to_alignment_from_offset, Item, WrittenItem, MOST_BYTES}
use Rattle.adb_write.specs.Items.{item_of, HasNumbersInRange}
use Rattle.adb_write.specs.declared.item.Parts.{Parts}
use Rattle.adb_write.specs.declared.word_pages.Slot.{Slot}
use Rattle.adb_write.specs.Keys.{fingerprint_of, fingerprint_of_locator, key_of, locator_of, HaveRisingKeys, word_of_locator}
use Rattle.adb_write.specs.WordPages.{locators_before_slot, locators_from_slot, IsBetween}
use Rattle.adb_write.specs.WriterState.{IsEmptyOrHasHead, AreStored, written_item, items_of_locators}
use Rattle.adb_write.proofs.Placed.{word_kind, word_low}
use Rattle.adb_write.proofs.Grown.{Grown, grown}
use Rattle.adb_write.proofs.Pages.{parts_at}
use Rattle.adb_write.proofs.StoredWords.{parts_small, parts_stored, parts_key}
use Rattle.adb_write.proofs.Held.{new_item, stored_with, rising_new, all_lower}
use Rattle.adb_write.proofs.WriterSteps.{written_at}

-- what holds of the bytes and the words after the call
pub record Appended (p new : List ℕ) (pages new_pages : List (List ℕ)) (i : Item) : Type 0 where
  pub rising : HaveRisingKeys new (concat new_pages)
  pub stored : AreStored new (concat new_pages)
  pub items : items_of_locators (concat new_pages) ≡ written_at i (drop 8 p) ∷ items_of_locators (concat pages)

pub locator_word : (f w : ℕ) → w < 2 ^ 32 → word_of_locator (locator_of f w) ≡ w
locator_word f w small = omega (arith, small)

pub locator_fingerprint : (f w : ℕ) → w < 2 ^ 32 → fingerprint_of_locator (locator_of f w) ≡ f
locator_fingerprint f w small = omega (arith, small)

-- where the item stands
new_there : (p new bytes : List ℕ) (g at : ℕ) → Grown p new g bytes → at ≡ 8 + length (drop 8 p) + g → take (length bytes) (drop at new) ≡ bytes
new_there p new bytes g at h is =
    let body : List ℕ = drop 8 p in
    let zeros : List ℕ = replicate g 0 in
    let front : length (body ++ zeros) ≡ length body + g = omega (arith, length-append body zeros, length-replicate {A = ℕ} g 0) in
    let parted : drop 8 new ≡ (body ++ zeros) ++ bytes = h.body ∙ sym (append_assoc body zeros bytes) in
    let far : drop at new ≡ bytes =
    ap (λ (k : ℕ). drop k new) (is ∙ omega arith) ∙ sym (drop-drop (length body + g) 8 new) ∙ ap (drop (length body + g)) parted ∙ drop_at (body ++ zeros) bytes (length body + g) front in
    ap (take (length bytes)) (far ∙ sym (append-nil bytes)) ∙ take_at bytes [] (length bytes) refl

pub appended : (p new : List ℕ) (pages new_pages : List (List ℕ)) (parts : Parts) (slot : Slot) (bytes g w : ℕ) → IsEmptyOrHasHead p → bytes ≡ 8 + length (drop 8 p) → g ≡ padding_to_alignment_from_offset (item_of parts).align bytes
    → HaveRisingKeys p (concat pages) → AreStored p (concat pages) → HasNumbersInRange parts → bytes + g + length (item_of parts).bytes ≤ MOST_BYTES → IsBetween p pages (key_of parts) slot
    → new ≡ p ++ (replicate (bytes + g - length p) 0 ++ (item_of parts).bytes)
    → concat new_pages ≡ locators_before_slot pages slot.page slot.index ++ w ∷ locators_from_slot pages slot.page slot.index
    → fingerprint_of_locator w ≡ fingerprint_of parts → word_of_locator w ≡ (item_of parts).kind * 2 ^ 28 + (bytes + g) → Appended p new pages new_pages (item_of parts)
appended p new pages new_pages parts slot bytes g w head agree gap_is rising stored room few between new_is words_are print word_is =
    let i : Item = item_of parts in
    let q : List ℕ = replicate (bytes + g - length p) 0 ++ i.bytes in
    let before : List ℕ = locators_before_slot pages slot.page slot.index in
    let behind : List ℕ = locators_from_slot pages slot.page slot.index in
    let whole : before ++ behind ≡ concat pages = parts_at pages slot.page slot.index in
    let at : bytes + g < 2 ^ 28 = omega arith in
    let kind : kind_number_of_word (word_of_locator w) ≡ i.kind = ap kind_number_of_word word_is ∙ word_kind i.kind (bytes + g) at in
    let low : low_28_bits (word_of_locator w) ≡ bytes + g = ap low_28_bits word_is ∙ word_low i.kind (bytes + g) at in
    let behind_head : 8 ≤ low_28_bits (word_of_locator w) = omega arith in
    let h : Grown p (p ++ q) g i.bytes = grown p bytes g i.bytes head agree in
    let there : take (length i.bytes) (drop (low_28_bits (word_of_locator w)) (p ++ q)) ≡ i.bytes = new_there p (p ++ q) i.bytes g (low_28_bits (word_of_locator w)) h (low ∙ ap (λ (k : ℕ). k + g) agree) in
    let small = parts_small parts room (omega arith) in
    let old_stored : AreStored p (before ++ behind) = subst (AreStored p) (sym whole) stored in
    let old_rising : HaveRisingKeys p (before ++ behind) = subst (HaveRisingKeys p) (sym whole) rising in
    let first : written_item w ≡ written_at i (drop 8 p) = same_item (kind_number_of_word (word_of_locator w)) i.kind (low_28_bits (word_of_locator w) - 8) (length (drop 8 p) + padding_to_alignment_from_offset i.align (8 + length (drop 8 p))) kind (omega (arith, ap (padding_to_alignment_from_offset i.align) agree)) in
    record {
      rising = subst (λ (x : List ℕ). HaveRisingKeys x (concat new_pages)) (sym new_is) (subst (HaveRisingKeys (p ++ q)) (sym words_are) (rising_new p q (key_of parts) w before behind old_stored old_rising (parts_key (p ++ q) w parts small print kind behind_head there) between.lower between.higher));
      stored = subst (λ (x : List ℕ). AreStored x (concat new_pages)) (sym new_is) (subst (AreStored (p ++ q)) (sym words_are) (stored_with p q w before behind old_stored (parts_stored (p ++ q) w parts small print kind behind_head there)));
      items = ap items_of_locators words_are ∙ new_item before w behind (all_lower p w (before ++ behind) (omega (arith, length-drop 8 p)) old_stored)
          ∙ ap (λ (x : WrittenItem). x ∷ items_of_locators (before ++ behind)) first ∙ ap (λ (ws : List ℕ). written_at i (drop 8 p) ∷ items_of_locators ws) whole;
    }
  where
    same_item : (k l a b : ℕ) → k ≡ l → a ≡ b → ◌≡◌ {A = WrittenItem} (record { kind = k; offset = a }) (record { kind = l; offset = b })
    same_item k l a b x y = rw (x, y) refl
