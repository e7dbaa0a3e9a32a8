use Rattle.std.proofs.Common.{◌≡◌, ◌<◌, ◌≤◌, ℕ, ◌+◌, ◌*◌, ◌^◌, true, false, Some, None, List, ◌++◌, ◌∷◌, length, drop, replicate, refl, sym, ap, subst, ◌∙◌, arith}
use Rattle.std.specs.Prelude.{find, option_map}
use Rattle.std.specs.List.{concat}
use Rattle.std.proofs.lemmas.List.{length-drop}
use Rattle.adb_write.specs.Canonical.{padding_to_alignment_from_offset, Item, WrittenItem, is_equal_item, word_of_written_item, apart, exceeds_a_limit, MOST_BYTES}
use Rattle.adb_write.specs.Writing.{Writing, Grows, call, writing_from_parts}
use Rattle.adb_write.specs.Items.{item_of}
use Rattle.adb_write.specs.Keys.{fingerprint_of, key_of, locator_of}
use Rattle.adb_write.specs.WordPages.{pages_of, locators_before_slot, locators_from_slot}
use Rattle.adb_write.specs.WriterState.{items_of_locators, written_item, IsWordOfEqualItem}
use Rattle.adb_write.proofs.WriterSteps.{end_of, written_at, call_past, call_stops, call_fits, call_grows, on_err}
use Rattle.adb_write.proofs.AnyOrder.{fits_of}
use Rattle.adb_write.proofs.Grown.{Grown, grown, grown_len}
use Rattle.adb_write.proofs.Pages.{parts_at}
use Rattle.adb_write.proofs.Held.{not_found, found_item, found_word}
use Rattle.adb_write.proofs.Appended.{Appended, appended, locator_fingerprint, locator_word}
use Rattle.adb_write.proofs.writer.Writer.add.Goals as goal

pub returns-then-exceeds_a_limit-clause-ok : goal.returns-then-exceeds_a_limit-clause-ok
returns-then-exceeds_a_limit-clause-ok c =
    let s = c.self.inside in
    let i : Item = item_of c.args.parts.now in
    let p : List ℕ = s.store.payload.items in
    let body : List ℕ = drop 8 p in
    let pages : List (List ℕ) = pages_of s.store.words in
    let items : List WrittenItem = items_of_locators (concat pages) in
    let past : exceeds_a_limit (s.counts.bytes, s.counts.values) ≡ true = sym c.exceeds_a_limit.ensures ∙ c.if-exceeds_a_limit.true in
    rw c.of.ensures (subst (λ (x : Writing). ◌≡◌ {A = ℕ × Writing} (0, x) (call (apart i) x)) c.self.view_is (sym (call_past i body items s.counts.bytes s.counts.values past)))

pub repeat-requires-clause-found : goal.repeat-requires-clause-found
repeat-requires-clause-found c =
    let s = c.self.inside in
    let i : Item = item_of c.args.parts.now in
    let p : List ℕ = s.store.payload.items in
    let body : List ℕ = drop 8 p in
    let pages : List (List ℕ) = pages_of s.store.words in
    let items : List WrittenItem = items_of_locators (concat pages) in
    let fine : exceeds_a_limit (s.counts.bytes, s.counts.values) ≡ false = sym c.exceeds_a_limit.ensures ∙ c.if-exceeds_a_limit.false in
    let agree : s.counts.bytes ≡ 8 + length body = c.self.invariant.agree fine in
    let few : length p ≤ MOST_BYTES = omega (arith, fits_of (s.counts.bytes, s.counts.values) fine, length-drop 8 p) in
    let found : find (is_equal_item body i) items ≡ Some (written_item c.in-Ok.locator) = found_item p c.args.parts.now (concat pages) c.in-Ok.locator c.self.invariant.stored c.self.invariant.rising c.requires few c.in-Ok.ensures in
    subst (λ (x : Writing). IsWordOfEqualItem i x c.word_of_locator.result) c.self.view_is
    (ap (option_map word_of_written_item) found ∙ ap Some (found_word p (concat pages) (key_of c.args.parts.now) c.in-Ok.locator c.self.invariant.stored c.in-Ok.ensures ∙ sym c.word_of_locator.ensures))

pub returns-then-exceeds_a_limit-2-clause-ok : goal.returns-then-exceeds_a_limit-2-clause-ok
returns-then-exceeds_a_limit-2-clause-ok c =
    let s = c.self.inside in
    let i : Item = item_of c.args.parts.now in
    let p : List ℕ = s.store.payload.items in
    let body : List ℕ = drop 8 p in
    let pages : List (List ℕ) = pages_of s.store.words in
    let items : List WrittenItem = items_of_locators (concat pages) in
    let fine : exceeds_a_limit (s.counts.bytes, s.counts.values) ≡ false = sym c.exceeds_a_limit.ensures ∙ c.if-exceeds_a_limit.false in
    let agree : s.counts.bytes ≡ 8 + length body = c.self.invariant.agree fine in
    let few : length p ≤ MOST_BYTES = omega (arith, fits_of (s.counts.bytes, s.counts.values) fine, length-drop 8 p) in
    let none : find (is_equal_item body i) items ≡ None =
    not_found p c.args.parts.now (concat pages) (locators_before_slot pages c.in-Err.slot.page c.in-Err.slot.index) (locators_from_slot pages c.in-Err.slot.page c.in-Err.slot.index) (parts_at pages c.in-Err.slot.page c.in-Err.slot.index) c.self.invariant.stored c.requires few c.in-Err.ensures.lower c.in-Err.ensures.higher in
    let zeros : c.padding_to_alignment_from_offset.result ≡ padding_to_alignment_from_offset i.align s.counts.bytes = rw (c.padding_to_alignment_from_offset.ensures.value, c.len.ensures.value, c.width.ensures) refl in
    let end : s.counts.bytes + c.padding_to_alignment_from_offset.result + c.len-2.result ≡ end_of i s.counts.bytes = rw (c.len-2.ensures.value, zeros) refl in
    let count : s.counts.values + c.entries.result ≡ s.counts.values + i.entries = ap (λ (k : ℕ). s.counts.values + k) c.entries.ensures.value in
    let past : exceeds_a_limit (end_of i s.counts.bytes, s.counts.values + i.entries) ≡ true = rw (sym end, sym count) (sym c.exceeds_a_limit-2.ensures ∙ c.if-exceeds_a_limit-2.true) in
    rw (c.of-then-exceeds_a_limit-2.ensures, end, count) (subst (λ (x : Writing). ◌≡◌ {A = ℕ × Writing} (0, writing_from_parts body items (end_of i s.counts.bytes) (s.counts.values + i.entries)) (call (apart i) x)) c.self.view_is (sym (call_stops i body items s.counts.bytes s.counts.values fine agree none past)))

pub returns-in_err-append-clause-wants : goal.returns-in_err-append-clause-wants
returns-in_err-append-clause-wants c =
    let s = c.self.inside in
    let i : Item = item_of c.args.parts.now in
    let p : List ℕ = s.store.payload.items in
    let body : List ℕ = drop 8 p in
    let pages : List (List ℕ) = pages_of s.store.words in
    let items : List WrittenItem = items_of_locators (concat pages) in
    let fine : exceeds_a_limit (s.counts.bytes, s.counts.values) ≡ false = sym c.exceeds_a_limit.ensures ∙ c.if-exceeds_a_limit.false in
    let agree : s.counts.bytes ≡ 8 + length body = c.self.invariant.agree fine in
    let few : length p ≤ MOST_BYTES = omega (arith, fits_of (s.counts.bytes, s.counts.values) fine, length-drop 8 p) in
    let none : find (is_equal_item body i) items ≡ None =
    not_found p c.args.parts.now (concat pages) (locators_before_slot pages c.in-Err.slot.page c.in-Err.slot.index) (locators_from_slot pages c.in-Err.slot.page c.in-Err.slot.index) (parts_at pages c.in-Err.slot.page c.in-Err.slot.index) c.self.invariant.stored c.requires few c.in-Err.ensures.lower c.in-Err.ensures.higher in
    let zeros : c.padding_to_alignment_from_offset.result ≡ padding_to_alignment_from_offset i.align s.counts.bytes = rw (c.padding_to_alignment_from_offset.ensures.value, c.len.ensures.value, c.width.ensures) refl in
    let end : s.counts.bytes + c.padding_to_alignment_from_offset.result + c.len-2.result ≡ end_of i s.counts.bytes = rw (c.len-2.ensures.value, zeros) refl in
    let count : s.counts.values + c.entries.result ≡ s.counts.values + i.entries = ap (λ (k : ℕ). s.counts.values + k) c.entries.ensures.value in
    let fits : exceeds_a_limit (end_of i s.counts.bytes, s.counts.values + i.entries) ≡ false = rw (sym end, sym count) (sym c.exceeds_a_limit-2.ensures ∙ c.if-exceeds_a_limit-2.false) in
    let some : 0 < length i.bytes = subst (λ (k : ℕ). 0 < k) c.len-2.ensures.value c.len-2.ensures.some in
    on_err c.from_residual.result _ (subst (λ (x : Writing). Grows x (call (apart i) x).1) c.self.view_is (call_grows i body items s.counts.bytes s.counts.values fine agree none fits some))

pub invariant_of-self-2 : goal.invariant_of-self-2
invariant_of-self-2 c =
    let s = c.self.inside in
    let i : Item = item_of c.args.parts.now in
    let p : List ℕ = s.store.payload.items in
    let body : List ℕ = drop 8 p in
    let pages : List (List ℕ) = pages_of s.store.words in
    let items : List WrittenItem = items_of_locators (concat pages) in
    let fine : exceeds_a_limit (s.counts.bytes, s.counts.values) ≡ false = sym c.exceeds_a_limit.ensures ∙ c.if-exceeds_a_limit.false in
    let agree : s.counts.bytes ≡ 8 + length body = c.self.invariant.agree fine in
    let few : length p ≤ MOST_BYTES = omega (arith, fits_of (s.counts.bytes, s.counts.values) fine, length-drop 8 p) in
    let none : find (is_equal_item body i) items ≡ None =
    not_found p c.args.parts.now (concat pages) (locators_before_slot pages c.in-Err.slot.page c.in-Err.slot.index) (locators_from_slot pages c.in-Err.slot.page c.in-Err.slot.index) (parts_at pages c.in-Err.slot.page c.in-Err.slot.index) c.self.invariant.stored c.requires few c.in-Err.ensures.lower c.in-Err.ensures.higher in
    let zeros : c.padding_to_alignment_from_offset.result ≡ padding_to_alignment_from_offset i.align s.counts.bytes = rw (c.padding_to_alignment_from_offset.ensures.value, c.len.ensures.value, c.width.ensures) refl in
    let end : s.counts.bytes + c.padding_to_alignment_from_offset.result + c.len-2.result ≡ end_of i s.counts.bytes = rw (c.len-2.ensures.value, zeros) refl in
    let count : s.counts.values + c.entries.result ≡ s.counts.values + i.entries = ap (λ (k : ℕ). s.counts.values + k) c.entries.ensures.value in
    let fits : exceeds_a_limit (end_of i s.counts.bytes, s.counts.values + i.entries) ≡ false = rw (sym end, sym count) (sym c.exceeds_a_limit-2.ensures ∙ c.if-exceeds_a_limit-2.false) in
    let word : c.of-word.result ≡ i.kind * 2 ^ 28 + (s.counts.bytes + c.padding_to_alignment_from_offset.result) = c.of-word.ensures ∙ ap (λ (k : ℕ). k * 2 ^ 28 + (s.counts.bytes + c.padding_to_alignment_from_offset.result)) c.kind.ensures.value in
    let room : s.counts.bytes + c.padding_to_alignment_from_offset.result + length i.bytes ≤ MOST_BYTES = omega (arith, fits_of (end_of i s.counts.bytes, s.counts.values + i.entries) fits, zeros) in
    let g : Grown p c.append.new.self.payload.items c.padding_to_alignment_from_offset.result i.bytes = subst (λ (x : List ℕ). Grown p x c.padding_to_alignment_from_offset.result i.bytes) (sym c.in_ok-append.ensures.bytes) (grown p s.counts.bytes c.padding_to_alignment_from_offset.result i.bytes c.self.invariant.head agree) in
    let small : c.of-word.result < 2 ^ 32 = omega (arith, word, c.kind.ensures.few, c.kind.ensures.value, room) in
    let l : ℕ = locator_of (fingerprint_of c.args.parts.now) c.of-word.result in
    let a : Appended p c.append.new.self.payload.items pages (pages_of c.append.new.self.words) i =
    appended p c.append.new.self.payload.items pages (pages_of c.append.new.self.words) c.args.parts.now c.in-Err.slot s.counts.bytes c.padding_to_alignment_from_offset.result l c.self.invariant.head agree zeros c.self.invariant.rising c.self.invariant.stored c.requires room c.in-Err.ensures c.in_ok-append.ensures.bytes c.in_ok-append.ensures.words (locator_fingerprint (fingerprint_of c.args.parts.now) c.of-word.result small) (locator_word (fingerprint_of c.args.parts.now) c.of-word.result small ∙ word) in
    record {
      head = g.head;
      agree = λ below. grown_len p c.append.new.self.payload.items c.padding_to_alignment_from_offset.result i.bytes s.counts.bytes c.len-2.result g agree c.len-2.ensures.value;
      filled = c.append.ensures.filled;
      rising = a.rising;
      stored = a.stored;
    }

pub returns-clause-ok : goal.returns-clause-ok
returns-clause-ok c =
    let s = c.self.inside in
    let i : Item = item_of c.args.parts.now in
    let p : List ℕ = s.store.payload.items in
    let body : List ℕ = drop 8 p in
    let pages : List (List ℕ) = pages_of s.store.words in
    let items : List WrittenItem = items_of_locators (concat pages) in
    let fine : exceeds_a_limit (s.counts.bytes, s.counts.values) ≡ false = sym c.exceeds_a_limit.ensures ∙ c.if-exceeds_a_limit.false in
    let agree : s.counts.bytes ≡ 8 + length body = c.self.invariant.agree fine in
    let few : length p ≤ MOST_BYTES = omega (arith, fits_of (s.counts.bytes, s.counts.values) fine, length-drop 8 p) in
    let none : find (is_equal_item body i) items ≡ None =
    not_found p c.args.parts.now (concat pages) (locators_before_slot pages c.in-Err.slot.page c.in-Err.slot.index) (locators_from_slot pages c.in-Err.slot.page c.in-Err.slot.index) (parts_at pages c.in-Err.slot.page c.in-Err.slot.index) c.self.invariant.stored c.requires few c.in-Err.ensures.lower c.in-Err.ensures.higher in
    let zeros : c.padding_to_alignment_from_offset.result ≡ padding_to_alignment_from_offset i.align s.counts.bytes = rw (c.padding_to_alignment_from_offset.ensures.value, c.len.ensures.value, c.width.ensures) refl in
    let end : s.counts.bytes + c.padding_to_alignment_from_offset.result + c.len-2.result ≡ end_of i s.counts.bytes = rw (c.len-2.ensures.value, zeros) refl in
    let count : s.counts.values + c.entries.result ≡ s.counts.values + i.entries = ap (λ (k : ℕ). s.counts.values + k) c.entries.ensures.value in
    let fits : exceeds_a_limit (end_of i s.counts.bytes, s.counts.values + i.entries) ≡ false = rw (sym end, sym count) (sym c.exceeds_a_limit-2.ensures ∙ c.if-exceeds_a_limit-2.false) in
    let word : c.of-word.result ≡ i.kind * 2 ^ 28 + (s.counts.bytes + c.padding_to_alignment_from_offset.result) = c.of-word.ensures ∙ ap (λ (k : ℕ). k * 2 ^ 28 + (s.counts.bytes + c.padding_to_alignment_from_offset.result)) c.kind.ensures.value in
    let room : s.counts.bytes + c.padding_to_alignment_from_offset.result + length i.bytes ≤ MOST_BYTES = omega (arith, fits_of (end_of i s.counts.bytes, s.counts.values + i.entries) fits, zeros) in
    let g : Grown p c.append.new.self.payload.items c.padding_to_alignment_from_offset.result i.bytes = subst (λ (x : List ℕ). Grown p x c.padding_to_alignment_from_offset.result i.bytes) (sym c.in_ok-append.ensures.bytes) (grown p s.counts.bytes c.padding_to_alignment_from_offset.result i.bytes c.self.invariant.head agree) in
    let small : c.of-word.result < 2 ^ 32 = omega (arith, word, c.kind.ensures.few, c.kind.ensures.value, room) in
    let l : ℕ = locator_of (fingerprint_of c.args.parts.now) c.of-word.result in
    let a : Appended p c.append.new.self.payload.items pages (pages_of c.append.new.self.words) i =
    appended p c.append.new.self.payload.items pages (pages_of c.append.new.self.words) c.args.parts.now c.in-Err.slot s.counts.bytes c.padding_to_alignment_from_offset.result l c.self.invariant.head agree zeros c.self.invariant.rising c.self.invariant.stored c.requires room c.in-Err.ensures c.in_ok-append.ensures.bytes c.in_ok-append.ensures.words (locator_fingerprint (fingerprint_of c.args.parts.now) c.of-word.result small) (locator_word (fingerprint_of c.args.parts.now) c.of-word.result small ∙ word) in
    let bytes : drop 8 c.append.new.self.payload.items ≡ body ++ (replicate {A = ℕ} (padding_to_alignment_from_offset i.align s.counts.bytes) 0 ++ i.bytes) = g.body ∙ ap (λ (k : ℕ). body ++ (replicate {A = ℕ} k 0 ++ i.bytes)) zeros in
    let answer : c.of-word.result ≡ i.kind * 2 ^ 28 + (s.counts.bytes + padding_to_alignment_from_offset i.align s.counts.bytes) = word ∙ ap (λ (k : ℕ). i.kind * 2 ^ 28 + (s.counts.bytes + k)) zeros in
    let old : ◌≡◌ {A = ℕ × Writing} (i.kind * 2 ^ 28 + (s.counts.bytes + padding_to_alignment_from_offset i.align s.counts.bytes), writing_from_parts (body ++ (replicate {A = ℕ} (padding_to_alignment_from_offset i.align s.counts.bytes) 0 ++ i.bytes)) (written_at i body ∷ items) (end_of i s.counts.bytes) (s.counts.values + i.entries)) (call (apart i) c.args.self.now) =
    subst (λ (x : Writing). ◌≡◌ {A = ℕ × Writing} (i.kind * 2 ^ 28 + (s.counts.bytes + padding_to_alignment_from_offset i.align s.counts.bytes), writing_from_parts (body ++ (replicate {A = ℕ} (padding_to_alignment_from_offset i.align s.counts.bytes) 0 ++ i.bytes)) (written_at i body ∷ items) (end_of i s.counts.bytes) (s.counts.values + i.entries)) (call (apart i) x)) c.self.view_is (sym (call_fits i body items s.counts.bytes s.counts.values fine agree none fits)) in
    same _ _ _ _ _ _ _ _ _ _ answer bytes a.items end count ∙ old
  where
    same : (w v : ℕ) (x y : List ℕ) (k l : List WrittenItem) (b d : ℕ) (e f : ℕ) → w ≡ v → x ≡ y → k ≡ l → b ≡ d → e ≡ f → ◌≡◌ {A = ℕ × Writing} (w, writing_from_parts x k b e) (v, writing_from_parts y l d f)
    same w v x y k l b d e f p q m r t = cc
