-- A blob that was written has the same word whenever it is written again.
use Rattle.std.proofs.Common.{◌≡◌, ℕ, ◌+◌, ◌<◌, ◌≤◌, Bool, true, false, cond, List, [], ◌∷◌, ◌++◌, length, replicate, Option, Some, None, refl, sym, ap, subst, ◌∙◌, length-append, arith}
use Rattle.std.specs.Prelude.{find}
use Rattle.adb_view.specs.Readers.{ARRAY, OBJECT}
use Rattle.adb_write.specs.Canonical.{padding_to_alignment_from_offset, Item, WrittenItem, Cell, in_place, apart, int_cell, blob_item, blob_cell, array_or_object_cell, words_without_last_nulls, Layout, payload_end_offset, is_equal_item, word_of_written_item, word_and_layout_with_reused_or_new_item, word_and_layout_with_item, layout_counts, exceeds_a_limit, MOST_BYTES}
use Rattle.adb_write.specs.Writing.{Writing, empty_writing_counting_root, writing_from_parts, is_past_limit, layout_of, writing_of, unless_past_limit, call, int_call, blob_call, arr_call, obj_call}
use Rattle.adb_write.specs.Again.{HasAllItemsUnlessPastLimit, HasLengthInFront, HasItemsInBytes, HasAllItemsInBytes, IsWordOfBlob}
use Rattle.adb_write.proofs.Again.{array_cell_framed, blob_cell_framed, blob_framed, int_cell_framed, IsFoundAgain, IsFramedCell, Keeps, nothing_whole, object_cell_framed, put_cell_stays, put_item_found}
use Rattle.adb_write.proofs.AnyOrder.{call_stored, fits_of}
use Rattle.adb_write.proofs.Found.{equal_bytes, equal_within, find-passes}
use Rattle.adb_write.proofs.Overflow.{blob_entries}
use Rattle.adb_write.proofs.StoredWords.{blob_long}

-- ---- what a call leaves

call_bytes : (c : Cell) (w : Writing) → w.bytes ≡ 8 + length w.body → is_past_limit (call c w).1 ≡ false → (call c w).1.bytes ≡ 8 + length (call c w).1.body
unfolding call
call_bytes (in_place word) w e o = e
call_bytes (apart i) w e o = go (is_past_limit w) o
  where
    past : (b : Bool) (r : ℕ × Layout) → exceeds_a_limit (layout_counts r.1) ≡ b
        → is_past_limit (cond {A = ℕ × Writing} b (0, record (writing_of r.1) { body = w.body; items = w.items }) (r.0, writing_of r.1)).1 ≡ false
        → (cond {A = ℕ × Writing} b (0, record (writing_of r.1) { body = w.body; items = w.items }) (r.0, writing_of r.1)).1.bytes ≡ 8 + length (cond {A = ℕ × Writing} b (0, record (writing_of r.1) { body = w.body; items = w.items }) (r.0, writing_of r.1)).1.body
    past true r q f = absurd cc
    past false r q f = refl

    go : (b : Bool) → is_past_limit (cond {A = ℕ × Writing} b (0, w) (unless_past_limit w (word_and_layout_with_item i (layout_of w)))).1 ≡ false
        → (cond {A = ℕ × Writing} b (0, w) (unless_past_limit w (word_and_layout_with_item i (layout_of w)))).1.bytes ≡ 8 + length (cond {A = ℕ × Writing} b (0, w) (unless_past_limit w (word_and_layout_with_item i (layout_of w)))).1.body
    go true f = e
    go false f = past (exceeds_a_limit (layout_counts (word_and_layout_with_item i (layout_of w)).1)) (word_and_layout_with_item i (layout_of w)) refl f

record Left (c : Cell) (w : Writing) : Type 0 where
  pub whole : HasAllItemsInBytes (call c w).1
  pub keeps : Keeps (layout_of w) (layout_of (call c w).1)

left : (c : Cell) (w : Writing) → IsFramedCell c → HasAllItemsInBytes w → is_past_limit (call c w).1 ≡ false → Left c w
left c w f g o =
    let s = call_stored c w o in
    let t = put_cell_stays c (layout_of w) f g.whole in
    record {
      whole = record { whole = subst HasItemsInBytes (sym s.state) t.whole; bytes = call_bytes c w g.bytes o };
      keeps = subst (Keeps (layout_of w)) (sym s.state) t.keeps;
    }

-- ---- each cell that is written is framed

blob_is_framed : (b : List ℕ) (w : Writing) → is_past_limit (blob_call b w).1 ≡ false → IsFramedCell (blob_cell b)
blob_is_framed [] w o = tt
blob_is_framed (x ∷ xs) w o = blob_cell_framed (x ∷ xs) (layout_of w) (call_stored (blob_cell (x ∷ xs)) w o).fits

array_is_framed : (ws : List ℕ) (w : Writing) → is_past_limit (call (array_or_object_cell ARRAY ws) w).1 ≡ false → IsFramedCell (array_or_object_cell ARRAY ws)
array_is_framed [] w o = tt
array_is_framed (x ∷ xs) w o = array_cell_framed (x ∷ xs) (layout_of w) (call_stored (array_or_object_cell ARRAY (x ∷ xs)) w o).fits

object_is_framed : (ws : List ℕ) (w : Writing) → is_past_limit (call (array_or_object_cell OBJECT ws) w).1 ≡ false → IsFramedCell (array_or_object_cell OBJECT ws)
object_is_framed [] w o = tt
object_is_framed (x ∷ xs) w o = object_cell_framed (x ∷ xs) (layout_of w) (call_stored (array_or_object_cell OBJECT (x ∷ xs)) w o).fits

-- ---- an item that is found is written again for nothing

found_call : (i : Item) (there : WrittenItem) (w : Writing) → HasAllItemsInBytes w → is_past_limit w ≡ false → i.entries ≡ 0 → find (is_equal_item w.body i) w.items ≡ Some there → ◌≡◌ {A = ℕ × Writing} (call (apart i) w) (word_of_written_item there, w)
unfolding call
found_call i there w g o none found =
    let put : ◌≡◌ {A = ℕ × Layout} (word_and_layout_with_item i (layout_of w)) (word_of_written_item there, record (layout_of w) { values = w.values + i.entries }) = ap (λ (f : Option WrittenItem). word_and_layout_with_reused_or_new_item f i (layout_of w)) found in
    let same : w.values + i.entries ≡ w.values = omega (arith, none) in
    let again : ◌≡◌ {A = ℕ × Layout} (word_and_layout_with_item i (layout_of w)) (word_of_written_item there, layout_of w) = put ∙ ap (λ (n : ℕ). (word_of_written_item there, record (layout_of w) { values = n })) same in
    let fine : exceeds_a_limit (8 + length w.body, w.values) ≡ false = ap (λ (n : ℕ). exceeds_a_limit (n, w.values)) (sym g.bytes) ∙ o in
    let stays : ◌≡◌ {A = ℕ × Writing} (unless_past_limit w (word_of_written_item there, layout_of w)) (word_of_written_item there, w) =
    rw fine (ap (λ (n : ℕ). (word_of_written_item there, writing_from_parts w.body w.items n w.values)) (sym g.bytes)) in
    rw o (ap (unless_past_limit w) again ∙ stays)

call_step : (i : Item) (w : Writing) → is_past_limit w ≡ false → ◌≡◌ {A = ℕ × Writing} (call (apart i) w) (unless_past_limit w (word_and_layout_with_item i (layout_of w)))
unfolding call
call_step i w o = rw o refl

-- an item that is not found changes the writer
new_call : (i : Item) (w : Writing) (word : ℕ) → is_past_limit w ≡ false → 0 < length i.bytes → find (is_equal_item w.body i) w.items ≡ None → ◌≡◌ {A = ℕ × Writing} (call (apart i) w) (word, w) → ⊥
new_call i w word o some absent e =
    let put : ◌≡◌ {A = ℕ × Layout} (word_and_layout_with_item i (layout_of w)) (word_and_layout_with_reused_or_new_item None i (layout_of w)) = ap (λ (f : Option WrittenItem). word_and_layout_with_reused_or_new_item f i (layout_of w)) absent in
    go (exceeds_a_limit (layout_counts (word_and_layout_with_reused_or_new_item None i (layout_of w)).1)) refl (sym (ap (unless_past_limit w) put) ∙ sym (call_step i w o) ∙ e)
  where
    go : (b : Bool) → exceeds_a_limit (layout_counts (word_and_layout_with_reused_or_new_item None i (layout_of w)).1) ≡ b
        → ◌≡◌ {A = ℕ × Writing} (cond {A = ℕ × Writing} b (0, record (writing_of (word_and_layout_with_reused_or_new_item None i (layout_of w)).1) { body = w.body; items = w.items }) ((word_and_layout_with_reused_or_new_item None i (layout_of w)).0, writing_of (word_and_layout_with_reused_or_new_item None i (layout_of w)).1)) (word, w) → ⊥
    go true q f = let over : true ≡ is_past_limit w = sym q ∙ ap (λ (r : ℕ × Writing). is_past_limit r.1) f in absurd cc
    go false q f =
        let zeros : List ℕ = replicate (padding_to_alignment_from_offset i.align (payload_end_offset (layout_of w))) 0 in
        let len : length (w.body ++ (zeros ++ i.bytes)) ≡ length w.body = ap (λ (r : ℕ × Writing). length r.1.body) f in
        absurd (omega (arith, len, some, length-append w.body (zeros ++ i.bytes), length-append zeros i.bytes))

found_framed : (b : List ℕ) (there : WrittenItem) (w : Writing) → HasAllItemsInBytes w → is_past_limit w ≡ false → find (is_equal_item w.body (blob_item b)) w.items ≡ Some there → HasLengthInFront (blob_item b)
found_framed b there w g o found =
    let equal = find-passes (is_equal_item w.body (blob_item b)) w.items there found in
    let long = blob_long b in
    let within = equal_within w.body there.offset (blob_item b).bytes (omega (arith, long)) (equal_bytes w.body (blob_item b) there equal) in
    let few : w.bytes ≤ MOST_BYTES = fits_of (w.bytes, w.values) o in
    blob_framed b (omega (arith, long, within, few, g.bytes))

-- ---- the word of a blob

empty_call : (w : Writing) → ◌≡◌ {A = ℕ × Writing} (blob_call [] w) (0, w)
unfolding call
empty_call w = ap (λ (x : ℕ). (x, w)) (same (is_past_limit w))
  where
    same : (b : Bool) → ◌≡◌ {A = ℕ} (cond {A = ℕ} b 0 0) 0
    same true = refl
    same false = refl

word_stays : (b : List ℕ) (word : ℕ) (w later : Writing) → HasAllItemsInBytes w → HasAllItemsInBytes later → Keeps (layout_of w) (layout_of later) → is_past_limit w ≡ false → is_past_limit later ≡ false
    → ◌≡◌ {A = ℕ × Writing} (blob_call b w) (word, w) → ◌≡◌ {A = ℕ × Writing} (blob_call b later) (word, later)
word_stays [] word w later g h k o p e =
    let zero : 0 ≡ word = ap (λ (r : ℕ × Writing). r.0) (sym (empty_call w) ∙ e) in
    empty_call later ∙ ap (λ (x : ℕ). (x, later)) zero
word_stays (y ∷ ys) word w later g h k o p e = go (find (is_equal_item w.body (blob_item (y ∷ ys))) w.items) refl
  where
    none : (blob_item (y ∷ ys)).entries ≡ 0
    none = blob_entries (y ∷ ys)

    go : (found : Option WrittenItem) → find (is_equal_item w.body (blob_item (y ∷ ys))) w.items ≡ found → ◌≡◌ {A = ℕ × Writing} (blob_call (y ∷ ys) later) (word, later)
    go None f = absurd (new_call (blob_item (y ∷ ys)) w word o (let long = blob_long (y ∷ ys) in omega (arith, long)) f e)
    go (Some there) f =
        let same : word_of_written_item there ≡ word = ap (λ (r : ℕ × Writing). r.0) (sym (found_call (blob_item (y ∷ ys)) there w g o none f) ∙ e) in
        found_call (blob_item (y ∷ ys)) there later h p none (k.found (blob_item (y ∷ ys)) there (found_framed (y ∷ ys) there w g o f) f) ∙ ap (λ (x : ℕ). (x, later)) same

-- what a call leaves of the words of blobs
pub record LeavesWords (w later : Writing) : Type 0 where
  pub whole : HasAllItemsUnlessPastLimit later
  pub words : (b : List ℕ) (word : ℕ) → IsWordOfBlob w b word → IsWordOfBlob later b word

kept : (c : Cell) (w : Writing) → (is_past_limit (call c w).1 ≡ false → IsFramedCell c) → HasAllItemsUnlessPastLimit w → LeavesWords w (call c w).1
kept c w framed h = record {
  whole = λ o. (left c w (framed o) (h (call_stored c w o).before) o).whole;
  words = λ b word is o.
      let before = (call_stored c w o).before in
      let l = left c w (framed o) (h before) o in
      word_stays b word w (call c w).1 (h before) l.whole l.keeps before o (is before);
}

pub int_keeps : (n : ℕ) (w : Writing) → HasAllItemsUnlessPastLimit w → LeavesWords w (int_call n w).1
int_keeps n w h = kept (int_cell n) w (λ o. int_cell_framed n) h

pub blob_keeps : (b : List ℕ) (w : Writing) → HasAllItemsUnlessPastLimit w → LeavesWords w (blob_call b w).1
blob_keeps b w h = kept (blob_cell b) w (blob_is_framed b w) h

pub arr_keeps : (ws : List ℕ) (w : Writing) → HasAllItemsUnlessPastLimit w → LeavesWords w (arr_call ws w).1
arr_keeps ws w h = kept (array_or_object_cell ARRAY ws) w (array_is_framed ws w) h

pub obj_keeps : (ws : List ℕ) (w : Writing) → HasAllItemsUnlessPastLimit w → LeavesWords w (obj_call ws w).1
obj_keeps ws w h = kept (array_or_object_cell OBJECT (words_without_last_nulls ws)) w (object_is_framed (words_without_last_nulls ws) w) h

pub empty_whole : HasAllItemsUnlessPastLimit empty_writing_counting_root
empty_whole o = record { whole = nothing_whole; bytes = refl }

-- the answer is the blob's word from then on
pub new_word : (b : List ℕ) (w : Writing) → HasAllItemsUnlessPastLimit w → IsWordOfBlob (blob_call b w).1 b (blob_call b w).0
unfolding call
new_word [] w h o = rw o refl
new_word (y ∷ ys) w h o =
    let s = call_stored (blob_cell (y ∷ ys)) w o in
    let found : IsFoundAgain (blob_item (y ∷ ys)) (word_and_layout_with_item (blob_item (y ∷ ys)) (layout_of w)) = put_item_found (blob_item (y ∷ ys)) (layout_of w) in
    let later : Writing = (blob_call (y ∷ ys) w).1 in
    let l = left (blob_cell (y ∷ ys)) w (blob_is_framed (y ∷ ys) w o) (h s.before) o in
    let there : find (is_equal_item later.body (blob_item (y ∷ ys))) later.items ≡ Some found.item = subst (λ (out : Layout). find (is_equal_item out.body (blob_item (y ∷ ys))) out.items ≡ Some found.item) (sym s.state) found.is in
    found_call (blob_item (y ∷ ys)) found.item later l.whole o (blob_entries (y ∷ ys)) there ∙ ap (λ (x : ℕ). (x, later)) (found.word ∙ sym s.word)
