-- One call of the writer, as the code makes it.
use Rattle.std.proofs.Common.{◌≡◌, ◌<◌, ℕ, ◌+◌, ◌*◌, ◌^◌, Bool, true, false, List, [], ◌∷◌, ◌++◌, length, replicate, if◌then◌else◌, Option, Some, None, Result, Ok, Err, OnErr, refl, sym, ap, ◌∙◌, arith}
use Rattle.std.specs.Prelude.{find, option_map}
use Rattle.std.proofs.lemmas.List.{length-append, length-replicate}
use Rattle.adb_write.specs.Canonical.{padding_to_alignment_from_offset, Item, WrittenItem, apart, in_place, is_equal_item, word_of_written_item, blob_cell, array_or_object_cell, Layout, word_and_layout_with_new_item, word_and_layout_with_reused_or_new_item, word_and_layout_with_item, layout_counts, exceeds_a_limit}
use Rattle.adb_write.specs.Writing.{Writing, Grows, layout_of, writing_of, unless_past_limit, call, writing_from_parts}
use Rattle.adb_write.specs.WriterState.{IsWordOfEqualItem}

pub call_past : (i : Item) (body : List ℕ) (items : List WrittenItem) (bytes values : ℕ) → exceeds_a_limit (bytes, values) ≡ true → call (apart i) (writing_from_parts body items bytes values) ≡ (0, writing_from_parts body items bytes values)
unfolding call
call_past i body items bytes values p = rw p refl

pub call_null : (w : Writing) → call (in_place 0) w ≡ (0, w)
unfolding call
call_null w = go (exceeds_a_limit (w.bytes, w.values))
  where
    go : (b : Bool) → ◌≡◌ {A = ℕ × Writing} ((if b then 0 else 0), w) (0, w)
    go true = refl
    go false = refl

-- within the limits a call takes the step of the layout
call_steps : (i : Item) (w : Writing) → exceeds_a_limit (w.bytes, w.values) ≡ false → call (apart i) w ≡ unless_past_limit w (word_and_layout_with_item i (layout_of w))
unfolding call
call_steps i w fine = rw fine refl

-- ---- an item that is equal to a written one

call_step_found : (i : Item) (w : Writing) (there : WrittenItem) → exceeds_a_limit (w.bytes, w.values) ≡ false → find (is_equal_item w.body i) w.items ≡ Some there
    → call (apart i) w ≡ unless_past_limit w (word_of_written_item there, record (layout_of w) { values = w.values + i.entries })
call_step_found i w there fine found = call_steps i w fine ∙ ap (λ (o : Option WrittenItem). unless_past_limit w (word_and_layout_with_reused_or_new_item o i (layout_of w))) found

pub repeat_stops : (i : Item) (body : List ℕ) (items : List WrittenItem) (bytes values : ℕ) (there : WrittenItem) → exceeds_a_limit (bytes, values) ≡ false → bytes ≡ 8 + length body
    → find (is_equal_item body i) items ≡ Some there → exceeds_a_limit (bytes, values + i.entries) ≡ true
    → call (apart i) (writing_from_parts body items bytes values) ≡ (0, writing_from_parts body items bytes (values + i.entries))
repeat_stops i body items bytes values there fine e found past =
    let over : exceeds_a_limit (8 + length body, values + i.entries) ≡ true = ap (λ (k : ℕ). exceeds_a_limit (k, values + i.entries)) (sym e) ∙ past in
    call_step_found i (writing_from_parts body items bytes values) there fine found ∙ rw over (ap (λ (k : ℕ). (0, writing_from_parts body items k (values + i.entries))) (sym e))

pub repeat_fits : (i : Item) (body : List ℕ) (items : List WrittenItem) (bytes values : ℕ) (there : WrittenItem) → exceeds_a_limit (bytes, values) ≡ false → bytes ≡ 8 + length body
    → find (is_equal_item body i) items ≡ Some there → exceeds_a_limit (bytes, values + i.entries) ≡ false
    → call (apart i) (writing_from_parts body items bytes values) ≡ (word_of_written_item there, writing_from_parts body items bytes (values + i.entries))
repeat_fits i body items bytes values there fine e found fits =
    let over : exceeds_a_limit (8 + length body, values + i.entries) ≡ false = ap (λ (k : ℕ). exceeds_a_limit (k, values + i.entries)) (sym e) ∙ fits in
    call_step_found i (writing_from_parts body items bytes values) there fine found ∙ rw over (ap (λ (k : ℕ). (word_of_written_item there, writing_from_parts body items k (values + i.entries))) (sym e))

-- ---- an item that was not written before

-- where an item ends that begins after so many bytes
abbrev pub end_of : Item → ℕ → ℕ
end_of i bytes = bytes + padding_to_alignment_from_offset i.align bytes + length i.bytes

-- if it begins, after the head
abbrev pub written_at : Item → List ℕ → WrittenItem
written_at i body = record { kind = i.kind; offset = length body + padding_to_alignment_from_offset i.align (8 + length body) }

call_step_new : (i : Item) (w : Writing) → exceeds_a_limit (w.bytes, w.values) ≡ false → find (is_equal_item w.body i) w.items ≡ None
    → call (apart i) w ≡ unless_past_limit w (word_and_layout_with_new_item i (layout_of w))
call_step_new i w fine none = call_steps i w fine ∙ ap (λ (o : Option WrittenItem). unless_past_limit w (word_and_layout_with_reused_or_new_item o i (layout_of w))) none

placed_counts : (i : Item) (body : List ℕ) (items : List WrittenItem) (bytes values : ℕ) → bytes ≡ 8 + length body → layout_counts (word_and_layout_with_new_item i (layout_of (writing_from_parts body items bytes values))).1 ≡ (end_of i bytes, values + i.entries)
placed_counts i body items bytes values e =
    let zeros : List ℕ = replicate (padding_to_alignment_from_offset i.align (8 + length body)) 0 in
    let len : 8 + length (body ++ (zeros ++ i.bytes)) ≡ end_of i (8 + length body) = omega (arith, length-append body (zeros ++ i.bytes), length-append zeros i.bytes, length-replicate {A = ℕ} (padding_to_alignment_from_offset i.align (8 + length body)) 0) in
    ap (λ (k : ℕ). (k, values + i.entries)) (len ∙ ap (λ (k : ℕ). end_of i k) (sym e))

pub call_stops : (i : Item) (body : List ℕ) (items : List WrittenItem) (bytes values : ℕ) → exceeds_a_limit (bytes, values) ≡ false → bytes ≡ 8 + length body
    → find (is_equal_item body i) items ≡ None → exceeds_a_limit (end_of i bytes, values + i.entries) ≡ true
    → call (apart i) (writing_from_parts body items bytes values) ≡ (0, writing_from_parts body items (end_of i bytes) (values + i.entries))
call_stops i body items bytes values a e none r =
    let counts = placed_counts i body items bytes values e in
    let b : exceeds_a_limit (layout_counts (word_and_layout_with_new_item i (layout_of (writing_from_parts body items bytes values))).1) ≡ true = ap exceeds_a_limit counts ∙ r in
    call_step_new i (writing_from_parts body items bytes values) a none ∙ rw b (ap (λ (k : ℕ × ℕ). (0, writing_from_parts body items k.0 k.1)) counts)

pub call_fits : (i : Item) (body : List ℕ) (items : List WrittenItem) (bytes values : ℕ) → exceeds_a_limit (bytes, values) ≡ false → bytes ≡ 8 + length body
    → find (is_equal_item body i) items ≡ None → exceeds_a_limit (end_of i bytes, values + i.entries) ≡ false
    → call (apart i) (writing_from_parts body items bytes values) ≡ (i.kind * 2 ^ 28 + (bytes + padding_to_alignment_from_offset i.align bytes), writing_from_parts (body ++ (replicate (padding_to_alignment_from_offset i.align bytes) 0 ++ i.bytes)) (written_at i body ∷ items) (end_of i bytes) (values + i.entries))
call_fits i body items bytes values a e none r =
    let counts = placed_counts i body items bytes values e in
    let b : exceeds_a_limit (layout_counts (word_and_layout_with_new_item i (layout_of (writing_from_parts body items bytes values))).1) ≡ false = ap exceeds_a_limit counts ∙ r in
    call_step_new i (writing_from_parts body items bytes values) a none
    ∙ rw b (pair_same _ _ _ _ (ap (λ (k : ℕ). i.kind * 2 ^ 28 + (k + padding_to_alignment_from_offset i.align k)) (sym e)) (writing_same _ _ counts (ap (λ (k : ℕ). body ++ (replicate (padding_to_alignment_from_offset i.align k) 0 ++ i.bytes)) (sym e)) refl))
  where
    pair_same : (x y : ℕ) (u v : Writing) → x ≡ y → u ≡ v → ◌≡◌ {A = ℕ × Writing} (x, u) (y, v)
    pair_same x y u v f g = cc

    writing_same : (x : Layout) (c : ℕ × ℕ) → layout_counts x ≡ c → x.body ≡ body ++ (replicate (padding_to_alignment_from_offset i.align bytes) 0 ++ i.bytes) → x.items ≡ written_at i body ∷ items
        → writing_of x ≡ writing_from_parts (body ++ (replicate (padding_to_alignment_from_offset i.align bytes) 0 ++ i.bytes)) (written_at i body ∷ items) c.0 c.1
    writing_same x c f g h =
        ap (λ (b : List ℕ). writing_from_parts b x.items (layout_counts x).0 (layout_counts x).1) g
        ∙ ap (λ (is : List WrittenItem). writing_from_parts (body ++ (replicate (padding_to_alignment_from_offset i.align bytes) 0 ++ i.bytes)) is (layout_counts x).0 (layout_counts x).1) h
        ∙ ap (λ (k : ℕ × ℕ). writing_from_parts (body ++ (replicate (padding_to_alignment_from_offset i.align bytes) 0 ++ i.bytes)) (written_at i body ∷ items) k.0 k.1) f

-- an item that fits adds its bytes
pub call_grows : (i : Item) (body : List ℕ) (items : List WrittenItem) (bytes values : ℕ) → exceeds_a_limit (bytes, values) ≡ false → bytes ≡ 8 + length body
    → find (is_equal_item body i) items ≡ None → exceeds_a_limit (end_of i bytes, values + i.entries) ≡ false → 0 < length i.bytes
    → Grows (writing_from_parts body items bytes values) (call (apart i) (writing_from_parts body items bytes values)).1
call_grows i body items bytes values a e none r some =
    let zeros : List ℕ = replicate (padding_to_alignment_from_offset i.align bytes) 0 in
    let is : length (call (apart i) (writing_from_parts body items bytes values)).1.body ≡ length (body ++ (zeros ++ i.bytes)) = ap (λ (p : ℕ × Writing). length p.1.body) (call_fits i body items bytes values a e none r) in
    omega (arith, is, length-append body (zeros ++ i.bytes), length-append zeros i.bytes)

pub on_err : {T E : Type 0} (r : Result T E) (P : Type 0) → P → OnErr r P
on_err (Ok x) P p = tt
on_err (Err e) P p = p

pub blob_null : (b : List ℕ) (w : Writing) → length b ≡ 0 → call (blob_cell b) w ≡ (0, w)
blob_null [] w e = call_null w
blob_null (x ∷ xs) w e = absurd (omega arith)

pub run_null : (kind : ℕ) (ws : List ℕ) (w : Writing) → length ws ≡ 0 → call (array_or_object_cell kind ws) w ≡ (0, w)
run_null kind [] w e = call_null w
run_null kind (x ∷ xs) w e = absurd (omega arith)

found_there : (i : Item) (w : Writing) (word : ℕ) → IsWordOfEqualItem i w word → (there : WrittenItem) × (find (is_equal_item w.body i) w.items ≡ Some there) × (word_of_written_item there ≡ word)
found_there i w word e = go (find (is_equal_item w.body i) w.items) refl e
  where
    go : (o : Option WrittenItem) → find (is_equal_item w.body i) w.items ≡ o → option_map word_of_written_item o ≡ Some word → (there : WrittenItem) × (find (is_equal_item w.body i) w.items ≡ Some there) × (word_of_written_item there ≡ word)
    go None is f = absurd cc
    go (Some there) is f = (there, is, cc)

pub repeat_past : (i : Item) (body : List ℕ) (items : List WrittenItem) (bytes values word : ℕ) → exceeds_a_limit (bytes, values) ≡ false → bytes ≡ 8 + length body
    → IsWordOfEqualItem i (writing_from_parts body items bytes values) word → exceeds_a_limit (bytes, values + i.entries) ≡ true
    → call (apart i) (writing_from_parts body items bytes values) ≡ (0, writing_from_parts body items bytes (values + i.entries))
repeat_past i body items bytes values word fine agree f past =
    let found = found_there i (writing_from_parts body items bytes values) word f in
    repeat_stops i body items bytes values found.0 fine agree found.1 past

pub repeat_word : (i : Item) (body : List ℕ) (items : List WrittenItem) (bytes values word : ℕ) → exceeds_a_limit (bytes, values) ≡ false → bytes ≡ 8 + length body
    → IsWordOfEqualItem i (writing_from_parts body items bytes values) word → exceeds_a_limit (bytes, values + i.entries) ≡ false
    → call (apart i) (writing_from_parts body items bytes values) ≡ (word, writing_from_parts body items bytes (values + i.entries))
repeat_word i body items bytes values word fine agree f fits =
    let found = found_there i (writing_from_parts body items bytes values) word f in
    repeat_fits i body items bytes values found.0 fine agree found.1 fits ∙ ap (λ (x : ℕ). (x, writing_from_parts body items bytes (values + i.entries))) found.2
