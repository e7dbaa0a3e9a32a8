-- A value overflows exactly if its size or the number of its values passes a limit.
use Rattle.std.proofs.Common.{◌≡◌, ℕ, suc, ◌+◌, ◌^◌, ◌≤◌, Bool, true, false, cond, ltb, List, [], ◌∷◌, ◌++◌, length, Option, Some, None, Ok, refl, sym, ap, ◌∙◌, arith, inl, inr, ◌⊎◌, ◌<◌, le_trans}
use Rattle.std.specs.Prelude.{find, is_some}
use Rattle.std.specs.Int.{w8, w16, w32, w64, to_le_bytes}
use Rattle.std.proofs.lemmas.Bool.{cases_lt, lt-ltb, le-ltb, ltb-true, or_cases}
use Rattle.std.proofs.Math.Bool.{or-true}
use Rattle.adb_view.specs.Plain.{Plain, null, int, blob, arr, obj, Plains, none, more, IsNormal, AreNormal, count_of}
use Rattle.adb_view.specs.Readers.{ARRAY, OBJECT}
use Rattle.adb_write.specs.Canonical.{Item, WrittenItem, Cell, in_place, apart, int_cell, blob_cell, array_or_object_cell, words_without_last_nulls, Layout, empty_layout_counting_root, payload_end_offset, is_equal_item, word_and_layout_with_reused_or_new_item, word_and_layout_with_cell, write, write_all, payload_with_root_word_in_head, ByteAndValueCounts, layout_counts, exceeds_a_limit, counts_after_values, trace_all, counts_at_first_overflow, canonical, payload_unless_overflow, payload_or_counts_at_overflow, MOST_BYTES, MOST_VALUES}
use Rattle.adb_write.specs.Size.{payload_size_of, entries_of, entries_of_all, value_count}
use Rattle.adb_write.specs.Writing.{empty_writing_counting_root, calls}
use Rattle.adb_write.proofs.RoundTrip.{Grows-here, stored-grows, word_and_layout_with_array_or_object-grows, write_all-grows, write_all-made, words_stay}
use Rattle.adb_write.proofs.Limits.{Ends, calls-end, start_fine}

-- ---- the number of values that were written

abbrev pub entries_in : Cell → ℕ
entries_in (in_place w) = 0
entries_in (apart i) = i.entries

unless_values : (found : Option WrittenItem) (i : Item) (out : Layout) → (word_and_layout_with_reused_or_new_item found i out).1.values ≡ out.values + i.entries
unless_values None i out = refl
unless_values (Some there) i out = refl

stored_values : (c : Cell) (out : Layout) → (word_and_layout_with_cell c out).1.values ≡ out.values + entries_in c
stored_values (in_place w) out = omega arith
stored_values (apart i) out = unless_values (find (is_equal_item out.body i) out.items) i out

pub int_entries : (n : ℕ) → entries_in (int_cell n) ≡ 0
int_entries n = go (ltb n (2 ^ 28)) (ltb n (2 ^ 32))
  where
    go : (a b : Bool) → entries_in (cond a (in_place (2 ^ 28 + n)) (apart (cond b (record { kind = 2; align = 4; bytes = to_le_bytes w32 n; entries = 0 }) (record { kind = 3; align = 8; bytes = to_le_bytes w64 n; entries = 0 })))) ≡ 0
    go true b = refl
    go false true = refl
    go false false = refl

pub blob_entries : (b : List ℕ) → entries_in (blob_cell b) ≡ 0
blob_entries [] = refl
blob_entries (x ∷ xs) = go (ltb (length (x ∷ xs)) (2 ^ 8)) (ltb (length (x ∷ xs)) (2 ^ 16))
  where
    go : (a b : Bool) → (cond {A = Item} a (record { kind = 8; align = 1; bytes = to_le_bytes w8 (length (x ∷ xs)) ++ x ∷ xs; entries = 0 }) (cond b (record { kind = 9; align = 2; bytes = to_le_bytes w16 (length (x ∷ xs)) ++ x ∷ xs; entries = 0 }) (record { kind = 10; align = 4; bytes = to_le_bytes w32 (length (x ∷ xs)) ++ x ∷ xs; entries = 0 }))).entries ≡ 0
    go true b = refl
    go false true = refl
    go false false = refl

pub run_entries : (kind : ℕ) (ws : List ℕ) → entries_in (array_or_object_cell kind ws) ≡ length ws
run_entries kind [] = refl
run_entries kind (w ∷ ws) = refl

pub words_count : (vs : Plains) (out : Layout) → length (write_all vs out).0 ≡ count_of vs
unfolding write
words_count none out = refl
words_count (more v vs) out = ap suc (words_count vs (write v out).1)

mutual
  unfolding write IsNormal entries_of

  write_values : (v : Plain) (out : Layout) → IsNormal v → payload_end_offset (write v out).1 ≤ MOST_BYTES → (write v out).1.values ≡ out.values + entries_of v
  write_values null out n fits = omega arith
  write_values (int k) out n fits = stored_values (int_cell k) out ∙ ap (λ (e : ℕ). out.values + e) (int_entries k)
  write_values (blob b) out n fits = stored_values (blob_cell b) out ∙ ap (λ (e : ℕ). out.values + e) (blob_entries b)
  write_values (arr vs) out n fits =
      let r = write_all vs out in
      let g = word_and_layout_with_array_or_object-grows ARRAY r.0 r.1 in
      omega (arith, stored_values (array_or_object_cell ARRAY r.0) r.1, run_entries ARRAY r.0, words_count vs out, write_all_values vs out n.1 (le_trans (Grows-here _ _ g) fits))
  write_values (obj vs) out n fits =
      let r = write_all vs out in
      let g = word_and_layout_with_array_or_object-grows OBJECT (words_without_last_nulls r.0) r.1 in
      let within = le_trans (Grows-here _ _ g) fits in
      let all = write_all-made vs out n.2 within in
      let stay : words_without_last_nulls r.0 ≡ r.0 = words_stay (payload_with_root_word_in_head 0 r.1) vs r.0 n.1 (all.0 0) in
      omega (arith, stored_values (array_or_object_cell OBJECT (words_without_last_nulls r.0)) r.1, run_entries OBJECT (words_without_last_nulls r.0), ap length stay, words_count vs out, write_all_values vs out n.2 within)

  write_all_values : (vs : Plains) (out : Layout) → AreNormal vs → payload_end_offset (write_all vs out).1 ≤ MOST_BYTES → (write_all vs out).1.values ≡ out.values + entries_of_all vs
  write_all_values none out n fits = omega arith
  write_all_values (more v vs) out n fits =
      let g = write_all-grows vs (write v out).1 in
      omega (arith, write_values v out n.0 (le_trans (Grows-here _ _ g) fits), write_all_values vs (write v out).1 n.1 fits)

-- ---- the counts only rise

passes_more : (c d : ByteAndValueCounts) → c.0 ≤ d.0 → c.1 ≤ d.1 → exceeds_a_limit c ≡ true → exceeds_a_limit d ≡ true
passes_more c d p q e =
    elim (or_cases (ltb MOST_BYTES c.0) (ltb MOST_VALUES c.1) e) [
      | inl a ↦ let lt = ltb-true _ _ a in let t : ltb MOST_BYTES d.0 ≡ true = lt-ltb _ _ (omega arith) in rw t refl
      | inr a ↦ let lt = ltb-true _ _ a in let t : ltb MOST_VALUES d.1 ≡ true = lt-ltb _ _ (omega arith) in rw t (or-true (ltb MOST_BYTES d.0))
    ]

stored_more : (c : Cell) (out : Layout) → exceeds_a_limit (layout_counts out) ≡ true → exceeds_a_limit (layout_counts (word_and_layout_with_cell c out).1) ≡ true
stored_more c out e = passes_more _ _ (Grows-here _ _ (stored-grows c out)) (omega (arith, stored_values c out)) e

mutual
  unfolding write

  write_more : (v : Plain) (out : Layout) → exceeds_a_limit (layout_counts out) ≡ true → exceeds_a_limit (layout_counts (write v out).1) ≡ true
  write_more null out e = e
  write_more (int n) out e = stored_more (int_cell n) out e
  write_more (blob b) out e = stored_more (blob_cell b) out e
  write_more (arr vs) out e = stored_more (array_or_object_cell ARRAY (write_all vs out).0) (write_all vs out).1 (write_all_more vs out e)
  write_more (obj vs) out e = stored_more (array_or_object_cell OBJECT (words_without_last_nulls (write_all vs out).0)) (write_all vs out).1 (write_all_more vs out e)

  write_all_more : (vs : Plains) (out : Layout) → exceeds_a_limit (layout_counts out) ≡ true → exceeds_a_limit (layout_counts (write_all vs out).1) ≡ true
  write_all_more none out e = e
  write_all_more (more v vs) out e = write_all_more vs (write v out).1 (write_more v out e)

find_either : (xs ys : List ByteAndValueCounts) (c : ByteAndValueCounts) → find exceeds_a_limit (xs ++ ys) ≡ Some c → (find exceeds_a_limit xs ≡ Some c) ⊎ (find exceeds_a_limit ys ≡ Some c)
find_either [] ys c e = inr e
find_either (x ∷ xs) ys c e = go (exceeds_a_limit x) (λ f. find_either xs ys c f) e
  where
    go : (b : Bool) → (find exceeds_a_limit (xs ++ ys) ≡ Some c → (find exceeds_a_limit xs ≡ Some c) ⊎ (find exceeds_a_limit ys ≡ Some c)) → cond b (Some x) (find exceeds_a_limit (xs ++ ys)) ≡ Some c → (cond b (Some x) (find exceeds_a_limit xs) ≡ Some c) ⊎ (find exceeds_a_limit ys ≡ Some c)
    go true h e = inl e
    go false h e = h e

find_one : (x c : ByteAndValueCounts) → find exceeds_a_limit (x ∷ []) ≡ Some c → exceeds_a_limit x ≡ true
find_one x c e = go (exceeds_a_limit x) refl e
  where
    go : (b : Bool) → exceeds_a_limit x ≡ b → cond b (Some x) None ≡ Some c → exceeds_a_limit x ≡ true
    go true i e = i
    go false i e = absurd cc

mutual
  unfolding write counts_after_values

  trace_over : (v : Plain) (out : Layout) (c : ByteAndValueCounts) → find exceeds_a_limit (counts_after_values v out) ≡ Some c → exceeds_a_limit (layout_counts (write v out).1) ≡ true
  trace_over null out c e = absurd cc
  trace_over (int n) out c e = find_one (layout_counts (write (int n) out).1) c e
  trace_over (blob b) out c e = find_one (layout_counts (write (blob b) out).1) c e
  trace_over (arr vs) out c e =
      elim (find_either (trace_all vs out) (layout_counts (write (arr vs) out).1 ∷ []) c e) [
        | inl a ↦ stored_more (array_or_object_cell ARRAY (write_all vs out).0) (write_all vs out).1 (trace_all_over vs out c a)
        | inr a ↦ find_one (layout_counts (write (arr vs) out).1) c a
      ]
  trace_over (obj vs) out c e =
      elim (find_either (trace_all vs out) (layout_counts (write (obj vs) out).1 ∷ []) c e) [
        | inl a ↦ stored_more (array_or_object_cell OBJECT (words_without_last_nulls (write_all vs out).0)) (write_all vs out).1 (trace_all_over vs out c a)
        | inr a ↦ find_one (layout_counts (write (obj vs) out).1) c a
      ]

  trace_all_over : (vs : Plains) (out : Layout) (c : ByteAndValueCounts) → find exceeds_a_limit (trace_all vs out) ≡ Some c → exceeds_a_limit (layout_counts (write_all vs out).1) ≡ true
  trace_all_over none out c e = absurd cc
  trace_all_over (more v vs) out c e =
      elim (find_either (counts_after_values v out) (trace_all vs (write v out).1) c e) [
        | inl a ↦ write_all_more vs (write v out).1 (trace_over v out c a)
        | inr a ↦ trace_all_over vs (write v out).1 c a
      ]

-- ---- the law

overflow_final : (v : Plain) → is_some (counts_at_first_overflow v) ≡ exceeds_a_limit (layout_counts (write v empty_layout_counting_root).1)
overflow_final v = go (calls-end v empty_layout_counting_root start_fine)
  where
    go : Ends (counts_after_values v empty_layout_counting_root) (calls v empty_writing_counting_root) (write v empty_layout_counting_root) → is_some (counts_at_first_overflow v) ≡ exceeds_a_limit (layout_counts (write v empty_layout_counting_root).1)
    go (inl a) = let w = a.3 in ap is_some a.0 ∙ sym w.fine
    go (inr b) = ap is_some b.1 ∙ sym (trace_over v empty_layout_counting_root b.0 b.1)

pub overflow_exact : (v : Plain) → IsNormal v → is_some (counts_at_first_overflow v) ≡ exceeds_a_limit (payload_size_of v, value_count v)
overflow_exact v n = overflow_final v ∙ same
  where
    size : payload_end_offset (write v empty_layout_counting_root).1 ≡ payload_size_of v
    size = omega arith

    same : exceeds_a_limit (layout_counts (write v empty_layout_counting_root).1) ≡ exceeds_a_limit (payload_size_of v, value_count v)
    same = elim (cases_lt MOST_BYTES (payload_end_offset (write v empty_layout_counting_root).1)) [
      | inl a ↦
          let s = size in
          let t : ltb MOST_BYTES (payload_end_offset (write v empty_layout_counting_root).1) ≡ true = lt-ltb _ _ a in
          let u : ltb MOST_BYTES (payload_size_of v) ≡ true = lt-ltb _ _ (omega arith) in
          rw (t, u) refl
      | inr a ↦
          let values : (write v empty_layout_counting_root).1.values ≡ value_count v = write_values v empty_layout_counting_root n a in
          rw (size, values) refl
    ]

-- ---- up to both limits

pub fits_written : (v : Plain) → IsNormal v → payload_size_of v < 2 ^ 28 → value_count v ≤ 2 ^ 22 → payload_or_counts_at_overflow v ≡ Ok (canonical v)
unfolding payload_or_counts_at_overflow
fits_written v n size values = ap (payload_unless_overflow (canonical v)) (nothing (counts_at_first_overflow v) (overflow_exact v n ∙ fine))
  where
    fine : exceeds_a_limit (payload_size_of v, value_count v) ≡ false
    fine =
        let t : ltb MOST_BYTES (payload_size_of v) ≡ false = le-ltb _ _ (omega arith) in
        let u : ltb MOST_VALUES (value_count v) ≡ false = le-ltb _ _ (omega arith) in
        rw (t, u) refl

    nothing : (o : Option ByteAndValueCounts) → is_some o ≡ false → o ≡ None
    nothing None e = refl
    nothing (Some c) e = absurd cc

pub larger_refused : (v : Plain) → IsNormal v → (2 ^ 28 ≤ payload_size_of v) ⊎ (2 ^ 22 < value_count v) → is_some (counts_at_first_overflow v) ≡ true
larger_refused v n (inl size) = overflow_exact v n ∙ (let t : ltb MOST_BYTES (payload_size_of v) ≡ true = lt-ltb _ _ (omega arith) in rw t refl)
larger_refused v n (inr values) = overflow_exact v n ∙ (let t : ltb MOST_VALUES (value_count v) ≡ true = lt-ltb _ _ (omega arith) in rw t (or-true (ltb MOST_BYTES (payload_size_of v))))
