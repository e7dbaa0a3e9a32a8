-- Depth first, the writer's calls write what the canonical layout has, or stop with the counts after
-- the first value past a limit.
use Rattle.std.proofs.Common.{◌≡◌, ℕ, Bool, true, false, cond, List, [], ◌∷◌, ◌++◌, Some, None, Ok, Err, refl, sym, ap, ◌∙◌, inl, inr, ◌⊎◌}
use Rattle.std.specs.Prelude.{find}
use Rattle.adb_view.specs.Plain.{Plain, null, int, blob, arr, obj, Plains, none, more}
use Rattle.adb_view.specs.Readers.{ARRAY, OBJECT}
use Rattle.adb_write.specs.Canonical.{Cell, in_place, apart, int_cell, blob_cell, array_or_object_cell, words_without_last_nulls, Layout, empty_layout_counting_root, word_and_layout_with_cell, word_and_layout_with_array_or_object, write, write_all, payload_with_root_word_in_head, canonical, ByteAndValueCounts, layout_counts, exceeds_a_limit, counts_after_values, trace_all, counts_at_first_overflow, payload_unless_overflow, payload_or_counts_at_overflow}
use Rattle.adb_write.specs.Writing.{Writing, empty_writing_counting_root, writing_counts, is_past_limit, writing_of, call, finish_result, calls, calls_all}

find-none : (xs ys : List ByteAndValueCounts) → find exceeds_a_limit xs ≡ None → find exceeds_a_limit (xs ++ ys) ≡ find exceeds_a_limit ys
find-none [] ys e = refl
find-none (x ∷ xs) ys e = go (exceeds_a_limit x) (λ f. find-none xs ys f) e
  where
    go : (b : Bool) → (find exceeds_a_limit xs ≡ None → find exceeds_a_limit (xs ++ ys) ≡ find exceeds_a_limit ys) → cond b (Some x) (find exceeds_a_limit xs) ≡ None → cond b (Some x) (find exceeds_a_limit (xs ++ ys)) ≡ find exceeds_a_limit ys
    go true h e = absurd cc
    go false h e = h e

find-some : (xs ys : List ByteAndValueCounts) (c : ByteAndValueCounts) → find exceeds_a_limit xs ≡ Some c → find exceeds_a_limit (xs ++ ys) ≡ Some c
find-some [] ys c e = absurd cc
find-some (x ∷ xs) ys c e = go (exceeds_a_limit x) (λ f. find-some xs ys c f) e
  where
    go : (b : Bool) → (find exceeds_a_limit xs ≡ Some c → find exceeds_a_limit (xs ++ ys) ≡ Some c) → cond b (Some x) (find exceeds_a_limit xs) ≡ Some c → cond b (Some x) (find exceeds_a_limit (xs ++ ys)) ≡ Some c
    go true h e = e
    go false h e = h e

-- ---- past a limit nothing changes

call-over : (c : Cell) (w : Writing) → is_past_limit w ≡ true → call c w ≡ (0, w)
unfolding call
call-over (in_place word) w o = rw o refl
call-over (apart i) w o = rw o refl

mutual
  unfolding calls

  calls-over : (v : Plain) (w : Writing) → is_past_limit w ≡ true → (calls v w).1 ≡ w
  calls-over null w o = refl
  calls-over (int n) w o = ap (λ (r : ℕ × Writing). r.1) (call-over (int_cell n) w o)
  calls-over (blob b) w o = ap (λ (r : ℕ × Writing). r.1) (call-over (blob_cell b) w o)
  calls-over (arr vs) w o =
      let s = calls_all-over vs w o in
      ap (λ (r : ℕ × Writing). r.1) (call-over (array_or_object_cell ARRAY (calls_all vs w).0) (calls_all vs w).1 (rw s o)) ∙ s
  calls-over (obj vs) w o =
      let s = calls_all-over vs w o in
      ap (λ (r : ℕ × Writing). r.1) (call-over (array_or_object_cell OBJECT (words_without_last_nulls (calls_all vs w).0)) (calls_all vs w).1 (rw s o)) ∙ s

  calls_all-over : (vs : Plains) (w : Writing) → is_past_limit w ≡ true → (calls_all vs w).1 ≡ w
  calls_all-over none w o = refl
  calls_all-over (more v vs) w o = let s = calls-over v w o in calls_all-over vs (calls v w).1 (rw s o) ∙ s

-- ---- one call

-- within the limits
pub record Within (out : Layout) : Type 0 where
  pub fine : exceeds_a_limit (layout_counts out) ≡ false

-- either all is written, or the writer follows the first value past a limit
abbrev pub Ends : {A : Type 0} → List ByteAndValueCounts → A × Writing → A × Layout → Type 0
Ends writing_counts r s = ((find exceeds_a_limit writing_counts ≡ None) × (r.0 ≡ s.0) × (r.1 ≡ writing_of s.1) × Within s.1) ⊎ ((c : ByteAndValueCounts) × (find exceeds_a_limit writing_counts ≡ Some c) × ((r.1.bytes, r.1.values) ≡ c) × (is_past_limit r.1 ≡ true))

call-ends : (c : Cell) (out : Layout) → Within out → Ends (layout_counts (word_and_layout_with_cell c out).1 ∷ []) (call c (writing_of out)) (word_and_layout_with_cell c out)
unfolding call
call-ends (in_place word) out w = rw w.fine (inl (refl, refl, refl, w))
call-ends (apart i) out w = rw w.fine (go (exceeds_a_limit (layout_counts (word_and_layout_with_cell (apart i) out).1)) refl)
  where
    go : (b : Bool) → exceeds_a_limit (layout_counts (word_and_layout_with_cell (apart i) out).1) ≡ b
        → Ends (layout_counts (word_and_layout_with_cell (apart i) out).1 ∷ []) (cond b (0, record (writing_of (word_and_layout_with_cell (apart i) out).1) { body = out.body; items = out.items }) ((word_and_layout_with_cell (apart i) out).0, writing_of (word_and_layout_with_cell (apart i) out).1)) (word_and_layout_with_cell (apart i) out)
    go true e = inr (layout_counts (word_and_layout_with_cell (apart i) out).1, rw e refl, refl, e)
    go false e = inl (rw e refl, refl, refl, record { fine = e })

-- ---- all calls

then_ends : {A B : Type 0} (xs ys : List ByteAndValueCounts) (r : A × Writing) (s : A × Layout) (r' : B × Writing) (s' : B × Layout) → Ends xs r s → (r.0 ≡ s.0 → r.1 ≡ writing_of s.1 → Within s.1 → Ends ys r' s') → (is_past_limit r.1 ≡ true → r'.1 ≡ r.1) → Ends (xs ++ ys) r' s'
then_ends xs ys r s r' s' (inl a) f g =
    elim (f a.1 a.2 a.3) [
      | inl b ↦ inl (find-none xs ys a.0 ∙ b.0, b.1, b.2, b.3)
      | inr b ↦ inr (b.0, find-none xs ys a.0 ∙ b.1, b.2, b.3)
    ]
then_ends xs ys r s r' s' (inr b) f g =
    let same = g b.3 in
    inr (b.0, find-some xs ys b.0 b.1, ap (λ (w : Writing). (w.bytes, w.values)) same ∙ b.2, rw same b.3)

-- a run over what was written
run_ends : (kind : ℕ) (f : List ℕ → List ℕ) (r : List ℕ × Writing) (s : List ℕ × Layout) → r.0 ≡ s.0 → r.1 ≡ writing_of s.1 → Within s.1
    → Ends (layout_counts (word_and_layout_with_array_or_object kind (f s.0) s.1).1 ∷ []) (call (array_or_object_cell kind (f r.0)) r.1) (word_and_layout_with_array_or_object kind (f s.0) s.1)
run_ends kind f r s words state fine = rw (words, state) (call-ends (array_or_object_cell kind (f s.0)) s.1 fine)

cons_ends : (v : Plain) (vs : Plains) (out : Layout) → (calls v (writing_of out)).0 ≡ (write v out).0 → (calls v (writing_of out)).1 ≡ writing_of (write v out).1
    → Ends (trace_all vs (write v out).1) (calls_all vs (writing_of (write v out).1)) (write_all vs (write v out).1)
    → Ends (trace_all vs (write v out).1) (calls_all (more v vs) (writing_of out)) (write_all (more v vs) out)
unfolding calls write
cons_ends v vs out word state (inl a) = inl (a.0, cons_words (calls v (writing_of out)).0 (write v out).0 (calls_all vs (calls v (writing_of out)).1) (write_all vs (write v out).1) word (rw state a.1), rw state a.2, a.3)
  where
    cons_words : (x y : ℕ) (r : List ℕ × Writing) (s : List ℕ × Layout) → x ≡ y → r.0 ≡ s.0 → x ∷ r.0 ≡ y ∷ s.0
    cons_words x y r s e f = cc
cons_ends v vs out word state (inr b) = inr (b.0, b.1, rw state b.2, rw state b.3)

mutual
  unfolding calls write counts_after_values

  pub calls-end : (v : Plain) (out : Layout) → Within out → Ends (counts_after_values v out) (calls v (writing_of out)) (write v out)
  calls-end null out w = inl (refl, refl, refl, w)
  calls-end (int n) out w = call-ends (int_cell n) out w
  calls-end (blob b) out w = call-ends (blob_cell b) out w
  calls-end (arr vs) out w =
      then_ends (trace_all vs out) (layout_counts (write (arr vs) out).1 ∷ []) (calls_all vs (writing_of out)) (write_all vs out) (calls (arr vs) (writing_of out)) (write (arr vs) out) (calls_all-end vs out w)
      (λ words state fine. run_ends ARRAY (λ ws. ws) (calls_all vs (writing_of out)) (write_all vs out) words state fine)
      (λ o. ap (λ (r : ℕ × Writing). r.1) (call-over (array_or_object_cell ARRAY (calls_all vs (writing_of out)).0) (calls_all vs (writing_of out)).1 o))
  calls-end (obj vs) out w =
      then_ends (trace_all vs out) (layout_counts (write (obj vs) out).1 ∷ []) (calls_all vs (writing_of out)) (write_all vs out) (calls (obj vs) (writing_of out)) (write (obj vs) out) (calls_all-end vs out w)
      (λ words state fine. run_ends OBJECT words_without_last_nulls (calls_all vs (writing_of out)) (write_all vs out) words state fine)
      (λ o. ap (λ (r : ℕ × Writing). r.1) (call-over (array_or_object_cell OBJECT (words_without_last_nulls (calls_all vs (writing_of out)).0)) (calls_all vs (writing_of out)).1 o))

  pub calls_all-end : (vs : Plains) (out : Layout) → Within out → Ends (trace_all vs out) (calls_all vs (writing_of out)) (write_all vs out)
  calls_all-end none out w = inl (refl, refl, refl, w)
  calls_all-end (more v vs) out w =
      then_ends (counts_after_values v out) (trace_all vs (write v out).1) (calls v (writing_of out)) (write v out) (calls_all (more v vs) (writing_of out)) (write_all (more v vs) out) (calls-end v out w)
      (λ word state fine. cons_ends v vs out word state (calls_all-end vs (write v out).1 fine))
      (λ o. calls_all-over vs (calls v (writing_of out)).1 o)

-- ---- the law

pub start_fine : Within empty_layout_counting_root
start_fine = record { fine = refl }

pub calls-written : (v : Plain) → finish_result (calls v empty_writing_counting_root).0 (calls v empty_writing_counting_root).1 ≡ payload_or_counts_at_overflow v
unfolding payload_or_counts_at_overflow
calls-written v = go (calls-end v empty_layout_counting_root start_fine)
  where
    fitting : (r : ℕ × Writing) (s : ℕ × Layout) → r.0 ≡ s.0 → r.1 ≡ writing_of s.1 → Within s.1 → finish_result r.0 r.1 ≡ Ok (payload_with_root_word_in_head s.0 s.1)
    fitting r s word state w = let fine = w.fine in rw (word, state, fine) refl

    past : (word : ℕ) (w : Writing) → is_past_limit w ≡ true → finish_result word w ≡ Err (writing_counts w)
    past word w o = rw o refl

    go : Ends (counts_after_values v empty_layout_counting_root) (calls v empty_writing_counting_root) (write v empty_layout_counting_root) → finish_result (calls v empty_writing_counting_root).0 (calls v empty_writing_counting_root).1 ≡ payload_unless_overflow (canonical v) (counts_at_first_overflow v)
    go (inl a) = fitting (calls v empty_writing_counting_root) (write v empty_layout_counting_root) a.1 a.2 a.3 ∙ ap (payload_unless_overflow (canonical v)) (sym a.0)
    go (inr b) = past (calls v empty_writing_counting_root).0 (calls v empty_writing_counting_root).1 b.3 ∙ ap Err b.2 ∙ ap (payload_unless_overflow (canonical v)) (sym b.1)
