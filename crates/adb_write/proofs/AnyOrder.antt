-- In whatever order the calls are made, an answer within the limits represents the value that it was
-- made of, and goes on standing for it.
use Rattle.std.proofs.Common.{◌≡◌, ℕ, ◌^◌, ◌<◌, ◌≤◌, Bool, true, false, cond, eqb, ltb, List, [], ◌∷◌, refl, sym, ap, subst, ◌∙◌, lit<}
use Rattle.std.specs.Prelude.{◌||◌, Some, Ok, Result, Err}
use Rattle.std.specs.List.{AllByRecursion}
use Rattle.std.proofs.lemmas.Bool.{ltb-false, ne_eqb}
use Rattle.adb_view.specs.Plain.{Plain, null, int, blob, arr, obj, Plains, none, more, without_last_nulls, prepend_plain_unless_last_null, blob_or_null, array_or_null, object_or_null, trimmed_object_or_null, Shape, IsNormal, plain_of, root_value_with_shape}
use Rattle.adb_view.specs.Readers.{ARRAY, OBJECT}
use Rattle.adb_write.specs.Canonical.{Cell, in_place, apart, int_cell, blob_cell, array_or_object_cell, prepend_unless_last_null, words_without_last_nulls, Layout, payload_end_offset, word_and_layout_with_item, word_and_layout_with_cell, word_and_layout_with_array_or_object, ByteAndValueCounts, layout_counts, exceeds_a_limit, payload_with_root_word_in_head, MOST_BYTES, MOST_VALUES}
use Rattle.adb_view.specs.Shaped.{HasShape}
use Rattle.adb_write.specs.Denotes.{Holds, HoldAll, IsWordOf, Denotes, AllDenoteValuesUnlessPastLimit}
use Rattle.adb_write.specs.Writing.{Writing, writing_counts, is_past_limit, layout_of, writing_of, unless_past_limit, call, finish_result, int_call, blob_call, arr_call, obj_call}
use Rattle.adb_write.proofs.RoundTrip.{Fits, Grows, Grows-Holds, Grows-HoldAll, MadeRun, stored-grows, word_and_layout_with_array_or_object-grows, int_made, blob_made, run_made, not_null_word, root_again, plain_of-Holds}
use Rattle.adb_write.proofs.WriterSteps.{call_null}

-- a call that stays within the limits did the step
pub record Stored (c : Cell) (w : Writing) : Type 0 where
  pub before : is_past_limit w ≡ false
  pub word : (call c w).0 ≡ (word_and_layout_with_cell c (layout_of w)).0
  pub state : layout_of (call c w).1 ≡ (word_and_layout_with_cell c (layout_of w)).1
  pub fits : Fits c (layout_of w)

pub fits_of : (c : ℕ × ℕ) → exceeds_a_limit c ≡ false → c.0 ≤ MOST_BYTES
fits_of c e = go (ltb MOST_BYTES c.0) refl e
  where
    go : (b : Bool) → ltb MOST_BYTES c.0 ≡ b → (b || ltb MOST_VALUES c.1) ≡ false → c.0 ≤ MOST_BYTES
    go true i f = absurd cc
    go false i f = ltb-false _ _ i

pub call_stored : (c : Cell) (w : Writing) → is_past_limit (call c w).1 ≡ false → Stored c w
unfolding call
call_stored (in_place word) w e = record { before = e; word = rw e refl; state = refl; fits = tt }
call_stored (apart i) w e = go (is_past_limit w) refl e
  where
    past : (b : Bool) → exceeds_a_limit (layout_counts (word_and_layout_with_item i (layout_of w)).1) ≡ b
        → is_past_limit (cond {A = ℕ × Writing} b (0, record (writing_of (word_and_layout_with_item i (layout_of w)).1) { body = w.body; items = w.items }) ((word_and_layout_with_item i (layout_of w)).0, writing_of (word_and_layout_with_item i (layout_of w)).1)).1 ≡ false
        → (◌≡◌ {A = ℕ × Writing} (cond {A = ℕ × Writing} b (0, record (writing_of (word_and_layout_with_item i (layout_of w)).1) { body = w.body; items = w.items }) ((word_and_layout_with_item i (layout_of w)).0, writing_of (word_and_layout_with_item i (layout_of w)).1)) ((word_and_layout_with_item i (layout_of w)).0, writing_of (word_and_layout_with_item i (layout_of w)).1)) × (payload_end_offset (word_and_layout_with_item i (layout_of w)).1 ≤ MOST_BYTES)
    past true q f = absurd cc
    past false q f = (refl, fits_of (layout_counts (word_and_layout_with_item i (layout_of w)).1) q)

    go : (b : Bool) → is_past_limit w ≡ b → is_past_limit (cond {A = ℕ × Writing} b (0, w) (unless_past_limit w (word_and_layout_with_item i (layout_of w)))).1 ≡ false → Stored (apart i) w
    go true o f = absurd cc
    go false o f =
        let p = past (exceeds_a_limit (layout_counts (word_and_layout_with_item i (layout_of w)).1)) refl f in
        record { before = o; word = rw o (ap (λ (r : ℕ × Writing). r.0) p.0); state = rw o (ap (λ (r : ℕ × Writing). layout_of r.1) p.0); fits = p.1 }

-- the word of a step is one in what the call leaves
moved : (c : Cell) (w : Writing) (v : Plain) → Stored c w → IsWordOf (word_and_layout_with_cell c (layout_of w)).1 v (word_and_layout_with_cell c (layout_of w)).0 → IsWordOf (layout_of (call c w).1) v (call c w).0
moved c w v s h = subst (λ (out : Layout). IsWordOf out v (call c w).0) (sym s.state) (subst (λ (x : ℕ). IsWordOf (word_and_layout_with_cell c (layout_of w)).1 v x) (sym s.word) h)

-- every call only adds
call_grows : (c : Cell) (w : Writing) → Stored c w → Grows (layout_of w) (layout_of (call c w).1)
call_grows c w s = subst (Grows (layout_of w)) (sym s.state) (stored-grows c (layout_of w))

pub stays : (c : Cell) (w : Writing) (v : Plain) (word : ℕ) → Denotes w v word → Denotes (call c w).1 v word
stays c w v word h e =
    let s = call_stored c w e in
    let i : IsWordOf (layout_of w) v word = h s.before in
    record { small = i.small; holds = λ root. Grows-Holds (layout_of w) (layout_of (call c w).1) root v word (call_grows c w s) (i.holds root) }

pub null_stands : (w : Writing) → Denotes w null 0
unfolding Holds
null_stands w e = record { small = lit< tt; holds = λ root. refl }

pub int_stands : (n : ℕ) (w : Writing) → n < 2 ^ 64 → Denotes (int_call n w).1 (int n) (int_call n w).0
int_stands n w lt e = let s = call_stored (int_cell n) w e in moved (int_cell n) w (int n) s (int_made n (layout_of w) lt s.fits)

-- an empty value is NULL
null_call : (w : Writing) → Denotes (call (in_place 0) w).1 null (call (in_place 0) w).0
null_call w = subst (λ (r : ℕ × Writing). Denotes r.1 null r.0) (sym (call_null w)) (null_stands w)

pub blob_stands : (b : List ℕ) (w : Writing) → Denotes (blob_call b w).1 (blob_or_null b) (blob_call b w).0
blob_stands [] w e = null_call w e
blob_stands (x ∷ xs) w e = let s = call_stored (blob_cell (x ∷ xs)) w e in moved (blob_cell (x ∷ xs)) w (blob (x ∷ xs)) s (blob_made (x ∷ xs) (layout_of w) (λ n. absurd cc) s.fits)

-- ---- runs

all_small : (w : Writing) → is_past_limit w ≡ false → (vs : Plains) (xs : List ℕ) → AllDenoteValuesUnlessPastLimit w vs xs → AllByRecursion (λ x. x < 2 ^ 32) xs
all_small w e none [] h = tt
all_small w e none (x ∷ xs) h = absurd h
all_small w e (more v vs) [] h = absurd h
all_small w e (more v vs) (x ∷ xs) h = ((h.0 e).small, all_small w e vs xs h.1)

all_held : (w : Writing) → is_past_limit w ≡ false → (vs : Plains) (xs : List ℕ) → AllDenoteValuesUnlessPastLimit w vs xs → (root : ℕ) → HoldAll (payload_with_root_word_in_head root (layout_of w)) vs xs
unfolding Holds
all_held w e none [] h root = tt
all_held w e none (x ∷ xs) h root = absurd h
all_held w e (more v vs) [] h root = absurd h
all_held w e (more v vs) (x ∷ xs) h root = ((h.0 e).holds root, all_held w e vs xs h.1 root)

pub arr_stands : (vs : Plains) (xs : List ℕ) (w : Writing) → AllDenoteValuesUnlessPastLimit w vs xs → Denotes (arr_call xs w).1 (array_or_null vs) (arr_call xs w).0
unfolding Holds
arr_stands none [] w h e = null_call w e
arr_stands none (x ∷ xs) w h e = absurd h
arr_stands (more v vs) [] w h e = absurd h
arr_stands (more v vs) (x ∷ xs) w h e =
    let s = call_stored (array_or_object_cell ARRAY (x ∷ xs)) w e in
    let m : MadeRun ARRAY (x ∷ xs) (word_and_layout_with_array_or_object ARRAY (x ∷ xs) (layout_of w)) = run_made ARRAY x xs (layout_of w) (lit< tt) (lit< tt) (all_small w s.before (more v vs) (x ∷ xs) h) s.fits in
    moved (array_or_object_cell ARRAY (x ∷ xs)) w (arr (more v vs)) s (record {
      small = m.small;
      holds = λ root. (m.nonzero, x ∷ xs, m.reads root, Grows-HoldAll (layout_of w) (word_and_layout_with_array_or_object ARRAY (x ∷ xs) (layout_of w)).1 root (more v vs) (x ∷ xs) (word_and_layout_with_array_or_object-grows ARRAY (x ∷ xs) (layout_of w)) (all_held w s.before (more v vs) (x ∷ xs) h root));
    })

obj_of_stands : (vs : Plains) (xs : List ℕ) (w : Writing) → AllDenoteValuesUnlessPastLimit w vs xs → Denotes (call (array_or_object_cell OBJECT xs) w).1 (object_or_null vs) (call (array_or_object_cell OBJECT xs) w).0
unfolding Holds
obj_of_stands none [] w h e = null_call w e
obj_of_stands none (x ∷ xs) w h e = absurd h
obj_of_stands (more v vs) [] w h e = absurd h
obj_of_stands (more v vs) (x ∷ xs) w h e =
    let s = call_stored (array_or_object_cell OBJECT (x ∷ xs)) w e in
    let m : MadeRun OBJECT (x ∷ xs) (word_and_layout_with_array_or_object OBJECT (x ∷ xs) (layout_of w)) = run_made OBJECT x xs (layout_of w) (lit< tt) (lit< tt) (all_small w s.before (more v vs) (x ∷ xs) h) s.fits in
    moved (array_or_object_cell OBJECT (x ∷ xs)) w (obj (more v vs)) s (record {
      small = m.small;
      holds = λ root. (m.nonzero, x ∷ xs, m.reads root, Grows-HoldAll (layout_of w) (word_and_layout_with_array_or_object OBJECT (x ∷ xs) (layout_of w)).1 root (more v vs) (x ∷ xs) (word_and_layout_with_array_or_object-grows OBJECT (x ∷ xs) (layout_of w)) (all_held w s.before (more v vs) (x ∷ xs) h root));
    })

-- ---- the Nulls that are last go with the NULLs that are last

null_word : (p : List ℕ) (x : ℕ) → Holds p null x → x ≡ 0
unfolding Holds
null_word p x h = h

kept_pair : (w : Writing) → is_past_limit w ≡ false → (v : Plain) (vs : Plains) (x : ℕ) (xs : List ℕ) → Denotes w v x → AllDenoteValuesUnlessPastLimit w vs xs → AllDenoteValuesUnlessPastLimit w (prepend_plain_unless_last_null v vs) (prepend_unless_last_null x xs)
kept_pair w e null none x [] h a = let zero_is : x ≡ 0 = null_word (payload_with_root_word_in_head 0 (layout_of w)) x ((h e).holds 0) in rw zero_is tt
kept_pair w e null (more u us) x (y ∷ ys) h a = (h, a)
kept_pair w e v none x (y ∷ ys) h a = absurd a
kept_pair w e v (more u us) x [] h a = absurd a
kept_pair w e (int n) none x [] h a = let t : eqb x 0 ≡ false = ne_eqb x 0 (not_null_word (payload_with_root_word_in_head 0 (layout_of w)) (int n) x (λ n. absurd cc) ((h e).holds 0)) in rw t (h, tt)
kept_pair w e (int n) (more u us) x (y ∷ ys) h a = (h, a)
kept_pair w e (blob b) none x [] h a = let t : eqb x 0 ≡ false = ne_eqb x 0 (not_null_word (payload_with_root_word_in_head 0 (layout_of w)) (blob b) x (λ n. absurd cc) ((h e).holds 0)) in rw t (h, tt)
kept_pair w e (blob b) (more u us) x (y ∷ ys) h a = (h, a)
kept_pair w e (arr us) none x [] h a = let t : eqb x 0 ≡ false = ne_eqb x 0 (not_null_word (payload_with_root_word_in_head 0 (layout_of w)) (arr us) x (λ n. absurd cc) ((h e).holds 0)) in rw t (h, tt)
kept_pair w e (arr vs) (more u us) x (y ∷ ys) h a = (h, a)
kept_pair w e (obj us) none x [] h a = let t : eqb x 0 ≡ false = ne_eqb x 0 (not_null_word (payload_with_root_word_in_head 0 (layout_of w)) (obj us) x (λ n. absurd cc) ((h e).holds 0)) in rw t (h, tt)
kept_pair w e (obj vs) (more u us) x (y ∷ ys) h a = (h, a)

trimmed_stand : (w : Writing) → is_past_limit w ≡ false → (vs : Plains) (xs : List ℕ) → AllDenoteValuesUnlessPastLimit w vs xs → AllDenoteValuesUnlessPastLimit w (without_last_nulls vs) (words_without_last_nulls xs)
trimmed_stand w e none [] h = tt
trimmed_stand w e none (x ∷ xs) h = absurd h
trimmed_stand w e (more v vs) [] h = absurd h
trimmed_stand w e (more v vs) (x ∷ xs) h = kept_pair w e v (without_last_nulls vs) x (words_without_last_nulls xs) h.0 (trimmed_stand w e vs xs h.1)

pub obj_stands : (vs : Plains) (xs : List ℕ) (w : Writing) → AllDenoteValuesUnlessPastLimit w vs xs → Denotes (obj_call xs w).1 (trimmed_object_or_null vs) (obj_call xs w).0
obj_stands vs xs w h e =
    let s = call_stored (array_or_object_cell OBJECT (words_without_last_nulls xs)) w e in
    obj_of_stands (without_last_nulls vs) (words_without_last_nulls xs) w (trimmed_stand w s.before vs xs h) e

-- ---- the payload at the end

pub finished_read : (s : Shape) (v : Plain) (root : ℕ) (w : Writing) (payload : List ℕ) → finish_result root w ≡ Ok payload → Denotes w v root → IsNormal v → HasShape s v → root_value_with_shape payload s ≡ Some v
finished_read s v root w payload f h n t = go (is_past_limit w) refl f
  where
    go : (b : Bool) → is_past_limit w ≡ b → cond {A = Result (List ℕ) ByteAndValueCounts} b (Err (writing_counts w)) (Ok (payload_with_root_word_in_head root (layout_of w))) ≡ Ok payload → root_value_with_shape payload s ≡ Some v
    go true o e = absurd cc
    go false o e =
        let i = h o in
        let same : payload_with_root_word_in_head root (layout_of w) ≡ payload = cc in
        subst (λ (p : List ℕ). root_value_with_shape p s ≡ Some v) same (ap (plain_of (payload_with_root_word_in_head root (layout_of w)) s) (root_again root (layout_of w) i.small) ∙ plain_of-Holds (payload_with_root_word_in_head root (layout_of w)) s v root n t (i.holds root))

pub word_read : (s : Shape) (v : Plain) (word : ℕ) (w : Writing) → Denotes w v word → is_past_limit w ≡ false → IsNormal v → HasShape s v → (root : ℕ) → plain_of (payload_with_root_word_in_head root (layout_of w)) s word ≡ Some v
word_read s v word w h e n t root = let i = h e in plain_of-Holds (payload_with_root_word_in_head root (layout_of w)) s v word n t (i.holds root)
