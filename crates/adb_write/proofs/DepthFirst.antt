-- What calls are made depth first, value by value.
use Rattle.std.proofs.Common.{◌≡◌, ℕ, ◌+◌, ◌^◌, ◌<◌, true, ltb, List, [], ◌∷◌, ◌++◌, length, arith, refl, sym, ap, subst, ◌∙◌}
use Rattle.adb_view.specs.Plain.{Plain, null, int, blob, arr, obj, Plains, none, more, without_last_nulls, prepend_plain_unless_last_null, blob_or_null, array_or_null, object_or_null, trimmed_object_or_null}
use Rattle.adb_view.specs.Readers.{OBJECT}
use Rattle.adb_write.specs.Canonical.{Cell, in_place, int_cell, array_or_object_cell, prepend_unless_last_null, words_without_last_nulls, payload_or_counts_at_overflow}
use Rattle.adb_write.specs.Writing.{Writing, empty_writing_counting_root, call, int_call, blob_call, arr_call, obj_call, finish_result, calls, calls_all}
use Rattle.adb_write.specs.DepthFirst.{WritesValueDepthFirst, WritesValuesDepthFirst, push}
use Rattle.adb_write.proofs.WriterSteps.{call_null}
use Rattle.adb_write.proofs.Limits.{calls-written}
use Rattle.std.specs.Prelude.{Result, Ok, Err, IfOk}
use Rattle.std.proofs.lemmas.Bool.{lt-ltb}

pub calls_null : (w : Writing) → calls null w ≡ (0, w)
unfolding calls
calls_null w = refl

pub calls_int : (n : ℕ) (w : Writing) → calls (int n) w ≡ int_call n w
unfolding calls
calls_int n w = refl

pub calls_blob : (b : List ℕ) (w : Writing) → calls (blob_or_null b) w ≡ blob_call b w
unfolding calls
calls_blob [] w = sym (call_null w)
calls_blob (x ∷ xs) w = refl

pub calls_none : (w : Writing) → calls_all none w ≡ ([], w)
unfolding calls
calls_none w = refl

pub calls_more : (v : Plain) (vs : Plains) (w : Writing) → calls_all (more v vs) w ≡ ((calls v w).0 ∷ (calls_all vs (calls v w).1).0, (calls_all vs (calls v w).1).1)
unfolding calls
calls_more v vs w = refl

pub calls_arr : (vs : Plains) (w : Writing) → calls (array_or_null vs) w ≡ arr_call (calls_all vs w).0 (calls_all vs w).1
unfolding calls
calls_arr none w = sym (call_null w)
calls_arr (more v vs) w = refl

-- the same words, except for NULLs that are last, and the same writer
pub record Same (us vs : Plains) (w : Writing) : Type 0 where
  pub words : words_without_last_nulls (calls_all us w).0 ≡ words_without_last_nulls (calls_all vs w).0
  pub state : (calls_all us w).1 ≡ (calls_all vs w).1

keep_same : (v : Plain) (us vs : Plains) (w : Writing) → Same us vs (calls v w).1 → Same (prepend_plain_unless_last_null v us) (more v vs) w
unfolding calls
keep_same null none vs w s = record { words = ap (prepend_unless_last_null 0) s.words; state = s.state }
keep_same null (more u us) vs w s = record { words = ap (prepend_unless_last_null 0) s.words; state = s.state }
keep_same (int n) us vs w s = record { words = ap (prepend_unless_last_null (calls (int n) w).0) s.words; state = s.state }
keep_same (blob b) us vs w s = record { words = ap (prepend_unless_last_null (calls (blob b) w).0) s.words; state = s.state }
keep_same (arr xs) us vs w s = record { words = ap (prepend_unless_last_null (calls (arr xs) w).0) s.words; state = s.state }
keep_same (obj xs) us vs w s = record { words = ap (prepend_unless_last_null (calls (obj xs) w).0) s.words; state = s.state }

trimmed_same : (vs : Plains) (w : Writing) → Same (without_last_nulls vs) vs w
trimmed_same none w = record { words = refl; state = refl }
trimmed_same (more v vs) w = keep_same v (without_last_nulls vs) vs w (trimmed_same vs (calls v w).1)

pub calls_obj : (vs : Plains) (w : Writing) → calls (trimmed_object_or_null vs) w ≡ obj_call (calls_all vs w).0 (calls_all vs w).1
unfolding calls
calls_obj vs w = go (without_last_nulls vs) (trimmed_same vs w)
  where
    go : (us : Plains) → Same us vs w → calls (object_or_null us) w ≡ call (array_or_object_cell OBJECT (words_without_last_nulls (calls_all vs w).0)) (calls_all vs w).1
    go none s = rw (sym s.words, sym s.state) (sym (call_null w))
    go (more u us) s = rw (sym s.words, sym s.state) refl

-- ---- the same, between two moments of a writer

pub writes_null : (w : Writing) → WritesValueDepthFirst w null 0 w
writes_null w = record { is = sym (calls_null w) }

pub writes_int : (n : ℕ) (a : Writing) (x : ℕ) (b : Writing) → ◌≡◌ {A = ℕ × Writing} (x, b) (int_call n a) → WritesValueDepthFirst a (int n) x b
writes_int n a x b e = record { is = e ∙ sym (calls_int n a) }

pub writes_blob : (bytes : List ℕ) (a : Writing) (x : ℕ) (b : Writing) → ◌≡◌ {A = ℕ × Writing} (x, b) (blob_call bytes a) → WritesValueDepthFirst a (blob_or_null bytes) x b
writes_blob bytes a x b e = record { is = e ∙ sym (calls_blob bytes a) }

pub writes_none : (w : Writing) → WritesValuesDepthFirst w none [] w
writes_none w = record { is = sym (calls_none w) }

pub writes_more : (v : Plain) (vs : Plains) (x : ℕ) (xs : List ℕ) (a b c : Writing) → WritesValueDepthFirst a v x b → WritesValuesDepthFirst b vs xs c → WritesValuesDepthFirst a (more v vs) (x ∷ xs) c
writes_more v vs x xs a b c p q = record { is = go p.is q.is ∙ sym (calls_more v vs a) }
  where
    go : ◌≡◌ {A = ℕ × Writing} (x, b) (calls v a) → ◌≡◌ {A = List ℕ × Writing} (xs, c) (calls_all vs b)
        → ◌≡◌ {A = List ℕ × Writing} (x ∷ xs, c) ((calls v a).0 ∷ (calls_all vs (calls v a).1).0, (calls_all vs (calls v a).1).1)
    go e f =
        let word : x ≡ (calls v a).0 = ap (λ (r : ℕ × Writing). r.0) e in
        let state : b ≡ (calls v a).1 = ap (λ (r : ℕ × Writing). r.1) e in
        let words : xs ≡ (calls_all vs b).0 = ap (λ (r : List ℕ × Writing). r.0) f in
        let end : c ≡ (calls_all vs b).1 = ap (λ (r : List ℕ × Writing). r.1) f in
        rw (word, words, end, state) refl

-- the words that stand after the first
tail_of : (v : Plain) (vs : Plains) (words : List ℕ) (a c : Writing) → WritesValuesDepthFirst a (more v vs) words c
    → (words ≡ (calls v a).0 ∷ (calls_all vs (calls v a).1).0) × WritesValuesDepthFirst (calls v a).1 vs (calls_all vs (calls v a).1).0 c
tail_of v vs words a c p =
    let e = p.is ∙ calls_more v vs a in
    (ap (λ (r : List ℕ × Writing). r.0) e, record { is = ap (λ (w : Writing). ((calls_all vs (calls v a).1).0, w)) (ap (λ (r : List ℕ × Writing). r.1) e) })

pub writes_push : (v : Plain) (vs : Plains) (x : ℕ) (xs : List ℕ) (a b c : Writing) → WritesValuesDepthFirst a vs xs b → WritesValueDepthFirst b v x c → WritesValuesDepthFirst a (push vs v) (xs ++ x ∷ []) c
writes_push v none x xs a b c p q =
    let words : xs ≡ [] = ap (λ (r : List ℕ × Writing). r.0) (p.is ∙ calls_none a) in
    let state : b ≡ a = ap (λ (r : List ℕ × Writing). r.1) (p.is ∙ calls_none a) in
    rw words (writes_more v none x [] a c c (subst (λ (w : Writing). WritesValueDepthFirst w v x c) state q) (writes_none c))
writes_push v (more u us) x xs a b c p q =
    let t = tail_of u us xs a b p in
    let ys : List ℕ = (calls_all us (calls u a).1).0 in
    rw t.0 (writes_more u (push us v) (calls u a).0 (ys ++ x ∷ []) a (calls u a).1 c (record { is = refl }) (writes_push v us x ys (calls u a).1 b c t.1 q))

run_of_all : (vs : Plains) (xs : List ℕ) (a b : Writing) (f : List ℕ → Writing → ℕ × Writing) → WritesValuesDepthFirst a vs xs b → f xs b ≡ f (calls_all vs a).0 (calls_all vs a).1
run_of_all vs xs a b f p = ap (λ (r : List ℕ × Writing). f r.0 r.1) p.is

pub writes_arr : (vs : Plains) (xs : List ℕ) (a b : Writing) (x : ℕ) (c : Writing) → WritesValuesDepthFirst a vs xs b → ◌≡◌ {A = ℕ × Writing} (x, c) (arr_call xs b) → WritesValueDepthFirst a (array_or_null vs) x c
writes_arr vs xs a b x c p e = record { is = e ∙ run_of_all vs xs a b arr_call p ∙ sym (calls_arr vs a) }

pub writes_obj : (vs : Plains) (xs : List ℕ) (a b : Writing) (x : ℕ) (c : Writing) → WritesValuesDepthFirst a vs xs b → ◌≡◌ {A = ℕ × Writing} (x, c) (obj_call xs b) → WritesValueDepthFirst a (trimmed_object_or_null vs) x c
writes_obj vs xs a b x c p e = record { is = e ∙ run_of_all vs xs a b obj_call p ∙ sym (calls_obj vs a) }

pub writes_finished : (v : Plain) (root : ℕ) (w : Writing) → WritesValueDepthFirst empty_writing_counting_root v root w → finish_result root w ≡ payload_or_counts_at_overflow v
writes_finished v root w p = ap (λ (r : ℕ × Writing). finish_result r.0 r.1) p.is ∙ calls-written v

-- ---- the answers of the calls

pub if_ok : {A E : Type 0} (P Q : A → Type 0) → ((x : A) → P x → Q x) → (r : Result A E) → IfOk r P → IfOk r Q
if_ok P Q f (Ok x) h = f x h
if_ok P Q f (Err e) h = h

pub writes_in_word : (n : ℕ) (a : Writing) (x : ℕ) → n < 2 ^ 28 → ◌≡◌ {A = ℕ × Writing} (x, a) (call (in_place (2 ^ 28 + n)) a) → WritesValueDepthFirst a (int n) x a
writes_in_word n a x lt e =
    let t : ltb n (2 ^ 28) ≡ true = lt-ltb _ _ lt in
    let is : int_cell n ≡ in_place (2 ^ 28 + n) = rw t refl in
    writes_int n a x a (e ∙ ap (λ (k : Cell). call k a) (sym is))

pub writes_empty : (bytes : List ℕ) (a : Writing) → length bytes ≡ 0 → WritesValueDepthFirst a (blob_or_null bytes) 0 a
writes_empty [] a e = writes_null a
writes_empty (x ∷ xs) a e = absurd (omega arith)
