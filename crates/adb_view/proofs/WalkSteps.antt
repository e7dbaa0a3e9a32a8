-- Steps of the walk, as the code makes them.
use Rattle.std.proofs.Common.{◌≡◌, ℕ, zero, suc, ◌+◌, ◌<◌, ◌≤◌, Bool, true, false, ltb, List, [], ◌∷◌, length, get_or, drop, Some, None, Result, Ok, Err, refl, sym, ap, ◌∙◌, arith, lit<, inl, inr, ◌⊎◌, min}
use Rattle.std.proofs.lemmas.Bool.{lt-ltb, le-ltb, eqb-true}
use Rattle.std.proofs.lemmas.Bool.Decides.{leb_tells}
use Rattle.std.proofs.lemmas.List.{drop_more, drop_all}
use Rattle.adb_view.specs.Plain.{Shape, number, text, hash, array, object}
use Rattle.adb_view.specs.Readers.{int_of, blob_of, run_entries_of_kind_in_payload_at_word, ARRAY, OBJECT}
use Rattle.adb_view.specs.CountedWalk.{fields_walk}
use Rattle.adb_view.specs.CountedWalk.{walk}
use Rattle.adb_view.specs.CountedWalk.{walk_each_word}
use Rattle.adb_view.specs.CountedWalk.{walk_visit}
use Rattle.base_core.specs.Lists.{and_then}
use Rattle.adb_view.specs.Visits.{or_empty, word_fault_under_shape, MOST_VALUES}
use Rattle.std.specs.Result.{IsErrAnd, result_err, result_ok}
use Rattle.std.specs.Prelude.{is_some}
use Rattle.adb_view.specs.Schema.{table_number, table, shape_of, shapes_of}
use Rattle.adb_view.specs.Leaves.{is_sound_leaf, leaf_fault}
use Rattle.adb_view.specs.VisitFault.{cause_of_fault, with_cause}
use Rattle.adb_view.specs.declared.visit_fault.VisitFault.{VisitFault}
use Rattle.adb_view.specs.Rank.{rank, rank_of_all}
use Rattle.adb_view.specs.Shapes.{object_shape, objects_shape, texts_shape, int_shape, text_shape, hash_shape}
use Rattle.base_core.specs.declared.cause.Cause.{Cause}
use Rattle.base_core.specs.declared.cause.Cause.TheVariants.{TooLarge}
use Rattle.adb_view.specs.declared.tables.Which.{Which}
use Rattle.adb_view.specs.declared.tables.Which.TheVariants.{Dep, Acl, PkgInfo, File, Dir, Scripts, Package, Index, Idb, Intent}
use Rattle.adb_view.specs.declared.tables.Kind.TheVariants.{Int, Text, Hash, Obj, TextArr, ObjArr}
use Rattle.adb_view.specs.declared.tables.Field.{Field}
use Rattle.adb_view.specs.declared.tables.Kind.{Kind}
use Rattle.adb_view.proofs.Found.{run_entries_of_kind_in_payload_at_word-null}

-- ---- over a list

pub each_more : (f : ℕ → ℕ → Result ℕ Cause) (n : ℕ) (ws : List ℕ) (i m : ℕ) → i < length ws → f n (get_or ws i 0) ≡ Ok m → walk_each_word f n (drop i ws) ≡ walk_each_word f m (drop (i + 1) ws)
each_more f n ws i m lt e = rw (drop_more ws i 0 lt, e) refl

pub each_stops : (f : ℕ → ℕ → Result ℕ Cause) (n : ℕ) (ws : List ℕ) (i : ℕ) (c : Cause) → i < length ws → f n (get_or ws i 0) ≡ Err c → walk_each_word f n (drop i ws) ≡ Err c
each_stops f n ws i c lt e = rw (drop_more ws i 0 lt, e) refl

pub each_done : (f : ℕ → ℕ → Result ℕ Cause) (n : ℕ) (ws : List ℕ) (i : ℕ) → length ws ≤ i → walk_each_word f n (drop i ws) ≡ Ok n
each_done f n ws i le = rw (drop_all i ws le) refl

pub fields_more : (p : List ℕ) (fs : List Field) (n : ℕ) (ws : List ℕ) (i m : ℕ) (d : Field) → i < length fs → i < length ws → walk p (shape_of (get_or fs i d).kind) n (get_or ws i 0) ≡ Ok m
    → fields_walk p (shapes_of (drop i fs)) n (drop i ws) ≡ fields_walk p (shapes_of (drop (i + 1) fs)) m (drop (i + 1) ws)
unfolding fields_walk
fields_more p fs n ws i m d lt lt' e = rw (drop_more ws i 0 lt', drop_more fs i d lt, e) refl

pub fields_stop : (p : List ℕ) (fs : List Field) (n : ℕ) (ws : List ℕ) (i : ℕ) (c : Cause) (d : Field) → i < length fs → i < length ws → walk p (shape_of (get_or fs i d).kind) n (get_or ws i 0) ≡ Err c
    → fields_walk p (shapes_of (drop i fs)) n (drop i ws) ≡ Err c
unfolding fields_walk
fields_stop p fs n ws i c d lt lt' e = rw (drop_more ws i 0 lt', drop_more fs i d lt, e) refl

no_words : (p : List ℕ) (fs : List Field) (n : ℕ) → fields_walk p (shapes_of fs) n [] ≡ Ok n
unfolding fields_walk
no_words p [] n = refl
no_words p (f ∷ fs) n = refl

pub fields_past_words : (p : List ℕ) (fs : List Field) (n : ℕ) (ws : List ℕ) (i : ℕ) → length ws ≤ i → fields_walk p (shapes_of (drop i fs)) n (drop i ws) ≡ Ok n
fields_past_words p fs n ws i le = rw (drop_all i ws le) (no_words p (drop i fs) n)

pub fields_past : (p : List ℕ) (fs : List Field) (n : ℕ) (ws : List ℕ) (i : ℕ) → length fs ≤ i → fields_walk p (shapes_of (drop i fs)) n (drop i ws) ≡ Ok n
unfolding fields_walk
fields_past p fs n ws i le = rw (drop_all i fs le) refl

pub fields_end : (p : List ℕ) (fs : List Field) (n : ℕ) (ws : List ℕ) (i : ℕ) → min (length fs) (length ws) ≤ i → fields_walk p (shapes_of (drop i fs)) n (drop i ws) ≡ Ok n
fields_end p fs n ws i le = elim (leb_tells (length fs) (length ws)) [
  | inl few ↦ fields_past p fs n ws i (omega (arith, few.1, le))
  | inr more ↦ fields_past_words p fs n ws i (omega (arith, more.1, le))
]

-- ---- one word

ok_step : {A : Type 0} (n : ℕ) (s : Shape) (w : ℕ) (p : List ℕ) (r : Result A Cause) → word_fault_under_shape p s w ≡ result_err r → n < MOST_VALUES → walk_visit p n s w ≡ (and_then r (λ x. Ok (n + 1)))
ok_step n s w p (Ok x) e lt = let t : ltb MOST_VALUES (n + 1) ≡ false = le-ltb _ _ (omega arith) in rw (t, e) refl
ok_step n s w p (Err c) e lt = let t : ltb MOST_VALUES (n + 1) ≡ false = le-ltb _ _ (omega arith) in rw (t, e) refl

bind_run : (r : Result (List ℕ) Cause) (n : ℕ) (f : ℕ → List ℕ → Result ℕ Cause) → (and_then (and_then r (λ x. Ok (n + 1))) (λ m. f m (or_empty r))) ≡ (and_then r (λ ws. f (n + 1) ws))
bind_run (Ok ws) n f = refl
bind_run (Err c) n f = refl

full_step : (p : List ℕ) (n : ℕ) (s : Shape) (w : ℕ) → MOST_VALUES ≤ n → walk_visit p n s w ≡ Err (TooLarge (n + 1))
full_step p n s w le = let t : ltb MOST_VALUES (n + 1) ≡ true = lt-ltb _ _ (omega arith) in rw t refl

pub walk_full : (p : List ℕ) (s : Shape) (n w : ℕ) → MOST_VALUES ≤ n → walk p s n w ≡ Err (TooLarge (n + 1))
unfolding walk
walk_full p number n w le = full_step p n number w le
walk_full p text n w le = full_step p n text w le
walk_full p hash n w le = full_step p n hash w le
walk_full p (array s) n w le = ap (λ r. and_then r (λ m. walk_each_word (walk p s) m (or_empty (run_entries_of_kind_in_payload_at_word ARRAY p w)))) (full_step p n (array s) w le)
walk_full p (object which fs) n w le = ap (λ r. and_then r (λ m. fields_walk p fs m (or_empty (run_entries_of_kind_in_payload_at_word OBJECT p w)))) (full_step p n (object which fs) w le)

pub walk_int : (p : List ℕ) (n w : ℕ) → n < MOST_VALUES → walk p (shape_of Int) n w ≡ (and_then (int_of p w) (λ x. Ok (n + 1)))
unfolding walk
walk_int p n w lt = ap (λ s. walk p s n w) int_shape ∙ ok_step n number w p (int_of p w) refl lt

pub walk_text : (p : List ℕ) (n w : ℕ) → n < MOST_VALUES → walk p (shape_of Text) n w ≡ (and_then (blob_of p w) (λ x. Ok (n + 1)))
unfolding walk
walk_text p n w lt = ap (λ s. walk p s n w) text_shape ∙ ok_step n text w p (blob_of p w) refl lt

pub walk_hash : (p : List ℕ) (n w : ℕ) → n < MOST_VALUES → walk p (shape_of Hash) n w ≡ (and_then (blob_of p w) (λ x. Ok (n + 1)))
unfolding walk
walk_hash p n w lt = ap (λ s. walk p s n w) hash_shape ∙ ok_step n hash w p (blob_of p w) refl lt

array_step : (p : List ℕ) (s : Shape) (n w : ℕ) → n < MOST_VALUES → walk p (array s) n w ≡ (and_then (run_entries_of_kind_in_payload_at_word ARRAY p w) (λ ws. walk_each_word (walk p s) (n + 1) ws))
unfolding walk
array_step p s n w lt = ap (λ r. and_then r (λ m. walk_each_word (walk p s) m (or_empty (run_entries_of_kind_in_payload_at_word ARRAY p w)))) (ok_step n (array s) w p (run_entries_of_kind_in_payload_at_word ARRAY p w) refl lt) ∙ bind_run (run_entries_of_kind_in_payload_at_word ARRAY p w) n (λ m ws. walk_each_word (walk p s) m ws)

pub walk_texts : (p : List ℕ) (n w : ℕ) → n < MOST_VALUES → walk p (shape_of TextArr) n w ≡ (and_then (run_entries_of_kind_in_payload_at_word ARRAY p w) (λ ws. walk_each_word (walk p (shape_of Text)) (n + 1) ws))
walk_texts p n w lt = ap (λ s. walk p s n w) texts_shape ∙ array_step p (shape_of Text) n w lt

pub walk_objects : (p : List ℕ) (which : Which) (n w : ℕ) → n < MOST_VALUES → walk p (shape_of (ObjArr which)) n w ≡ (and_then (run_entries_of_kind_in_payload_at_word ARRAY p w) (λ ws. walk_each_word (walk p (shape_of (Obj which))) (n + 1) ws))
walk_objects p which n w lt = ap (λ s. walk p s n w) (objects_shape which) ∙ array_step p (shape_of (Obj which)) n w lt

pub walk_object : (p : List ℕ) (which : Which) (n w : ℕ) → n < MOST_VALUES → walk p (shape_of (Obj which)) n w ≡ (and_then (run_entries_of_kind_in_payload_at_word OBJECT p w) (λ ws. fields_walk p (shapes_of (table which)) (n + 1) ws))
unfolding walk
walk_object p which n w lt =
    ap (λ s. walk p s n w) (object_shape which)
    ∙ ap (λ r. and_then r (λ m. fields_walk p (shapes_of (table which)) m (or_empty (run_entries_of_kind_in_payload_at_word OBJECT p w)))) (ok_step n (object (table_number which) (shapes_of (table which))) w p (run_entries_of_kind_in_payload_at_word OBJECT p w) refl lt)
    ∙ bind_run (run_entries_of_kind_in_payload_at_word OBJECT p w) n (λ m ws. fields_walk p (shapes_of (table which)) m ws)

-- ---- depth

pub field_rank : (fs : List Field) (i : ℕ) (d : Field) → i < length fs → rank (get_or fs i d).kind ≤ rank_of_all fs
field_rank [] i d lt = absurd (omega arith)
field_rank (f ∷ fs) zero d lt = omega arith
field_rank (f ∷ fs) (suc i) d lt = omega (arith, field_rank fs i d (omega arith))

pub table_rank : (w : Which) → rank_of_all (table w) + 1 < rank (Obj w)
table_rank Dep = lit< tt
table_rank Acl = lit< tt
table_rank PkgInfo = lit< tt
table_rank File = lit< tt
table_rank Dir = lit< tt
table_rank Scripts = lit< tt
table_rank Package = lit< tt
table_rank Index = lit< tt
table_rank Idb = lit< tt
table_rank Intent = lit< tt

-- ---- the same as the code meets them

bound_ok : {A B : Type 0} (r : Result A Cause) (f : A → Result B Cause) (x : A) → r ≡ Ok x → (and_then r f) ≡ f x
bound_ok r f x e = ap (λ r. and_then r f) e

bound_err : {A B : Type 0} (r : Result A Cause) (f : A → Result B Cause) (c : Cause) → r ≡ Err c → (and_then r f) ≡ Err c
bound_err r f c e = ap (λ r. and_then r f) e

counted : {A : Type 0} (r : Result A Cause) (n : ℕ) → result_err r ≡ None → (and_then r (λ x. Ok (n + 1))) ≡ Ok (n + 1)
counted (Ok x) n e = refl
counted (Err c) n e = absurd cc

refused : {A : Type 0} (r : Result A Cause) (n : ℕ) (c : Cause) → result_err r ≡ Some c → (and_then r (λ x. Ok (n + 1))) ≡ Err c
refused (Ok x) n c e = absurd cc
refused (Err b) n c e = cc

pub int_ok : (p : List ℕ) (n w : ℕ) → n < MOST_VALUES → result_err (int_of p w) ≡ None → walk p (shape_of Int) n w ≡ Ok (n + 1)
int_ok p n w lt e = walk_int p n w lt ∙ counted (int_of p w) n e

pub int_err : (p : List ℕ) (n w : ℕ) (c : Cause) → n < MOST_VALUES → result_err (int_of p w) ≡ Some c → walk p (shape_of Int) n w ≡ Err c
int_err p n w c lt e = walk_int p n w lt ∙ refused (int_of p w) n c e

pub text_ok : (p : List ℕ) (n w : ℕ) → n < MOST_VALUES → result_err (blob_of p w) ≡ None → walk p (shape_of Text) n w ≡ Ok (n + 1)
text_ok p n w lt e = walk_text p n w lt ∙ counted (blob_of p w) n e

pub text_err : (p : List ℕ) (n w : ℕ) (c : Cause) → n < MOST_VALUES → result_err (blob_of p w) ≡ Some c → walk p (shape_of Text) n w ≡ Err c
text_err p n w c lt e = walk_text p n w lt ∙ refused (blob_of p w) n c e

pub hash_ok : (p : List ℕ) (n w : ℕ) → n < MOST_VALUES → result_err (blob_of p w) ≡ None → walk p (shape_of Hash) n w ≡ Ok (n + 1)
hash_ok p n w lt e = walk_hash p n w lt ∙ counted (blob_of p w) n e

pub hash_err : (p : List ℕ) (n w : ℕ) (c : Cause) → n < MOST_VALUES → result_err (blob_of p w) ≡ Some c → walk p (shape_of Hash) n w ≡ Err c
hash_err p n w c lt e = walk_hash p n w lt ∙ refused (blob_of p w) n c e

pub texts_ok : (p : List ℕ) (n w : ℕ) (ws : List ℕ) → n < MOST_VALUES → run_entries_of_kind_in_payload_at_word ARRAY p w ≡ Ok ws → walk p (shape_of TextArr) n w ≡ walk_each_word (walk p (shape_of Text)) (n + 1) ws
texts_ok p n w ws lt e = walk_texts p n w lt ∙ bound_ok (run_entries_of_kind_in_payload_at_word ARRAY p w) _ ws e

pub texts_err : (p : List ℕ) (n w : ℕ) (c : Cause) → n < MOST_VALUES → run_entries_of_kind_in_payload_at_word ARRAY p w ≡ Err c → walk p (shape_of TextArr) n w ≡ Err c
texts_err p n w c lt e = walk_texts p n w lt ∙ bound_err (run_entries_of_kind_in_payload_at_word ARRAY p w) _ c e

pub objects_ok : (p : List ℕ) (which : Which) (n w : ℕ) (ws : List ℕ) → n < MOST_VALUES → run_entries_of_kind_in_payload_at_word ARRAY p w ≡ Ok ws → walk p (shape_of (ObjArr which)) n w ≡ walk_each_word (walk p (shape_of (Obj which))) (n + 1) ws
objects_ok p which n w ws lt e = walk_objects p which n w lt ∙ bound_ok (run_entries_of_kind_in_payload_at_word ARRAY p w) _ ws e

pub objects_err : (p : List ℕ) (which : Which) (n w : ℕ) (c : Cause) → n < MOST_VALUES → run_entries_of_kind_in_payload_at_word ARRAY p w ≡ Err c → walk p (shape_of (ObjArr which)) n w ≡ Err c
objects_err p which n w c lt e = walk_objects p which n w lt ∙ bound_err (run_entries_of_kind_in_payload_at_word ARRAY p w) _ c e

pub object_ok : (p : List ℕ) (which : Which) (n w : ℕ) (ws : List ℕ) → n < MOST_VALUES → run_entries_of_kind_in_payload_at_word OBJECT p w ≡ Ok ws → walk p (shape_of (Obj which)) n w ≡ fields_walk p (shapes_of (table which)) (n + 1) ws
object_ok p which n w ws lt e = walk_object p which n w lt ∙ bound_ok (run_entries_of_kind_in_payload_at_word OBJECT p w) _ ws e

pub object_err : (p : List ℕ) (which : Which) (n w : ℕ) (c : Cause) → n < MOST_VALUES → run_entries_of_kind_in_payload_at_word OBJECT p w ≡ Err c → walk p (shape_of (Obj which)) n w ≡ Err c
object_err p which n w c lt e = walk_object p which n w lt ∙ bound_err (run_entries_of_kind_in_payload_at_word OBJECT p w) _ c e

-- ---- a leaf

leaf_step : {A : Type 0} (r : Result A Cause) (n : ℕ) → is_some (result_ok r) ≡ true → (and_then r (λ x. Ok (n + 1))) ≡ Ok (n + 1)
leaf_step (Ok x) n e = refl
leaf_step (Err c) n e = absurd cc

null_object : (p : List ℕ) (which : Which) (n : ℕ) → n < MOST_VALUES → walk p (shape_of (Obj which)) n 0 ≡ Ok (n + 1)
null_object p which n lt = walk_object p which n 0 lt ∙ ap (λ r. and_then r (λ ws. fields_walk p (shapes_of (table which)) (n + 1) ws)) (run_entries_of_kind_in_payload_at_word-null OBJECT p) ∙ no_words p (table which) (n + 1)

null_texts : (p : List ℕ) (n : ℕ) → n < MOST_VALUES → walk p (shape_of TextArr) n 0 ≡ Ok (n + 1)
null_texts p n lt = walk_texts p n 0 lt ∙ ap (λ r. and_then r (λ ws. walk_each_word (walk p (shape_of Text)) (n + 1) ws)) (run_entries_of_kind_in_payload_at_word-null ARRAY p)

null_objects : (p : List ℕ) (which : Which) (n : ℕ) → n < MOST_VALUES → walk p (shape_of (ObjArr which)) n 0 ≡ Ok (n + 1)
null_objects p which n lt = walk_objects p which n 0 lt ∙ ap (λ r. and_then r (λ ws. walk_each_word (walk p (shape_of (Obj which))) (n + 1) ws)) (run_entries_of_kind_in_payload_at_word-null ARRAY p)

pub leaf_walk : (p : List ℕ) (kind : Kind) (n w : ℕ) → n < MOST_VALUES → is_sound_leaf p kind w ≡ true → walk p (shape_of kind) n w ≡ Ok (n + 1)
leaf_walk p Int n w lt e = walk_int p n w lt ∙ leaf_step (int_of p w) n e
leaf_walk p Text n w lt e = walk_text p n w lt ∙ leaf_step (blob_of p w) n e
leaf_walk p Hash n w lt e = walk_hash p n w lt ∙ leaf_step (blob_of p w) n e
leaf_walk p (Obj which) n w lt e = let z : w ≡ 0 = eqb-true w 0 e in rw z (null_object p which n lt)
leaf_walk p TextArr n w lt e = let z : w ≡ 0 = eqb-true w 0 e in rw z (null_texts p n lt)
leaf_walk p (ObjArr which) n w lt e = let z : w ≡ 0 = eqb-true w 0 e in rw z (null_objects p which n lt)

pub fields_leaf : (p : List ℕ) (fs : List Field) (n : ℕ) (ws : List ℕ) (i : ℕ) (d : Field) → i < length fs → i < length ws → n < MOST_VALUES → is_sound_leaf p (get_or fs i d).kind (get_or ws i 0) ≡ true
    → fields_walk p (shapes_of (drop i fs)) n (drop i ws) ≡ fields_walk p (shapes_of (drop (i + 1) fs)) (n + 1) (drop (i + 1) ws)
fields_leaf p fs n ws i d lt lt' few e = fields_more p fs n ws i (n + 1) d lt lt' (leaf_walk p (get_or fs i d).kind n (get_or ws i 0) few e)

pub texts_leaf : (p : List ℕ) (n : ℕ) (ws : List ℕ) (i : ℕ) → i < length ws → n < MOST_VALUES → is_sound_leaf p Text (get_or ws i 0) ≡ true → walk_each_word (walk p (shape_of Text)) n (drop i ws) ≡ walk_each_word (walk p (shape_of Text)) (n + 1) (drop (i + 1) ws)
texts_leaf p n ws i lt few e = each_more (walk p (shape_of Text)) n ws i (n + 1) lt (leaf_walk p Text n (get_or ws i 0) few e)

-- ---- the steps that the answers name

-- a count that the code has raised once is below the limit before
pub room : (n : ℕ) → n + 1 ≤ MOST_VALUES → n < MOST_VALUES
room n le = omega arith

-- an index below a call's result is below the number that this result is
pub below : (i n m : ℕ) → i < n → n ≡ m → i < m
below i n m lt e = omega arith

-- a count below the limit can be raised once
pub room_left : (n m : ℕ) → n < MOST_VALUES → m ≡ n + 1 → m ≤ MOST_VALUES
room_left n m lt e = omega arith

-- a leaf without a fault is counted
pub leaf_ok : (p : List ℕ) (kind : Kind) (n w : ℕ) → (kind ≡ Int) ⊎ ((kind ≡ Text) ⊎ (kind ≡ Hash)) → n < MOST_VALUES → None ≡ leaf_fault p kind w → Ok (n + 1) ≡ walk p (shape_of kind) n w
leaf_ok p kind n w (inl k) lt e = rw k (sym (int_ok p n w lt (rw k at (sym e))))
leaf_ok p kind n w (inr (inl k)) lt e = rw k (sym (text_ok p n w lt (rw k at (sym e))))
leaf_ok p kind n w (inr (inr k)) lt e = rw k (sym (hash_ok p n w lt (rw k at (sym e))))

-- the fault of a leaf is that of the walk
pub leaf_err : (p : List ℕ) (kind : Kind) (n w : ℕ) (c : Cause) → (kind ≡ Int) ⊎ ((kind ≡ Text) ⊎ (kind ≡ Hash)) → n < MOST_VALUES → Some c ≡ leaf_fault p kind w → Err c ≡ walk p (shape_of kind) n w
leaf_err p kind n w c (inl k) lt e = rw k (sym (int_err p n w c lt (rw k at (sym e))))
leaf_err p kind n w c (inr (inl k)) lt e = rw k (sym (text_err p n w c lt (rw k at (sym e))))
leaf_err p kind n w c (inr (inr k)) lt e = rw k (sym (hash_err p n w c lt (rw k at (sym e))))

-- a walk that ends at a `?` has the fault of the call before
pub stopped : {A : Type 0} (r : Result A VisitFault) (fault : VisitFault) (all : Result A Cause) → all ≡ Err (cause_of_fault fault) → IsErrAnd r (λ e. e ≡ fault) → with_cause r ≡ all
stopped (Ok x) fault all e is = absurd is
stopped (Err f) fault all e is = ap (λ (g : VisitFault). Err (cause_of_fault g)) is ∙ sym e

-- an entry whose walk has a fault ends the walk over the entries
pub entry_stops : (f : ℕ → ℕ → Result ℕ Cause) (n : ℕ) (ws : List ℕ) (i w : ℕ) (fault : VisitFault) (r : Result ℕ VisitFault) (all : Result ℕ Cause) → i < length ws → w ≡ get_or ws i 0 → Err (cause_of_fault fault) ≡ f n w
    → walk_each_word f n (drop i ws) ≡ all → IsErrAnd r (λ e. e ≡ fault) → with_cause r ≡ all
entry_stops f n ws i w fault r all lt is e before err = stopped r fault all (sym before ∙ each_stops f n ws i (cause_of_fault fault) lt (ap (f n) (sym is) ∙ sym e)) err

-- after an entry whose walk has no fault, the entries behind it are left
pub entry_more : (f : ℕ → ℕ → Result ℕ Cause) (n : ℕ) (ws : List ℕ) (i w m k : ℕ) (all : Result ℕ Cause) → i < length ws → w ≡ get_or ws i 0 → Ok k ≡ f n w → m ≡ k
    → walk_each_word f n (drop i ws) ≡ all → walk_each_word f m (drop (i + 1) ws) ≡ all
entry_more f n ws i w m k all lt is e same before = sym (each_more f n ws i m lt (ap (f n) (sym is) ∙ sym e ∙ ap Ok (sym same))) ∙ before

-- an entry that is a text that can be read is only counted
pub text_more : (p : List ℕ) (n : ℕ) (ws : List ℕ) (i w m : ℕ) (sound : Bool) (all : Result ℕ Cause) → i < length ws → w ≡ get_or ws i 0 → n < MOST_VALUES → sound ≡ is_sound_leaf p Text w → sound ≡ true → m ≡ n + 1
    → walk_each_word (walk p (shape_of Text)) n (drop i ws) ≡ all → walk_each_word (walk p (shape_of Text)) m (drop (i + 1) ws) ≡ all
text_more p n ws i w m sound all lt is few s t same before = entry_more (walk p (shape_of Text)) n ws i w m (n + 1) all lt is (sym (leaf_walk p Text n w few (sym s ∙ t))) same before

-- an index below the smaller of two numbers is below both
pub below_both : (i n a b m : ℕ) → i < n → n ≡ min a b → b ≡ m → (i < a) × (i < m)
below_both i n a b m lt e e' = (omega arith, omega arith)

-- a field whose walk has a fault ends the walk over the fields
pub field_stops : (p : List ℕ) (fs : List Field) (n : ℕ) (ws : List ℕ) (i w : ℕ) (d : Field) (fault : VisitFault) (r : Result ℕ VisitFault) (all : Result ℕ Cause) → (i < length fs) × (i < length ws) → w ≡ get_or ws i 0
    → Err (cause_of_fault fault) ≡ walk p (shape_of (get_or fs i d).kind) n w → fields_walk p (shapes_of (drop i fs)) n (drop i ws) ≡ all → IsErrAnd r (λ e. e ≡ fault) → with_cause r ≡ all
field_stops p fs n ws i w d fault r all lt is e before err =
    stopped r fault all (sym before ∙ fields_stop p fs n ws i (cause_of_fault fault) d lt.0 lt.1 (ap (walk p (shape_of (get_or fs i d).kind) n) (sym is) ∙ sym e)) err

-- after a field whose walk has no fault, the fields behind it are left
pub field_more : (p : List ℕ) (fs : List Field) (n : ℕ) (ws : List ℕ) (i w : ℕ) (d : Field) (m k : ℕ) (all : Result ℕ Cause) → (i < length fs) × (i < length ws) → w ≡ get_or ws i 0
    → Ok k ≡ walk p (shape_of (get_or fs i d).kind) n w → m ≡ k → fields_walk p (shapes_of (drop i fs)) n (drop i ws) ≡ all → fields_walk p (shapes_of (drop (i + 1) fs)) m (drop (i + 1) ws) ≡ all
field_more p fs n ws i w d m k all lt is e same before =
    sym (fields_more p fs n ws i m d lt.0 lt.1 (ap (walk p (shape_of (get_or fs i d).kind) n) (sym is) ∙ sym e ∙ ap Ok (sym same))) ∙ before

-- a field that is a leaf that can be read is only counted
pub leaf_more : (p : List ℕ) (fs : List Field) (n : ℕ) (ws : List ℕ) (i w : ℕ) (d : Field) (m : ℕ) (sound : Bool) (all : Result ℕ Cause) → (i < length fs) × (i < length ws) → w ≡ get_or ws i 0 → n < MOST_VALUES
    → sound ≡ is_sound_leaf p (get_or fs i d).kind w → sound ≡ true → m ≡ n + 1 → fields_walk p (shapes_of (drop i fs)) n (drop i ws) ≡ all → fields_walk p (shapes_of (drop (i + 1) fs)) m (drop (i + 1) ws) ≡ all
leaf_more p fs n ws i w d m sound all lt is few s t same before = field_more p fs n ws i w d m (n + 1) all lt is (sym (leaf_walk p (get_or fs i d).kind n w few (sym s ∙ t))) same before
