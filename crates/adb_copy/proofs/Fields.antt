-- The fields of an object without zeros, as they are written one by one.
use Rattle.std.proofs.Common.{◌≡◌, ℕ, suc, zero, false, List, refl, ap, sym, subst, ◌∙◌, ◌+◌, arith, inl, inr}
use Rattle.std.specs.Prelude.{◌==◌, if◌then◌else◌}
use Rattle.std.proofs.lemmas.Bool.Decides.{eqb_tells}
use Rattle.adb_view.specs.Plain.{Plain, null, int, blob, Plains, none, more, Shape, number, text, hash, array, object, Fields, no_fields, field, blob_or_null, object_or_null, trimmed_object_or_null}
use Rattle.adb_view.specs.Shaped.{HasShape, HaveShapes}
use Rattle.adb_view.specs.Schema.{shape_of, shapes_of, table}
use Rattle.adb_view.specs.Values.{nth, entries_in, entry_at_index, int_in, text_in}
use Rattle.adb_view.specs.declared.tables.Which.TheVariants as Tables
use Rattle.adb_view.specs.declared.tables.Kind.TheVariants as Kinds
use Rattle.adb_copy.specs.Zeros.{int_or_null, without_zeros, all_without_zeros, with_value_set_at_index, info_without_zeros_with_id_and_file_size}
use Rattle.adb_copy.proofs.Shapes.{shape_at, behind, nth_shape, nth_behind, entries_shape}
use Rattle.adb_copy.proofs.Zeros.{zeros_text, zeros_number, zeros_object, nth_zeros, trimmed_same, at_same, at_other}

-- a field by what it holds
abbrev pub written_by : Shape → Plain → Plain
written_by number v = int_or_null (int_in v)
written_by text v = blob_or_null (text_in v)
written_by hash v = blob_or_null (text_in v)
written_by (array s) v = without_zeros v
written_by (object n fs) v = without_zeros v

abbrev pub as_written : Fields → (ℕ → Plain) → Plains
as_written no_fields f = none
as_written (field n s fs) f = more (written_by s (f 0)) (as_written fs (λ i. f (suc i)))

by_shape : (s : Shape) (v : Plain) → HasShape s v → written_by s v ≡ without_zeros v
unfolding HasShape
by_shape number v h = sym (zeros_number v h)
by_shape text v h = sym (zeros_text v h)
by_shape hash v h = sym (zeros_text v h)
by_shape (array s) v h = refl
by_shape (object n fs) v h = refl

zeros_null : (v : Plain) → v ≡ null → null ≡ without_zeros v
unfolding without_zeros
zeros_null v e = ap without_zeros (sym e)

written_nth : (fs : Fields) (f : ℕ → Plain) → ((k : ℕ) → HasShape (shape_at fs k) (f k)) → ((k : ℕ) → f (behind fs k) ≡ null) → (k : ℕ) → nth (as_written fs f) k ≡ without_zeros (f k)
written_nth no_fields f shape past k = zeros_null (f k) (past k)
written_nth (field n s fs) f shape past zero = by_shape s (f 0) (shape zero)
written_nth (field n s fs) f shape past (suc k) = written_nth fs (λ i. f (suc i)) (λ i. shape (suc i)) past k

-- ---- the fields of an object

pub object_written : (n : ℕ) (fs : Fields) (v : Plain) → HasShape (object n fs) v → trimmed_object_or_null (as_written fs (nth (entries_in v))) ≡ without_zeros v
unfolding HasShape
object_written n fs v h =
    let hs : HaveShapes fs (entries_in v) = entries_shape n fs v h in
    ap object_or_null (trimmed_same (as_written fs (nth (entries_in v))) (all_without_zeros (entries_in v)) (λ i. written_nth fs (nth (entries_in v)) (λ k. nth_shape fs (entries_in v) k hs) (λ k. nth_behind fs (entries_in v) k hs) i ∙ sym (nth_zeros (entries_in v) i)))
    ∙ sym (zeros_object (HaveShapes fs) v h)

-- ---- a dependency

pub dep_written : (v : Plain) (name version : List ℕ) (matching : ℕ) → HasShape (shape_of (Kinds.Obj Tables.Dep)) v → name ≡ text_in (entry_at_index v 0) → version ≡ text_in (entry_at_index v 1) → matching ≡ int_in (entry_at_index v 2)
    → without_zeros v ≡ trimmed_object_or_null (more (blob_or_null name) (more (blob_or_null version) (more (int_or_null matching) none)))
unfolding shape_of
dep_written v name version matching h e0 e1 e2 =
    sym (object_written 1 (shapes_of (table Tables.Dep)) v h)
    ∙ sym (λ j. trimmed_object_or_null (more (blob_or_null (e0 j)) (more (blob_or_null (e1 j)) (more (int_or_null (e2 j)) none))))

-- ---- an info

-- a field of an info with another hash and another size of its file
abbrev pub pick : List ℕ → ℕ → Plains → ℕ → Plain
pick id len vs i = if i == 2 then blob id else if i == 12 then int len else nth vs i

abbrev pub with_both : List ℕ → ℕ → Plains → Plains
with_both id len vs = with_value_set_at_index 12 (int len) (with_value_set_at_index 2 (blob id) vs)

module _ (id : List ℕ) (len : ℕ) (vs : Plains) where
  pick_hash : (i : ℕ) → i ≡ 2 → pick id len vs i ≡ blob id
  pick_hash i e = ap (pick id len vs) e

  pick_size : (i : ℕ) → i ≡ 12 → pick id len vs i ≡ int len
  pick_size i e = ap (pick id len vs) e

  pick_other : (i : ℕ) → (i == 2) ≡ false → (i == 12) ≡ false → pick id len vs i ≡ nth vs i
  pick_other i e f = (λ j. if e j then blob id else if i == 12 then int len else nth vs i) ∙ (λ j. if f j then int len else nth vs i)

  both_hash : (i : ℕ) → i ≡ 2 → nth (with_both id len vs) i ≡ blob id
  both_hash i e = ap (nth (with_both id len vs)) e ∙ (at_other 12 2 (int len) (with_value_set_at_index 2 (blob id) vs) (λ h. omega arith) ∙ at_same 2 (blob id) vs)

  both_size : (i : ℕ) → i ≡ 12 → nth (with_both id len vs) i ≡ int len
  both_size i e = ap (nth (with_both id len vs)) e ∙ at_same 12 (int len) (with_value_set_at_index 2 (blob id) vs)

  both_other : (i : ℕ) → (i ≡ 2 → ⊥) → (i ≡ 12 → ⊥) → nth (with_both id len vs) i ≡ nth vs i
  both_other i e f = at_other 12 i (int len) (with_value_set_at_index 2 (blob id) vs) (λ h. f (sym h)) ∙ at_other 2 i (blob id) vs (λ h. e (sym h))

  -- the one or the other, or neither
  pub by_place : (P : Plain → ℕ → Type 0) → (i : ℕ) → P (blob id) 2 → P (int len) 12 → P (nth vs i) i → P (nth (with_both id len vs) i) i
  by_place P i h2 h12 h0 =
      elim (eqb_tells i 2) [
        | inl p ↦ subst (λ v. P v i) (sym (both_hash i p.1)) (subst (P (blob id)) (sym p.1) h2)
        | inr p ↦ elim (eqb_tells i 12) [
          | inl q ↦ subst (λ v. P v i) (sym (both_size i q.1)) (subst (P (int len)) (sym q.1) h12)
          | inr q ↦ subst (λ v. P v i) (sym (both_other i p.1 q.1)) h0
        ]
      ]

  pick_both : (i : ℕ) → pick id len vs i ≡ nth (with_both id len vs) i
  pick_both i =
      elim (eqb_tells i 2) [
        | inl p ↦ pick_hash i p.1 ∙ sym (both_hash i p.1)
        | inr p ↦ elim (eqb_tells i 12) [
          | inl q ↦ pick_size i q.1 ∙ sym (both_size i q.1)
          | inr q ↦ pick_other i p.0 q.0 ∙ sym (both_other i p.1 q.1)
        ]
      ]

abbrev pub INFO : Fields
INFO = shapes_of (table Tables.PkgInfo)

-- a written info has the shape of one
both_shape : (id : List ℕ) (len : ℕ) (vs : Plains) → HaveShapes INFO vs → (k : ℕ) → HasShape (shape_at INFO k) (nth (with_both id len vs) k)
unfolding HasShape shape_of
both_shape id len vs h k = by_place id len vs (λ v i. HasShape (shape_at INFO i) v) k tt tt (nth_shape INFO vs k h)

both_behind : (id : List ℕ) (len : ℕ) (vs : Plains) → HaveShapes INFO vs → (k : ℕ) → nth (with_both id len vs) (behind INFO k) ≡ null
both_behind id len vs h k =
    let e : behind INFO k ≡ k + 22 = omega arith in
    both_other id len vs (behind INFO k) (λ x. omega (arith, e, x)) (λ x. omega (arith, e, x)) ∙ nth_behind INFO vs k h

entry_by_fields : (info : Plain) (id : List ℕ) (len : ℕ) → HaveShapes INFO (entries_in info) → trimmed_object_or_null (as_written INFO (pick id len (entries_in info))) ≡ info_without_zeros_with_id_and_file_size info id len
unfolding without_zeros info_without_zeros_with_id_and_file_size
entry_by_fields info id len h =
    let vs : Plains = entries_in info in
    let us : Plains = with_both id len vs in
    ap object_or_null (trimmed_same (as_written INFO (pick id len vs)) (all_without_zeros us)
    (λ i. written_nth INFO (pick id len vs)
    (λ k. subst (HasShape (shape_at INFO k)) (sym (pick_both id len vs k)) (both_shape id len vs h k))
    (λ k. pick_both id len vs (behind INFO k) ∙ both_behind id len vs h k) i
    ∙ (ap without_zeros (pick_both id len vs i) ∙ sym (nth_zeros us i))))

-- the 22 values that are written
abbrev pub info_fields : (id : List ℕ) (len : ℕ) (t0 t1 t3 t4 t5 t6 t7 t8 t9 : List ℕ) (n10 n11 n13 : ℕ) (l14 l15 l16 l17 l18 : Plain) (n19 : ℕ) (l20 : Plain) (n21 : ℕ) → Plains
info_fields id len t0 t1 t3 t4 t5 t6 t7 t8 t9 n10 n11 n13 l14 l15 l16 l17 l18 n19 l20 n21 =
    more (blob_or_null t0) (more (blob_or_null t1) (more (blob_or_null id) (more (blob_or_null t3) (more (blob_or_null t4)
    (more (blob_or_null t5) (more (blob_or_null t6) (more (blob_or_null t7) (more (blob_or_null t8) (more (blob_or_null t9)
    (more (int_or_null n10) (more (int_or_null n11) (more (int_or_null len) (more (int_or_null n13)
    (more (without_zeros l14) (more (without_zeros l15) (more (without_zeros l16) (more (without_zeros l17) (more (without_zeros l18)
    (more (int_or_null n19) (more (without_zeros l20) (more (int_or_null n21) none)))))))))))))))))))))

-- they are those of the entry
pub info_written : (info : Plain) (id : List ℕ) (len : ℕ) → HasShape (shape_of (Kinds.Obj Tables.PkgInfo)) info
    → (t0 t1 t3 t4 t5 t6 t7 t8 t9 : List ℕ) (n10 n11 n13 : ℕ) (l14 l15 l16 l17 l18 : Plain) (n19 : ℕ) (l20 : Plain) (n21 : ℕ)
    → t0 ≡ text_in (entry_at_index info 0) → t1 ≡ text_in (entry_at_index info 1) → t3 ≡ text_in (entry_at_index info 3) → t4 ≡ text_in (entry_at_index info 4)
    → t5 ≡ text_in (entry_at_index info 5) → t6 ≡ text_in (entry_at_index info 6) → t7 ≡ text_in (entry_at_index info 7) → t8 ≡ text_in (entry_at_index info 8) → t9 ≡ text_in (entry_at_index info 9)
    → n10 ≡ int_in (entry_at_index info 10) → n11 ≡ int_in (entry_at_index info 11) → n13 ≡ int_in (entry_at_index info 13)
    → l14 ≡ entry_at_index info 14 → l15 ≡ entry_at_index info 15 → l16 ≡ entry_at_index info 16 → l17 ≡ entry_at_index info 17 → l18 ≡ entry_at_index info 18
    → n19 ≡ int_in (entry_at_index info 19) → l20 ≡ entry_at_index info 20 → n21 ≡ int_in (entry_at_index info 21)
    → info_without_zeros_with_id_and_file_size info id len ≡ trimmed_object_or_null (info_fields id len t0 t1 t3 t4 t5 t6 t7 t8 t9 n10 n11 n13 l14 l15 l16 l17 l18 n19 l20 n21)
unfolding shape_of
info_written info id len h t0 t1 t3 t4 t5 t6 t7 t8 t9 n10 n11 n13 l14 l15 l16 l17 l18 n19 l20 n21 e0 e1 e3 e4 e5 e6 e7 e8 e9 e10 e11 e13 e14 e15 e16 e17 e18 e19 e20 e21 =
    sym (entry_by_fields info id len (entries_shape 3 INFO info h))
    ∙ sym (λ j. trimmed_object_or_null (more (blob_or_null (e0 j)) (more (blob_or_null (e1 j)) (more (blob_or_null id) (more (blob_or_null (e3 j)) (more (blob_or_null (e4 j))
    (more (blob_or_null (e5 j)) (more (blob_or_null (e6 j)) (more (blob_or_null (e7 j)) (more (blob_or_null (e8 j)) (more (blob_or_null (e9 j))
    (more (int_or_null (e10 j)) (more (int_or_null (e11 j)) (more (int_or_null len) (more (int_or_null (e13 j))
    (more (without_zeros (e14 j)) (more (without_zeros (e15 j)) (more (without_zeros (e16 j)) (more (without_zeros (e17 j)) (more (without_zeros (e18 j))
    (more (int_or_null (e19 j)) (more (without_zeros (e20 j)) (more (int_or_null (e21 j)) none)))))))))))))))))))))))
