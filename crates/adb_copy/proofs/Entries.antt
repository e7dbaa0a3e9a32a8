-- The fields of a file, of its access list and of scripts, as they are written one by one.
use Rattle.std.proofs.Common.{◌≡◌, ℕ, List, sym, ◌∙◌, refl, zero, suc, [], ◌∷◌, ap}
use Rattle.adb_view.specs.Plain.{Plain, none, more, blob_or_null, trimmed_object_or_null, null, int, blob, arr, obj}
use Rattle.adb_view.specs.Shaped.{HasShape}
use Rattle.adb_view.specs.Schema.{shape_of, shapes_of, table}
use Rattle.adb_view.specs.Values.{entry_at_index, int_in, text_in, nth}
use Rattle.adb_view.specs.declared.tables.Which.TheVariants as Tables
use Rattle.adb_view.specs.declared.tables.Kind.TheVariants as Kinds
use Rattle.adb_view.proofs.ValueEntries.{entries_arr, nth_obj}
use Rattle.adb_copy.specs.Zeros.{int_or_null, without_zeros, all_without_zeros}
use Rattle.adb_copy.proofs.Fields.{object_written}
use Rattle.adb_copy.proofs.Zeros.{nth_zeros}

pub acl_written : (v : Plain) (mode : ℕ) (user group : List ℕ) (xattrs : Plain) → HasShape (shape_of (Kinds.Obj Tables.Acl)) v
    → mode ≡ int_in (entry_at_index v 0) → user ≡ text_in (entry_at_index v 1) → group ≡ text_in (entry_at_index v 2) → xattrs ≡ entry_at_index v 3
    → without_zeros v ≡ trimmed_object_or_null (more (int_or_null mode) (more (blob_or_null user) (more (blob_or_null group) (more (without_zeros xattrs) none))))
unfolding shape_of
acl_written v mode user group xattrs h e0 e1 e2 e3 =
    sym (object_written 2 (shapes_of (table Tables.Acl)) v h)
    ∙ sym (λ j. trimmed_object_or_null (more (int_or_null (e0 j)) (more (blob_or_null (e1 j)) (more (blob_or_null (e2 j)) (more (without_zeros (e3 j)) none)))))

pub file_written : (v : Plain) (name : List ℕ) (acl : Plain) (size mtime : ℕ) (hashes target : List ℕ) (unused : ℕ) → HasShape (shape_of (Kinds.Obj Tables.File)) v
    → name ≡ text_in (entry_at_index v 0) → acl ≡ entry_at_index v 1 → size ≡ int_in (entry_at_index v 2) → mtime ≡ int_in (entry_at_index v 3)
    → hashes ≡ text_in (entry_at_index v 4) → target ≡ text_in (entry_at_index v 5) → unused ≡ int_in (entry_at_index v 6)
    → without_zeros v ≡ trimmed_object_or_null (more (blob_or_null name) (more (without_zeros acl) (more (int_or_null size) (more (int_or_null mtime)
    (more (blob_or_null hashes) (more (blob_or_null target) (more (int_or_null unused) none)))))))
unfolding shape_of
file_written v name acl size mtime hashes target unused h e0 e1 e2 e3 e4 e5 e6 =
    sym (object_written 4 (shapes_of (table Tables.File)) v h)
    ∙ sym (λ j. trimmed_object_or_null (more (blob_or_null (e0 j)) (more (without_zeros (e1 j)) (more (int_or_null (e2 j)) (more (int_or_null (e3 j))
    (more (blob_or_null (e4 j)) (more (blob_or_null (e5 j)) (more (int_or_null (e6 j)) none))))))))

pub scripts_written : (v : Plain) (t0 t1 t2 t3 t4 t5 t6 : List ℕ) → HasShape (shape_of (Kinds.Obj Tables.Scripts)) v
    → t0 ≡ text_in (entry_at_index v 0) → t1 ≡ text_in (entry_at_index v 1) → t2 ≡ text_in (entry_at_index v 2) → t3 ≡ text_in (entry_at_index v 3)
    → t4 ≡ text_in (entry_at_index v 4) → t5 ≡ text_in (entry_at_index v 5) → t6 ≡ text_in (entry_at_index v 6)
    → without_zeros v ≡ trimmed_object_or_null (more (blob_or_null t0) (more (blob_or_null t1) (more (blob_or_null t2) (more (blob_or_null t3)
    (more (blob_or_null t4) (more (blob_or_null t5) (more (blob_or_null t6) none)))))))
unfolding shape_of
scripts_written v t0 t1 t2 t3 t4 t5 t6 h e0 e1 e2 e3 e4 e5 e6 =
    sym (object_written 6 (shapes_of (table Tables.Scripts)) v h)
    ∙ sym (λ j. trimmed_object_or_null (more (blob_or_null (e0 j)) (more (blob_or_null (e1 j)) (more (blob_or_null (e2 j)) (more (blob_or_null (e3 j))
    (more (blob_or_null (e4 j)) (more (blob_or_null (e5 j)) (more (blob_or_null (e6 j)) none))))))))

pub entry_zeros : (v : Plain) (i : ℕ) → entry_at_index (without_zeros v) i ≡ without_zeros (entry_at_index v i)
unfolding without_zeros
entry_zeros null i = refl
entry_zeros (int zero) i = refl
entry_zeros (int (suc n)) i = refl
entry_zeros (blob []) i = refl
entry_zeros (blob (x ∷ xs)) i = refl
entry_zeros (arr vs) i = ap (λ us. nth us i) (entries_arr (all_without_zeros vs)) ∙ nth_zeros vs i
entry_zeros (obj vs) i = nth_obj (all_without_zeros vs) i ∙ nth_zeros vs i
