-- Entries: they are normal, have the shape of an info, and are entries of themselves.
use Rattle.std.proofs.Common.{◌≡◌, ℕ, ◌<◌, ◌^◌, List, ap, sym, ◌∙◌, arith}
use Rattle.adb_view.specs.Plain.{Plain, int, blob, Plains, object_or_null, IsNormal}
use Rattle.adb_view.specs.Shaped.{HasShape}
use Rattle.adb_view.specs.Schema.{shape_of}
use Rattle.adb_view.specs.Values.{nth, entries_in, entry_at_index, int_in, text_in}
use Rattle.adb_view.specs.declared.tables.Which.TheVariants as Tables
use Rattle.adb_view.specs.declared.tables.Kind.TheVariants as Kinds
use Rattle.adb_copy.specs.Zeros.{without_zeros, all_without_zeros, with_value_set_at_index, info_without_zeros_with_id_and_file_size}
use Rattle.make_core.specs.Kept.{copy_of_entry}
use Rattle.adb_view.proofs.ValueEntries.{nth_obj}
use Rattle.adb_copy.proofs.Shapes.{entries_shape}
use Rattle.adb_copy.proofs.WithoutZeros.{HasInts, entries_ints, int_zeros, normal_ints, placed_normal, placed_shape, text_zeros}
use Rattle.adb_copy.proofs.Zeros.{nth_zeros, trimmed_same, at_same, at_other, zeros_twice}
use Rattle.adb_copy.proofs.Fields.{with_both, by_place, INFO}

pub entry_normal : (info : Plain) (id : List ℕ) (len : ℕ) → IsNormal info → len < 2 ^ 64 → IsNormal (info_without_zeros_with_id_and_file_size info id len)
unfolding info_without_zeros_with_id_and_file_size HasInts
entry_normal info id len h l = placed_normal 12 2 (int len) (blob id) (entries_in info) l tt (entries_ints info (normal_ints info h))

pub entry_shape : (info : Plain) (id : List ℕ) (len : ℕ) → HasShape (shape_of (Kinds.Obj Tables.PkgInfo)) info → HasShape (shape_of (Kinds.Obj Tables.PkgInfo)) (info_without_zeros_with_id_and_file_size info id len)
unfolding info_without_zeros_with_id_and_file_size shape_of HasShape
entry_shape info id len h = placed_shape 3 INFO 12 2 (int len) (blob id) (entries_in info) tt tt tt tt (entries_shape 3 INFO info h)

-- ---- fields

module _ (info : Plain) (id : List ℕ) (len : ℕ) where
  entry_nth : (i : ℕ) → entry_at_index (info_without_zeros_with_id_and_file_size info id len) i ≡ without_zeros (nth (with_both id len (entries_in info)) i)
  unfolding info_without_zeros_with_id_and_file_size without_zeros
  entry_nth i = nth_obj (all_without_zeros (with_both id len (entries_in info))) i ∙ nth_zeros (with_both id len (entries_in info)) i

  pub entry_name : text_in (entry_at_index (info_without_zeros_with_id_and_file_size info id len) 0) ≡ text_in (entry_at_index info 0)
  entry_name = ap text_in (entry_nth 0) ∙ (text_zeros (nth (with_both id len (entries_in info)) 0) ∙ ap text_in (at_other 12 0 (int len) (with_value_set_at_index 2 (blob id) (entries_in info)) (λ h. omega arith) ∙ at_other 2 0 (blob id) (entries_in info) (λ h. omega arith)))

  pub entry_version : text_in (entry_at_index (info_without_zeros_with_id_and_file_size info id len) 1) ≡ text_in (entry_at_index info 1)
  entry_version = ap text_in (entry_nth 1) ∙ (text_zeros (nth (with_both id len (entries_in info)) 1) ∙ ap text_in (at_other 12 1 (int len) (with_value_set_at_index 2 (blob id) (entries_in info)) (λ h. omega arith) ∙ at_other 2 1 (blob id) (entries_in info) (λ h. omega arith)))

  pub entry_id : text_in (entry_at_index (info_without_zeros_with_id_and_file_size info id len) 2) ≡ id
  entry_id = ap text_in (entry_nth 2) ∙ (text_zeros (nth (with_both id len (entries_in info)) 2) ∙ ap text_in (at_other 12 2 (int len) (with_value_set_at_index 2 (blob id) (entries_in info)) (λ h. omega arith) ∙ at_same 2 (blob id) (entries_in info)))

  pub entry_size : int_in (entry_at_index (info_without_zeros_with_id_and_file_size info id len) 12) ≡ len
  entry_size = ap int_in (entry_nth 12) ∙ (int_zeros (nth (with_both id len (entries_in info)) 12) ∙ ap int_in (at_same 12 (int len) (with_value_set_at_index 2 (blob id) (entries_in info))))

entry_of_fields : (info other : Plain) (id : List ℕ) (len : ℕ) → ((i : ℕ) → without_zeros (nth (with_both id len (entries_in info)) i) ≡ without_zeros (nth (with_both id len (entries_in other)) i)) → info_without_zeros_with_id_and_file_size info id len ≡ info_without_zeros_with_id_and_file_size other id len
unfolding info_without_zeros_with_id_and_file_size without_zeros
entry_of_fields info other id len h = ap object_or_null (trimmed_same (all_without_zeros (with_both id len (entries_in info))) (all_without_zeros (with_both id len (entries_in other))) (λ i. nth_zeros (with_both id len (entries_in info)) i ∙ (h i ∙ sym (nth_zeros (with_both id len (entries_in other)) i))))

-- an entry made once more of its own fields is itself
pub entry_again : (info : Plain) (id : List ℕ) (len : ℕ) → copy_of_entry (info_without_zeros_with_id_and_file_size info id len) ≡ info_without_zeros_with_id_and_file_size info id len
entry_again info id len =
    let e : Plain = info_without_zeros_with_id_and_file_size info id len in
    let us : Plains = with_both id len (entries_in info) in
    (λ j. info_without_zeros_with_id_and_file_size e (entry_id info id len j) (entry_size info id len j))
    ∙ entry_of_fields e info id len (λ i. by_place id len (entries_in e) (λ v k. without_zeros v ≡ without_zeros (nth us k)) i
    (ap without_zeros (sym (at_other 12 2 (int len) (with_value_set_at_index 2 (blob id) (entries_in info)) (λ h. omega arith) ∙ at_same 2 (blob id) (entries_in info))))
    (ap without_zeros (sym (at_same 12 (int len) (with_value_set_at_index 2 (blob id) (entries_in info)))))
    (ap without_zeros (entry_nth info id len i) ∙ zeros_twice (nth us i)))
