-- What decides of two entries which stands first, and if that is found in an entry.
use Rattle.std.proofs.Common.{◌≡◌, Some, codes, ap, ◌∙◌}
use Rattle.std.specs.Ordering.{ordering_then}
use Rattle.std.specs.declared.cmp.Ordering.{Ordering}
use Rattle.std.specs.declared.cmp.Ordering.TheVariants.{Equal, Less}
use Rattle.adb_view.specs.Schema.{table}
use Rattle.adb_view.specs.Values.{text_in}
use Rattle.adb_view.specs.declared.tables.Which.TheVariants.{PkgInfo}
use Rattle.adb_view.proofs.ValueEntries.{nth_obj}
use Rattle.adb_view.specs.Plain.{Plain, Plains, none, more, trimmed_object_or_null}
use Rattle.base_core.specs.ByteOrder.{bytes_cmp}
use Rattle.make_core.specs.EntryOrder.{index_entry_cmp, id_of_index_entry, name_of_index_entry, version_of_index_entry}
use Rattle.make_info.specs.Named.{value_by_name}
use Rattle.version_core.specs.Order.{version_cmp}

-- one comparison behind the other
abbrev all : Ordering → Ordering → Ordering → Ordering → Ordering
all name version text id = ordering_then name (ordering_then version (ordering_then text id))

pub by_name : (a b : Plain) → bytes_cmp (name_of_index_entry a) (name_of_index_entry b) ≡ Less → index_entry_cmp a b ≡ Less
unfolding index_entry_cmp
by_name a b e = ap (λ (o : Ordering). all o (version_cmp (version_of_index_entry a) (version_of_index_entry b)) (bytes_cmp (version_of_index_entry a) (version_of_index_entry b)) (bytes_cmp (id_of_index_entry a) (id_of_index_entry b))) e

pub by_version : (a b : Plain) → bytes_cmp (name_of_index_entry a) (name_of_index_entry b) ≡ Equal → version_cmp (version_of_index_entry a) (version_of_index_entry b) ≡ Less → index_entry_cmp a b ≡ Less
unfolding index_entry_cmp
by_version a b e f = λ k. all (e k) (f k) (bytes_cmp (version_of_index_entry a) (version_of_index_entry b)) (bytes_cmp (id_of_index_entry a) (id_of_index_entry b))

pub by_text : (a b : Plain) → bytes_cmp (name_of_index_entry a) (name_of_index_entry b) ≡ Equal → version_cmp (version_of_index_entry a) (version_of_index_entry b) ≡ Equal → bytes_cmp (version_of_index_entry a) (version_of_index_entry b) ≡ Less → index_entry_cmp a b ≡ Less
unfolding index_entry_cmp
by_text a b e f g = λ k. all (e k) (f k) (g k) (bytes_cmp (id_of_index_entry a) (id_of_index_entry b))

pub by_id : (a b : Plain) → bytes_cmp (name_of_index_entry a) (name_of_index_entry b) ≡ Equal → version_cmp (version_of_index_entry a) (version_of_index_entry b) ≡ Equal → bytes_cmp (version_of_index_entry a) (version_of_index_entry b) ≡ Equal → bytes_cmp (id_of_index_entry a) (id_of_index_entry b) ≡ Less
    → index_entry_cmp a b ≡ Less
unfolding index_entry_cmp
by_id a b e f g h = λ k. all (e k) (f k) (g k) (h k)

-- ---- the fields by which they are ordered

pub name_field : (fields : Plains) (v : Plain) → value_by_name (codes "name") (table PkgInfo) fields ≡ Some v → name_of_index_entry (trimmed_object_or_null fields) ≡ text_in v
name_field none v e = absurd (cc (e))
name_field (more name fields) v e =
    let same : name ≡ v = cc (e) in
    ap text_in (nth_obj (more name fields) 0 ∙ same)

pub version_field : (fields : Plains) (v : Plain) → value_by_name (codes "version") (table PkgInfo) fields ≡ Some v → version_of_index_entry (trimmed_object_or_null fields) ≡ text_in v
version_field none v e = absurd (cc (e))
version_field (more name none) v e = absurd (cc (e))
version_field (more name (more version fields)) v e =
    let same : version ≡ v = cc (e) in
    ap text_in (nth_obj (more name (more version fields)) 1 ∙ same)

pub id_field : (fields : Plains) (v : Plain) → value_by_name (codes "hashes") (table PkgInfo) fields ≡ Some v → id_of_index_entry (trimmed_object_or_null fields) ≡ text_in v
id_field none v e = absurd (cc (e))
id_field (more name none) v e = absurd (cc (e))
id_field (more name (more version none)) v e = absurd (cc (e))
id_field (more name (more version (more hashes fields))) v e =
    let same : hashes ≡ v = cc (e) in
    ap text_in (nth_obj (more name (more version (more hashes fields))) 2 ∙ same)
