-- What an index tells of a good package may stand in an index.
use Rattle.std.proofs.Common.{◌≡◌, ℕ, ◌^◌, ◌<◌, List, length, None, refl, ap, ◌∙◌, lit<}
use Rattle.std.specs.Prelude.{All}
use Rattle.sha2.proofs.Facts256.{length-sha256}
use Rattle.adb_view.specs.Plain.{Plain, int, blob, obj, Plains, Shape, number, hash, object, Fields}
use Rattle.adb_view.specs.Shaped.{HasShape, HaveShapes}
use Rattle.adb_view.specs.Schema.{shape_of, shapes_of, table}
use Rattle.pkg_core.specs.adb_schema.Texts.{Surroundings, number_leaf, text_leaf, surroundings_of_root, surroundings_of_fields, leaves, field_leaves, first_bad_leaf, is_package_hash_length, is_allowed_text_of_field}
use Rattle.adb_view.specs.Values.{nth, entries_in, entry_at_index}
use Rattle.pkg_core.specs.adb_schema.Soundness.{payload_in}
use Rattle.adb_view.specs.declared.tables.Which.{Which}
use Rattle.adb_view.specs.declared.tables.Which.TheVariants.{Dep, Package, PkgInfo, Index}
use Rattle.adb_view.specs.declared.tables.Kind.TheVariants.{Obj}
use Rattle.pkg_core.specs.Whole.{package_fault, payload_sha256_of_package_file, package_with_contents}
use Rattle.make_core.specs.Entries.{index_entry_of_package_file}
use Rattle.adb_copy.specs.Zeros.{info_without_zeros_with_id_and_file_size, with_value_set_at_index}
use Rattle.make_core.proofs.Blind.{AreBlind, AreBlindBut, IsBlind, turned_but}
use Rattle.make_core.proofs.OpenedPackage.{IsOpened, Values, opened}
use Rattle.make_core.proofs.ValueParts.{part_kept, part_shaped, placed_kept, placed_later, placed_shaped}
use Rattle.make_core.proofs.GoodValues.{IsGood, good_leaf}
use Rattle.adb_copy.proofs.Shapes.{entries_shape}
use Rattle.adb_copy.proofs.WithoutZeros.{HasInts, HaveInts, entries_ints, normal_ints, nth_ints, placed_ints, zeros_normal, zeros_shape}
use Rattle.adb_copy.proofs.Zeros.{at_same}
use Rattle.make_core.proofs.Zeros.{zeros_leaves}

abbrev infos : Fields
infos = shapes_of (table PkgInfo)

abbrev dep_shape : Shape
dep_shape = shape_of (Obj Dep)

blind_dep : (place : ℕ) → IsBlind dep_shape place
unfolding shape_of IsBlind AreBlind is_allowed_text_of_field
blind_dep place = (λ a b x. refl, (λ a b x. refl, (tt, tt)))

-- of all places of an info, only the one of its hash looks around
blind_info : AreBlindBut 2 infos 301
unfolding shape_of IsBlind AreBlind is_allowed_text_of_field
blind_info =
    (λ a b x. refl, (λ a b x. refl, (λ a b x. refl, (λ a b x. refl, (λ a b x. refl, (λ a b x. refl, (λ a b x. refl, (λ a b x. refl, (λ a b x. refl, (tt, (tt, (tt, (tt, (blind_dep 315, (blind_dep 316, (blind_dep 317, (blind_dep 318, (blind_dep 319, (tt, (λ a b x. refl, (tt, tt)))))))))))))))))))))

-- ---- the info of a package

info_shaped : (v : Plain) → IsOpened v → HaveShapes infos (entries_in (entry_at_index v 0))
unfolding shape_of
info_shaped v o =
    let shapes = entries_shape 7 (shapes_of (table Package)) v o.shaped in
    entries_shape 3 infos (entry_at_index v 0) (part_shaped (shapes_of (table Package)) 0 (shape_of (Obj PkgInfo)) (entries_in v) refl shapes)

abbrev around_info : Plain → Surroundings
around_info v = surroundings_of_fields 3 (surroundings_of_fields 7 (surroundings_of_root Package) v) (entry_at_index v 0)

info_kept : (v : Plain) → IsOpened v → first_bad_leaf (field_leaves infos 301 (around_info v) (entries_in (entry_at_index v 0))) ≡ None
unfolding shape_of leaves
info_kept v o = part_kept (shapes_of (table Package)) 0 (shape_of (Obj PkgInfo)) 701 (surroundings_of_fields 7 (surroundings_of_root Package) v) (entries_in v) refl o.kept

-- ---- its hash and its length

id_here : (a : Surroundings) (id : List ℕ) → length id ≡ 32 → a.root ≡ Package → first_bad_leaf (leaves hash 303 a (blob id)) ≡ None
unfolding leaves is_allowed_text_of_field
id_here a id len root = good_leaf (text_leaf 303 a id) (ap (λ (w : Which). is_package_hash_length w (length id)) root ∙ ap (is_package_hash_length Package) len)

id_there : (a : Surroundings) (id : List ℕ) → length id ≡ 32 → a.root ≡ Index → first_bad_leaf (leaves hash 303 a (blob id)) ≡ None
unfolding leaves is_allowed_text_of_field
id_there a id len root = good_leaf (text_leaf 303 a id) (ap (λ (w : Which). is_package_hash_length w (length id)) root ∙ ap (is_package_hash_length Index) len)

len_here : (a : Surroundings) (n : ℕ) → first_bad_leaf (leaves number 313 a (int n)) ≡ None
unfolding leaves
len_here a n = good_leaf (number_leaf 313 n) refl

blob_shaped : (b : List ℕ) → HasShape hash (blob b)
unfolding HasShape
blob_shaped b = tt

int_shaped : (n : ℕ) → HasShape number (int n)
unfolding HasShape
int_shaped n = tt

blob_ints : (b : List ℕ) → HasInts (blob b)
unfolding HasInts
blob_ints b = tt

int_ints : (n : ℕ) → n < 2 ^ 64 → HasInts (int n)
unfolding HasInts
int_ints n h = h

obj_ints : (vs : Plains) → HaveInts vs → HasInts (obj vs)
unfolding HasInts
obj_ints vs h = h

obj_shaped : (schema : ℕ) (fs : Fields) (vs : Plains) → HaveShapes fs vs → HasShape (object schema fs) (obj vs)
unfolding HasShape
obj_shaped schema fs vs h = h

abbrev with_both : Plains → List ℕ → ℕ → Plains
with_both vs id len = with_value_set_at_index 12 (int len) (with_value_set_at_index 2 (blob id) vs)

both_shaped : (vs : Plains) (id : List ℕ) (len : ℕ) → HaveShapes infos vs → HaveShapes infos (with_both vs id len)
unfolding shape_of
both_shaped vs id len h =
    placed_shaped infos 12 number (int len) (with_value_set_at_index 2 (blob id) vs) refl (int_shaped len) (placed_shaped infos 2 hash (blob id) vs refl (blob_shaped id) h)

both_ints : (vs : Plains) (id : List ℕ) (len : ℕ) → len < 2 ^ 64 → HaveInts vs → HaveInts (with_both vs id len)
both_ints vs id len small h = placed_ints 12 (int len) (with_value_set_at_index 2 (blob id) vs) (int_ints len small) (placed_ints 2 (blob id) vs (blob_ints id) h)

id_stands : (vs : Plains) (id : List ℕ) (len : ℕ) → nth (with_both vs id len) 2 ≡ blob id
id_stands vs id len = placed_later 2 12 (int len) (with_value_set_at_index 2 (blob id) vs) (lit< tt) ∙ at_same 2 (blob id) vs

both_kept : (a b : Surroundings) (vs : Plains) (id : List ℕ) (len : ℕ) → length id ≡ 32 → a.root ≡ Package → b.root ≡ Index
    → first_bad_leaf (field_leaves infos 301 a vs) ≡ None → first_bad_leaf (field_leaves infos 301 b (with_both vs id len)) ≡ None
unfolding shape_of
both_kept a b vs id len long here there h =
    let one = placed_kept infos 2 hash 301 a (blob id) vs refl (id_here a id long here) h in
    let two = placed_kept infos 12 number 301 a (int len) (with_value_set_at_index 2 (blob id) vs) refl (len_here a len) one in
    let id_good = ap (λ (u : Plain). first_bad_leaf (leaves hash 303 b u)) (id_stands vs id len) ∙ id_there b id long there in
    turned_but 2 infos hash 301 a b (with_both vs id len) refl blind_info id_good two

-- ---- the entry

entry_by : (v : Plain) (id : List ℕ) (len place : ℕ) (around : Surroundings) → IsOpened v → length id ≡ 32 → len < 2 ^ 64 → around.root ≡ Index
    → IsGood (shape_of (Obj PkgInfo)) place around (info_without_zeros_with_id_and_file_size (entry_at_index v 0) id len)
unfolding shape_of leaves info_without_zeros_with_id_and_file_size
entry_by v id len place around o long small root =
    let vs = entries_in (entry_at_index v 0) in
    let us = with_both vs id len in
    let ints = obj_ints us (both_ints vs id len small (entries_ints (entry_at_index v 0) (nth_ints (entries_in v) 0 (entries_ints v (normal_ints v o.normal))))) in
    let shaped = obj_shaped 3 infos us (both_shaped vs id len (info_shaped v o)) in
    let kept = both_kept (around_info v) (surroundings_of_fields 3 around (obj us)) vs id len long refl root (info_kept v o) in
    record {
      normal = zeros_normal (obj us) ints;
      shaped = zeros_shape (object 3 infos) (obj us) shaped;
      kept = ap first_bad_leaf (zeros_leaves (object 3 infos) place around (obj us) shaped) ∙ kept;
    }

pub entry_good : Values → (file : List ℕ) (place : ℕ) (around : Surroundings) → All (λ b. b < 256) file → length file < 2 ^ 64 → around.root ≡ Index → package_fault file ≡ None
    → IsGood (shape_of (Obj PkgInfo)) place around (index_entry_of_package_file file)
entry_good laws file place around bytes small root e =
    entry_by (package_with_contents file).value (payload_sha256_of_package_file file) (length file) place around (opened laws file bytes e) (length-sha256 (payload_in file)) small root
