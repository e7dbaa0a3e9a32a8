-- What an entry of an index tells, and what values without zeros do.
use Rattle.std.proofs.Common.{◌≡◌, ◌≢◌, ℕ, zero, suc, Bool, true, false, if◌then◌else◌, List, [], ◌∷◌, bytes_eq, length, codes, refl, ap, sym, ◌∙◌, arith}
use Rattle.std.proofs.lemmas.Slice.Eq.{bytes_eq-Decides}
use Rattle.make_core.specs.adb_copy.Zeros.{all_without_zeros, info_without_zeros_with_id_and_file_size, with_value_set_at_index, without_zeros}
use Rattle.make_core.proofs.adb_copy.WithoutZeros.{int_zeros}
use Rattle.make_core.proofs.adb_copy.Zeros.{nth_zeros, at_same}
use Rattle.adb_view.specs.Schema.{field_name_text, table}
use Rattle.adb_view.specs.Values.{entries_in, entry_at_index, int_in, nth}
use Rattle.adb_view.specs.declared.tables.Field.{Field}
use Rattle.adb_view.specs.declared.tables.Which.TheVariants.{Package, PkgInfo}
use Rattle.adb_view.proofs.ValueEntries.{nth_obj}
use Rattle.adb_view.specs.Plain.{Plain, null, int, blob, arr, obj, Plains, none, more, blob_or_null, object_or_null, without_last_nulls}
use Rattle.make_core.specs.Entries.{index_entry_of_package_file}
use Rattle.make_core.proofs.ValueParts.{placed_later}
use Rattle.definition_laws.specs.making.MadePackages.{package_in_container}
use Rattle.definition_laws.specs.making.NamedFields.{field_named, place_of_name}
use Rattle.make_core.specs.pkg_core.Whole.{payload_sha256_of_package_file}

-- ---- values without zeros

no_int : (us : Plains) → object_or_null us ≢ int 0
no_int none e = absurd (cc (e))
no_int (more u us) e = absurd (cc (e))

pub none_zero : (v : Plain) → without_zeros v ≢ int 0
unfolding without_zeros all_without_zeros
none_zero null e = absurd (cc (e))
none_zero (int zero) e = absurd (cc (e))
none_zero (int (suc n)) e = let same : suc n ≡ 0 = ap int_in e in absurd (omega arith)
none_zero (blob []) e = absurd (cc (e))
none_zero (blob (b ∷ bs)) e = absurd (cc (e))
none_zero (arr none) e = absurd (cc (e))
none_zero (arr (more v vs)) e = absurd (cc (e))
none_zero (obj vs) e = no_int (without_last_nulls (all_without_zeros vs)) e

-- ---- the place of a name

-- the field at a place has this name
abbrev IsNamedAt : List Field → ℕ → List ℕ → Type 0
IsNamedAt [] k name = Unit {0}
IsNamedAt (f ∷ fs) zero name = field_name_text f.name ≡ name
IsNamedAt (f ∷ fs) (suc k) name = IsNamedAt fs k name

named_at : (fs : List Field) (name : List ℕ) (k : ℕ) → place_of_name name fs ≡ k → IsNamedAt fs k name
named_at [] name k e = tt
named_at (f ∷ fs) name k e = by_name (bytes_eq (field_name_text f.name) name) refl k e (named_at fs name)
  where
    by_name : (b : Bool) → bytes_eq (field_name_text f.name) name ≡ b → (k : ℕ) → (if b then 0 else suc (place_of_name name fs)) ≡ k
        → ((k : ℕ) → place_of_name name fs ≡ k → IsNamedAt fs k name) → IsNamedAt (f ∷ fs) k name
    by_name true t zero e further = (bytes_eq-Decides (field_name_text f.name) name).0 t
    by_name true t (suc k) e further = absurd (omega arith)
    by_name false t zero e further = absurd (omega arith)
    by_name false t (suc k) e further = further k (omega arith)

-- ---- an entry

placed_other : (i j : ℕ) (v : Plain) (vs : Plains) → i ≢ j → nth (with_value_set_at_index j v vs) i ≡ nth vs i
placed_other zero zero v vs other = absurd (other refl)
placed_other zero (suc j) v none other = refl
placed_other zero (suc j) v (more u us) other = refl
placed_other (suc i) zero v none other = refl
placed_other (suc i) zero v (more u us) other = refl
placed_other (suc i) (suc j) v none other = placed_other i j v none (λ e. other (ap suc e))
placed_other (suc i) (suc j) v (more u us) other = placed_other i j v us (λ e. other (ap suc e))

abbrev told : Plain → List ℕ → ℕ → Plains
told info id len = with_value_set_at_index 12 (int len) (with_value_set_at_index 2 (blob id) (entries_in info))

entry_at : (info : Plain) (id : List ℕ) (len i : ℕ) → entry_at_index (info_without_zeros_with_id_and_file_size info id len) i ≡ without_zeros (nth (told info id len) i)
unfolding info_without_zeros_with_id_and_file_size without_zeros
entry_at info id len i = nth_obj (all_without_zeros (told info id len)) i ∙ nth_zeros (told info id len) i

abbrev own_info : List ℕ → Plain
own_info file = field_named Package (codes "info") (package_in_container file)

pub id_told : (file : List ℕ) → field_named PkgInfo (codes "hashes") (index_entry_of_package_file file) ≡ blob_or_null (payload_sha256_of_package_file file)
unfolding without_zeros
id_told file =
    let id : List ℕ = payload_sha256_of_package_file file in
    entry_at (own_info file) id (length file) 2
    ∙ ap without_zeros (placed_later 2 12 (int (length file)) (with_value_set_at_index 2 (blob id) (entries_in (own_info file))) (omega arith) ∙ at_same 2 (blob id) (entries_in (own_info file)))

pub length_told : (file : List ℕ) → int_in (field_named PkgInfo (codes "file-size") (index_entry_of_package_file file)) ≡ length file
length_told file =
    let id : List ℕ = payload_sha256_of_package_file file in
    ap int_in (entry_at (own_info file) id (length file) 12 ∙ ap without_zeros (at_same 12 (int (length file)) (with_value_set_at_index 2 (blob id) (entries_in (own_info file)))))
    ∙ int_zeros (int (length file))

pub others_told : (file name : List ℕ) → name ≢ codes "hashes" → name ≢ codes "file-size" → field_named PkgInfo name (index_entry_of_package_file file) ≡ without_zeros (field_named PkgInfo name (own_info file))
others_told file name hashes size =
    let id : List ℕ = payload_sha256_of_package_file file in
    let place : ℕ = place_of_name name (table PkgInfo) in
    let apart : place ≢ 2 = λ e. hashes (sym (named_at (table PkgInfo) name 2 e)) in
    let besides : place ≢ 12 = λ e. size (sym (named_at (table PkgInfo) name 12 e)) in
    let info : Plain = own_info file in
    entry_at info id (length file) place
    ∙ ap without_zeros (placed_other place 12 (int (length file)) (with_value_set_at_index 2 (blob id) (entries_in info)) besides ∙ placed_other place 2 (blob id) (entries_in info) apart)
