-- The installed size is the sum of the sizes that the files tell.
use Rattle.std.proofs.Common.{◌≡◌, ℕ, ◌+◌, List, [], ◌∷◌, map, codes, refl, ap, sym, ◌∙◌}
use Rattle.std.specs.Prelude.{sum_by}
use Rattle.std.specs.List.{flat_map}
use Rattle.std.proofs.lemmas.List.Concat.{flat_map-cons}
use Rattle.std.proofs.lemmas.List.Sums.{sum_by-append, sum_by-cons}
use Rattle.make_core.specs.adb_fields.Repeated.{files_in}
use Rattle.adb_view.specs.Values.{int_in}
use Rattle.adb_view.specs.declared.tables.Which.TheVariants.{PkgInfo}
use Rattle.adb_view.proofs.ValueEntries.{nth_obj}
use Rattle.adb_view.specs.Plain.{Plain}
use Rattle.make_core.specs.make_info.Information.{FieldWithValue, information_fields_with_installed_size, information_value_with_installed_size}
use Rattle.make_core.specs.package_files.Package.{SourceFileNameAndBytes, SourceFolder, installed_size, kind_of_file, size_of_folder, size_of_kind, value_of_file, value_of_folder}
use Rattle.make_core.proofs.PackageFiles.{files_stand, int-size_or_null_if_zero, size_stands}
use Rattle.definition_laws.specs.making.MadePackages.{listed_file_size}
use Rattle.definition_laws.specs.making.NamedFields.{field_named}

abbrev own_size : SourceFileNameAndBytes → ℕ
own_size file = size_of_kind (kind_of_file file.bytes)

files_told : (files : List SourceFileNameAndBytes) → sum_by own_size files ≡ sum_by listed_file_size (map value_of_file files)
files_told [] = refl
files_told (f ∷ fs) =
    sum_by-cons own_size f fs
    ∙ ((λ k. sym (size_stands f.name (kind_of_file f.bytes)) k + files_told fs k)
    ∙ sym (sum_by-cons listed_file_size (value_of_file f) (map value_of_file fs)))

pub sizes_told : (sources : List SourceFolder) → installed_size sources ≡ sum_by listed_file_size (flat_map files_in (map value_of_folder sources))
sizes_told [] = refl
sizes_told (s ∷ ss) =
    let here : List Plain = files_in (value_of_folder s) in
    let rest : List Plain = flat_map files_in (map value_of_folder ss) in
    let one : size_of_folder s ≡ sum_by listed_file_size here = files_told s.files ∙ ap (sum_by listed_file_size) (sym (files_stand s)) in
    sum_by-cons size_of_folder s ss
    ∙ ((λ k. one k + sizes_told ss k)
    ∙ (sym (sum_by-append listed_file_size here rest) ∙ ap (sum_by listed_file_size) (sym (flat_map-cons files_in (value_of_folder s) (map value_of_folder ss)))))

pub size_is : (items : List FieldWithValue) (size : ℕ) → int_in (field_named PkgInfo (codes "installed-size") (information_value_with_installed_size items size)) ≡ size
unfolding information_value_with_installed_size
size_is items size = ap int_in (nth_obj (information_fields_with_installed_size items size) 11) ∙ int-size_or_null_if_zero size
