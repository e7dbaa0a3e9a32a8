-- Who may do what with the files and the folders of a package.
use Rattle.std.proofs.Common.{ℕ, List, [], ◌∷◌, map, refl, sym, subst}
use Rattle.std.specs.Prelude.{All}
use Rattle.std.proofs.lemmas.List.Elements.{All-cons, All-nil}
use Rattle.adb_view.proofs.ValueEntries.{nth_obj}
use Rattle.make_core.specs.package_files.Package.{SourceFileNameAndBytes, SourceFolder, access_value, file_fields, folder_fields, kind_of_file, value_of_file, value_of_folder}
use Rattle.make_core.proofs.PackageFiles.{files_stand}
use Rattle.definition_laws.specs.making.MadePackages.{IsEnterableWithReadableFiles, IsReadableFile, ENTERABLE_FOLDER_MODE, READABLE_FILE_MODE}
use Rattle.definition_laws.specs.making.NamedFields.{IsAccessOfRoot}

access_stands : (mode : ℕ) → IsAccessOfRoot mode (access_value mode)
access_stands mode = record { of_mode = refl; of_user = refl; of_group = refl }

file_readable : (s : SourceFileNameAndBytes) → IsReadableFile (value_of_file s)
file_readable s = subst (IsAccessOfRoot READABLE_FILE_MODE) (sym (nth_obj (file_fields s.name (kind_of_file s.bytes)) 1)) (access_stands READABLE_FILE_MODE)

files_readable : (ss : List SourceFileNameAndBytes) → All IsReadableFile (map value_of_file ss)
files_readable [] = All-nil IsReadableFile
files_readable (s ∷ ss) = All-cons IsReadableFile (value_of_file s) (map value_of_file ss) (file_readable s) (files_readable ss)

folder_enterable : (s : SourceFolder) → IsEnterableWithReadableFiles (value_of_folder s)
folder_enterable s =
    record {
      itself = subst (IsAccessOfRoot ENTERABLE_FOLDER_MODE) (sym (nth_obj (folder_fields s.name (map value_of_file s.files)) 1)) (access_stands ENTERABLE_FOLDER_MODE);
      files = subst (All IsReadableFile) (sym (files_stand s)) (files_readable s.files);
    }

pub folders_enterable : (ss : List SourceFolder) → All IsEnterableWithReadableFiles (map value_of_folder ss)
folders_enterable [] = All-nil IsEnterableWithReadableFiles
folders_enterable (s ∷ ss) = All-cons IsEnterableWithReadableFiles (value_of_folder s) (map value_of_folder ss) (folder_enterable s) (folders_enterable ss)
