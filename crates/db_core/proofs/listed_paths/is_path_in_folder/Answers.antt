use Rattle.std.proofs.Common.{◌≡◌, ◌+◌, ◌-◌, ◌∙◌, ap, arith, sym}
use Rattle.std.specs.Prelude.{bytes_eq}
use Rattle.std.specs.List.{list_any}
use Rattle.pkg_core.specs.adb_fields.ListValue.{list_value}
use Rattle.pkg_core.specs.adb_fields.Paths.{path_of}
use Rattle.pkg_core.specs.adb_fields.Repeated.{list_of, name_of, files_in, paths_of_folder_files}
use Rattle.pkg_core.specs.adb_schema.Views.{dir_value}
use Rattle.adb_view.specs.Values.{entries_in, entry_at_index}
use Rattle.db_core.proofs.AnyOf.{any_map}
use Rattle.db_core.proofs.listed_paths.is_path_in_folder.Goals as goal

pub returns : goal.returns
returns c =
    let n : c.args.i + 1 - 1 ≡ c.args.i = omega arith in
    let d = dir_value c.get-folder.result in
    c.is_path_of_any.ensures
    ∙ ((λ j. list_any (λ file. bytes_eq c.args.path.now (path_of (c.name.ensures j) (name_of file))) (list_of (entries_in (c.files.ensures j))))
    ∙ (sym (any_map (bytes_eq c.args.path.now) (λ file. path_of (name_of d) (name_of file)) (files_in d))
    ∙ ap (λ v. list_any (bytes_eq c.args.path.now) (paths_of_folder_files v)) (c.get-folder.ensures ∙ ap (entry_at_index (list_value c.args.folders.now)) n)))
