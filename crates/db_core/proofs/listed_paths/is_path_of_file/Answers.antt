use Rattle.std.proofs.Common.{◌≡◌, ◌+◌, ◌-◌, ◌∙◌, ap, arith}
use Rattle.std.specs.Prelude.{bytes_eq}
use Rattle.pkg_core.specs.adb_fields.ListValue.{list_value}
use Rattle.pkg_core.specs.adb_fields.Paths.{path_of}
use Rattle.pkg_core.specs.adb_fields.Repeated.{name_of}
use Rattle.adb_view.specs.Values.{entry_at_index}
use Rattle.db_core.proofs.listed_paths.is_path_of_file.Goals as goal

pub returns : goal.returns
returns c =
    let n : c.args.i + 1 - 1 ≡ c.args.i = omega arith in
    c.is_path.ensures
    ∙ ap (λ t. bytes_eq c.args.path.now (path_of c.args.folder.now t)) (c.name.ensures ∙ ap name_of (c.get.ensures ∙ ap (entry_at_index (list_value c.args.files.now)) n))
