use Rattle.std.proofs.Common.{◌∙◌, rules}
use Rattle.std.proofs.lemmas.Fn.{always_returns_same}
use Rattle.adb_fields.specs.JoinedPath.{joined_path}
use Rattle.adb_fields.specs.declared.file_path.FilePath.{FilePath}
use Rattle.base_core.specs.ByteOrder.{bytes_cmp}
use Rattle.path_clashes.proofs.Paths.{searched_paths}
use Rattle.path_clashes.proofs.near.is_one_of_paths.Goals as goal

pub returns : goal.returns
returns c =
    let found = c.binary_search_by.ensures.position (λ (p : FilePath). bytes_cmp (joined_path p) c.args.name.now) (always_returns_same _ _ _ (λ a r f k. search rules)) in
    c.is_ok.ensures.value ∙ searched_paths c.args.paths.now c.args.name.now c.binary_search_by.result c.requires c.binary_search_by.ensures.bound found
