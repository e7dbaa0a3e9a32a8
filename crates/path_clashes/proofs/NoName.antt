-- What is no name is not there after a change.
use Rattle.std.proofs.Common.{◌≡◌, inl, Bool, false, ℕ, List, None, map, refl, sym, ap, ◌∙◌, true≢false}
use Rattle.std.specs.Prelude.{not, ◌&&◌, is_some}
use Rattle.std.specs.List.{All}
use Rattle.std.proofs.lemmas.Bool.{and_left, false_from_ne_true, or_from}
use Rattle.adb_fields.specs.JoinedPath.{joined_path}
use Rattle.adb_fields.specs.declared.file_path.FilePath.{FilePath}
use Rattle.base_core.specs.Name.{IsName, is_name}
use Rattle.base_core.specs.Tree.{IsWellFormed, TreeState, files_of}
use Rattle.path_clashes.specs.Clash.{is_present_after_change}
use Rattle.path_clashes.specs.NearName.{name_if_holds}
use Rattle.path_clashes.specs.WrittenPaths.{name_change_of_paths, is_one_of_paths}
use Rattle.path_clashes.proofs.Below.{is_present}
use Rattle.path_clashes.proofs.Paths.{path_is_name}

absent : (v : TreeState) (name : List ℕ) → IsWellFormed v → is_name name ≡ false → is_some (files_of v name) ≡ false
absent v name whole off =
    false_from_ne_true (is_some (files_of v name)) (λ some. true≢false (sym (whole.named v.names (inl refl) name (is_present v.files (v.names name) some)) ∙ off))

pub not_a_path : (paths : List FilePath) (name : List ℕ) → All IsName (map joined_path paths) → is_name name ≡ false → is_one_of_paths paths name ≡ false
not_a_path paths name names off = false_from_ne_true (is_one_of_paths paths name) (λ any. true≢false (sym (path_is_name paths name names any) ∙ off))

pub no_name_after : (paths : List FilePath) (does_release : List ℕ → Bool) (v : TreeState) (name : List ℕ) → All IsName (map joined_path paths) → IsWellFormed v → is_name name ≡ false
    → None ≡ name_if_holds (is_present_after_change (name_change_of_paths paths does_release) (files_of v) name) name
no_name_after paths does_release v name names whole off =
    sym (ap (λ b. name_if_holds b name) (or_from (is_some (files_of v name) && not (does_release name)) (is_one_of_paths paths name) (and_left (is_some (files_of v name)) (not (does_release name)) (absent v name whole off)) (not_a_path paths name names off)))
