-- A change of names, given by the list of the paths that it writes.
-- No document has a rule for this: it serves the contract of `first_clash`, whose paths have their
-- folders and names apart.
use Rattle.std.specs.Prelude.{ℕ, Bool, List, map, bytes_eq}
use Rattle.std.specs.List.{list_any}
use Rattle.adb_fields.specs.JoinedPath.{joined_path}
use Rattle.adb_fields.specs.declared.file_path.FilePath.{FilePath}
use Rattle.path_clashes.specs.Clash.{NameChange}

-- whether one of the paths is this name
abbrev pub is_one_of_paths : List FilePath → List ℕ → Bool
is_one_of_paths paths name = list_any (bytes_eq name) (map joined_path paths)

-- the change of names by which exactly the paths `written` count as written, and `does_release` says which names are
-- released
abbrev pub name_change_of_paths : List FilePath → (List ℕ → Bool) → NameChange
name_change_of_paths written does_release =
    record { counts_as_written = is_one_of_paths written; does_release = does_release }
