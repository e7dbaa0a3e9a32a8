-- The path of a package's file, beside the index that has the package. The rule is in
-- `docs/commands.md`, "`add` and `del`", part "What is read".
use Rattle.std.specs.Prelude.{ℕ, ◌==◌, Bool, if◌then◌else◌, List, [], ◌∷◌, ◌++◌, codes, Option, Some, None}
use Rattle.std.specs.List.{list_any}
use Rattle.base_core.specs.Name.{is_name}

-- whether a path has a slash (47), so that there is a folder above it
abbrev pub has_slash : List ℕ → Bool
has_slash path = list_any (λ b. b == 47) path

-- the folder of a path: its bytes up to the last slash, with this slash; empty if there is none
abbrev pub path_up_to_last_slash : List ℕ → List ℕ
path_up_to_last_slash [] = []
path_up_to_last_slash (b ∷ bytes) = if has_slash (b ∷ bytes) then b ∷ path_up_to_last_slash bytes else []

-- the last part of the path of a package's file: NAME-VERSION.apk
abbrev pub package_file_name : List ℕ → List ℕ → List ℕ
package_file_name name version = (name ++ codes "-" ++ version) ++ codes ".apk"

-- the path of the file of the package `name` in this version: NAME-VERSION.apk in the folder of the index, whose path
-- is `index`
abbrev pub package_path : List ℕ → List ℕ → List ℕ → List ℕ
package_path index name version = path_up_to_last_slash index ++ package_file_name name version

-- the path, if it is a valid name, else None: a path of more than 1,024 bytes, for example, is no valid name
abbrev pub path_if_valid_name : List ℕ → Option (List ℕ)
path_if_valid_name path = if is_name path then Some path else None
