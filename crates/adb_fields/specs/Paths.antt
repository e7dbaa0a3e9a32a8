-- Paths of files. The rule is in `docs/formats.md`, "Schemas" ("The path of a file").
use Rattle.std.specs.Prelude.{ℕ, List, [], ◌∷◌, ◌++◌}

-- the path of a file, given the names of its folder and of the file: the folder's name, a slash (47), and the file's
-- name; in the root folder, whose name is empty, the file's name alone
abbrev pub path_of : List ℕ → List ℕ → List ℕ
path_of [] name = name
path_of (b ∷ folder) name = (b ∷ folder) ++ (47 ∷ name)
