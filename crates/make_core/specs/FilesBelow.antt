-- The files of a package: those below a folder of a tree. The rule is in `docs/commands.md`, "`mkpkg`":
-- "With `-F DIR`, the package contains all files below DIR, at their paths relative to DIR". Serves the
-- law `a_made_package_has_the_files_below_its_folder`.
use Rattle.std.specs.Prelude.{◌≡◌, ℕ, List, ◌∷◌, ◌++◌, map, Some, All}
use Rattle.std.specs.List.Sorted.{IsPermutation}
use Rattle.base_core.specs.Files.{Files}
use Rattle.adb_view.specs.Plain.{Plain}
use Rattle.adb_copy.specs.adb_fields.Paths.{path_of}
use Rattle.adb_copy.specs.adb_fields.Repeated.{files_in, folders_in, name_of, paths_of_package_files}
use Rattle.package_files.specs.Folders.{path_relative_to}
use Rattle.package_files.specs.Package.{value_of_file}

-- the name in the tree of a path below the folder `dir`: the folder, a slash (47) and the path
abbrev pub path_joined_to_folder : List ℕ → List ℕ → List ℕ
path_joined_to_folder dir path = dir ++ 47 ∷ path

-- the file `file`, in the folder `folder` of a package, is made of the bytes that the tree has under its
-- path below the folder `dir` of the tree
pub record IsFileBelow (files : Files) (dir folder : List ℕ) (file : Plain) : Type 0 where
  -- the bytes of the file in the tree
  pub bytes : List ℕ
  -- the tree has these bytes under the path of the file below `dir`
  pub located : files (path_joined_to_folder dir (path_of folder (name_of file))) ≡ Some bytes
  -- the file of the package is the value made of its name and these bytes
  pub is : file ≡ value_of_file (record { name = name_of file; bytes = bytes })

-- the package has exactly the files of these names, each once. The names are below the folder `dir` of
-- the tree, and each file of the package is made of the bytes under its name
pub record HasJustNamedFilesBelowFolder (files : Files) (dir : List ℕ) (names : List (List ℕ))
    (pkg : Plain) :
    Type 0 where
  -- the names, relative to the folder `dir`, are the paths of the package, in any order
  pub paths : IsPermutation (map (path_relative_to dir) names) (paths_of_package_files pkg)
  -- each file of each folder is made of the bytes under its path
  pub each : All (λ folder. All (IsFileBelow files dir (name_of folder)) (files_in folder))
      (folders_in pkg)
