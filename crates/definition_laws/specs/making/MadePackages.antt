-- A package that was made, and its contents in the terms of the format (apk-package(5)). The rules are in
-- `docs/commands.md`, "`mkpkg`", part "Files"; the names of fields in `docs/formats.md`, "Schemas". It
-- serves the laws of `src/packages.rt`.
use Rattle.command_core.specs.declared.values.TheConstants.{FILES, TRIGGER}
use Rattle.std.specs.Prelude.{◌≡◌, ◌↔◌, ◌⊎◌, ◌==◌, ℕ, ◌+◌, ◌*◌, ◌^◌, ◌<◌, List, [], length, map, codes, sum_by, Ok, All}
use Rattle.std.specs.List.{filter, flat_map}
use Rattle.make_core.specs.adb_fields.FirstPair.{IsIn}
use Rattle.make_core.specs.adb_fields.Repeated.{files_in, folders_in, name_of}
use Rattle.make_core.specs.adb_schema.Soundness.{payload_in, root_value_of_payload}
use Rattle.adb_view.specs.Values.{int_in, text_in}
use Rattle.adb_view.specs.declared.tables.Which.TheVariants.{Dir, File, Package, PkgInfo}
use Rattle.adb_view.specs.Plain.{Plain}
use Rattle.base_core.specs.Files.{IsFolderOf}
use Rattle.base_core.specs.Listed.{AreSortedDistinctTexts}
use Rattle.command_core.specs.Command.{CommandLine}
use Rattle.command_core.specs.declared.values.OptionValue.{OptionValue}
use Rattle.make_core.specs.FilesBelow.{path_joined_to_folder}
use Rattle.make_core.specs.make_info.Reads.{Reads}
use Rattle.make_core.specs.Making.{made_package}
use Rattle.make_core.specs.package_files.Sources.{AreSortedAndEachBelowFirstFolder, values_of_letter}
use Rattle.definition_laws.specs.making.NamedFields.{IsAccessOfRoot, entries_of_field_named, field_named}

-- `mkpkg` makes these bytes, fewer than 2^64, from the command, these names below its folder, and these
-- results of reads
pub record IsMadePackage (command : CommandLine) (names : List (List ℕ)) (read : Reads)
    (bytes : List ℕ) : Type 0 where
  -- the names are below the folder of the option `-F`
  pub below : AreSortedAndEachBelowFirstFolder (values_of_letter FILES command.values) names
  -- `mkpkg` answers Ok with these bytes
  pub made : made_package command names read ≡ Ok bytes
  -- the length of the package is below 2^64
  pub short : length bytes < 2 ^ 64

-- the plain value of the package in a container with these bytes
abbrev pub package_in_container : List ℕ → Plain
package_in_container bytes = root_value_of_payload Package (payload_in bytes)

-- ---- folders and files

-- the folders of a package are in byte order of their names, each once, and so are the files of each
pub record HasFoldersAndFilesInByteOrder (pkg : Plain) : Type 0 where
  -- the names of the folders are in byte order, each once
  pub folders : AreSortedDistinctTexts (map name_of (folders_in pkg))
  -- the names of the files of each folder are in byte order, each once
  pub files : All (λ folder. AreSortedDistinctTexts (map name_of (files_in folder))) (folders_in pkg)

-- the folder is above the path: it is the root, or the path is below it, at any depth
abbrev pub IsAbovePath : List ℕ → List ℕ → Type 0
IsAbovePath folder path = (folder ≡ []) ⊎ IsFolderOf folder path

-- the folder of the package is above the path of one of the names. A path is a name without the folder
-- `dir` of the tree
abbrev pub IsAboveOnePath : List ℕ → List (List ℕ) → List ℕ → Type 0
IsAboveOnePath dir names folder =
    (path : List ℕ) × IsIn (path_joined_to_folder dir path) names × IsAbovePath folder path

-- the folders of the package are exactly those above the path of one of the names, which are below the
-- folder `dir` of the tree
abbrev pub HasJustFoldersAbove : List ℕ → List (List ℕ) → Plain → Type 0
HasJustFoldersAbove dir names pkg =
    (folder : List ℕ) → IsIn folder (map name_of (folders_in pkg)) ↔ IsAboveOnePath dir names folder

-- ---- access rights

-- the octal digit of a mode that allows to read a file, or the names in a folder
abbrev pub MAY_READ : ℕ
MAY_READ = 4

-- the octal digit of a mode that allows to change a file, or the names in a folder
abbrev pub MAY_WRITE : ℕ
MAY_WRITE = 2

-- the octal digit of a mode that allows to enter a folder, or to run a file
abbrev pub MAY_ENTER : ℕ
MAY_ENTER = 1

-- the mode from the rights of the user, the group and all others, each an octal digit
abbrev pub mode_of_rights : ℕ → ℕ → ℕ → ℕ
mode_of_rights user group others = 64 * user + 8 * group + others

-- the mode of a file that all may read and its user may write: octal 644
abbrev pub READABLE_FILE_MODE : ℕ
READABLE_FILE_MODE = mode_of_rights (MAY_READ + MAY_WRITE) MAY_READ MAY_READ

-- the mode of a folder that all may read and enter, and its user may write: octal 755
abbrev pub ENTERABLE_FOLDER_MODE : ℕ
ENTERABLE_FOLDER_MODE =
    mode_of_rights (MAY_READ + MAY_WRITE + MAY_ENTER) (MAY_READ + MAY_ENTER) (MAY_READ + MAY_ENTER)

-- the access list of a file says that all may read it and root may write it
abbrev pub IsReadableFile : Plain → Type 0
IsReadableFile file = IsAccessOfRoot READABLE_FILE_MODE (field_named File (codes "acl") file)

-- the access lists of the folder and of its files allow all to enter the folder and to read the files
pub record IsEnterableWithReadableFiles (folder : Plain) : Type 0 where
  -- the folder's access list gives the mode of an enterable folder, and `root` as user and group
  pub itself : IsAccessOfRoot ENTERABLE_FOLDER_MODE (field_named Dir (codes "acl") folder)
  -- each file directly in the folder may be read by all
  pub files : All IsReadableFile (files_in folder)

-- ---- triggers and sizes

-- the triggers of the package are the texts of the values of `-t`, in the order given; `values` are the
-- values of all options
abbrev pub HasTriggersOfOptionsInOrder : List OptionValue → Plain → Type 0
HasTriggersOfOptionsInOrder values pkg =
    map text_in (entries_of_field_named Package (codes "triggers") pkg)
    ≡ map (λ (v : OptionValue). v.text) (filter (λ (v : OptionValue). v.letter == TRIGGER) values)

-- the size that a file's entry gives
abbrev pub listed_file_size : Plain → ℕ
listed_file_size file = int_in (field_named File (codes "size") file)

-- the installed size of a package is the sum of its files' sizes
abbrev pub HasInstalledSizeOfItsFiles : Plain → Type 0
HasInstalledSizeOfItsFiles pkg =
    int_in (field_named PkgInfo (codes "installed-size") (field_named Package (codes "info") pkg))
    ≡ sum_by listed_file_size (flat_map files_in (folders_in pkg))
