-- The records of the files that packages list (apk-package(5)). The rules are in `docs/formats.md`,
-- "Schemas", tables 4, 5, 7 and 9; the word *record* is defined in `docs/commands.md`, "`audit`".
use Rattle.std.specs.Prelude.{ℕ, List, map}
use Rattle.std.specs.List.{flat_map}
use Rattle.std.specs.Ordering.{on}
use Rattle.std.specs.declared.cmp.Ordering.{Ordering}
use Rattle.path_clashes.specs.adb_fields.Paths.{path_of}
use Rattle.path_clashes.specs.adb_fields.Repeated.{files_in, folders_in, name_of}
use Rattle.adb_view.specs.Plain.{Plain}
use Rattle.base_core.specs.ByteOrder.{bytes_cmp}
use Rattle.base_core.specs.Sorted.{sorted_by}

-- the record of a file that a package lists: its path, and its entry, which has its digest, link target and size
pub record PathAndEntry : Type 0 where
  -- the path of the file
  pub path : List ℕ
  -- the package's entry of the file, as a plain value
  pub entry : Plain

-- the record of a file, given the name of its folder and its entry
abbrev pub file_record : List ℕ → Plain → PathAndEntry
file_record folder entry = record { path = path_of folder (name_of entry); entry = entry }

-- the records of a folder's files, in their order
abbrev pub folder_records : Plain → List PathAndEntry
folder_records folder = map (file_record (name_of folder)) (files_in folder)

-- the records of a package's files, folder by folder
abbrev pub package_records : Plain → List PathAndEntry
package_records pkg = flat_map folder_records (folders_in pkg)

-- the records of the files of all packages, package by package
abbrev pub database_records : List Plain → List PathAndEntry
database_records packages = flat_map package_records packages

-- the order of records: the byte order of their paths
unfoldable pub record_path_cmp : PathAndEntry → PathAndEntry → Ordering
record_path_cmp = on (λ r. r.path) bytes_cmp

-- the records of the files of all packages, in byte order of their paths
unfoldable pub records_by_path : List Plain → List PathAndEntry
records_by_path packages = sorted_by record_path_cmp (database_records packages)
