-- The value of a package (apk-v3(5)) and the contents of its files, given what was read.
-- The rules are in `docs/commands.md`, "`mkpkg`" (modes, users, sizes, links), and in
-- `docs/formats.md`: "Schemas", tables 2, 4, 5, 6 and 7 (the fields in their order), and "The other
-- blocks" (contents).
use Rattle.std.specs.Prelude.{ℕ, ◌+◌, ◌*◌, ◌^◌, ◌==◌, nat_lt, Bool, not, ◌&&◌, if◌then◌else◌, List, [], ◌∷◌, ◌++◌, length, take, drop, map, codes, bytes_eq, sum_by, Option}
use Rattle.std.specs.Str.{is_utf8}
use Rattle.sha2.specs.Sha256.{sha256}
use Rattle.adb_view.specs.Plain.{Plain, Plains, null, int, none, more, blob_or_null, array_or_null, trimmed_object_or_null}
use Rattle.adb_sound.specs.pkg_core.Contents.{Contents}
use Rattle.command_core.specs.Values.{script_types}
use Rattle.make_info.specs.Values.{number_or_null, plains_of_list, size_or_null_if_zero}
use Rattle.package_files.specs.declared.file.FileKind.{FileKind}
use Rattle.package_files.specs.declared.file.FileKind.TheVariants.{Link, Regular}

-- a file that was read: the last part of its path, and its bytes
pub record SourceFileNameAndBytes : Type 0 where
  -- the last part of the file's path
  pub name : List ℕ
  -- the bytes that were read of the file
  pub bytes : List ℕ

-- a folder that was read: its name in the package, and its files
pub record SourceFolder : Type 0 where
  -- the folder's name in the package
  pub name : List ℕ
  -- the files directly in this folder
  pub files : List SourceFileNameAndBytes

-- a script that was read: its type, which is its field's name, and its bytes
pub record Script : Type 0 where
  -- the name of the script's field
  pub field : List ℕ
  -- the bytes of the script's file
  pub bytes : List ℕ

-- ---- files

-- the bytes with which a file begins that represents a symbolic link
abbrev pub symlink_file_prefix : List ℕ
symlink_file_prefix = codes "!<symlink>"

-- the text of the link that a file with these bytes represents: the bytes after the mark
abbrev pub link_text : List ℕ → List ℕ
link_text bytes = drop (length symlink_file_prefix) bytes

-- whether the bytes of a file are those of a link: its mark, and a text of UTF-8 that is not empty
unfoldable pub is_link_file : List ℕ → Bool
is_link_file bytes =
    bytes_eq (take (length symlink_file_prefix) bytes) symlink_file_prefix
    && not (length bytes == length symlink_file_prefix)
    && is_utf8 (link_text bytes)

-- the kind of a file with these bytes. A symbolic link has its target: the kind 0xa000 as two
-- little-endian bytes, and the text. A regular file has its size and its SHA-256
unfoldable pub kind_of_file : List ℕ → FileKind
kind_of_file bytes =
    if is_link_file bytes then Link (0 ∷ 160 ∷ link_text bytes)
    else Regular (length bytes) (sha256 bytes)

-- the size of a file in its entry; a link has the size 0
abbrev pub size_of_kind : FileKind → ℕ
size_of_kind (Link target) = 0
size_of_kind (Regular size hash) = size

-- the hash of a file in its entry; a link has none
abbrev pub hash_of_kind : FileKind → List ℕ
hash_of_kind (Link target) = []
hash_of_kind (Regular size hash) = hash

-- the target of a file in its entry; a file that is no link has an empty one
abbrev pub target_of_kind : FileKind → List ℕ
target_of_kind (Link target) = target
target_of_kind (Regular size hash) = []

-- the access list that `mkpkg` gives: this mode, and `root` as user and group
abbrev pub access_value : ℕ → Plain
access_value mode =
    trimmed_object_or_null
    (more (int mode) (more (blob_or_null (codes "root")) (more (blob_or_null (codes "root")) none)))

-- the mode that `mkpkg` gives a file: octal 644, by its digits (all may read, and root may write);
-- it is 420
abbrev pub FILE_MODE : ℕ
FILE_MODE = 6 * 8 ^ 2 + 4 * 8 + 4

-- the mode that `mkpkg` gives a folder: octal 755, by its digits (all may read and enter, and root
-- may write); it is 493
abbrev pub FOLDER_MODE : ℕ
FOLDER_MODE = 7 * 8 ^ 2 + 5 * 8 + 5

-- the fields of the entry of a file with this name and kind: name, access list, size, time (which is left
-- out), hash and target
abbrev pub file_fields : List ℕ → FileKind → Plains
file_fields name kind =
    more (blob_or_null name) (more (access_value FILE_MODE) (more (size_or_null_if_zero (size_of_kind kind))
    (more null (more (blob_or_null (hash_of_kind kind))
    (more (blob_or_null (target_of_kind kind)) none)))))

-- the entry of a file, given its name and its kind
abbrev pub value_of_kind : List ℕ → FileKind → Plain
value_of_kind name kind = trimmed_object_or_null (file_fields name kind)

-- the entry of a file that was read, made of its bytes
abbrev pub value_of_file : SourceFileNameAndBytes → Plain
value_of_file file = value_of_kind file.name (kind_of_file file.bytes)

-- the fields of the entry of a folder with this name: name, access list, and the entries of its files
abbrev pub folder_fields : List ℕ → List Plain → Plains
folder_fields name files =
    more (blob_or_null name) (more (access_value FOLDER_MODE)
    (more (array_or_null (plains_of_list files)) none))

-- the entry of a folder with this name and these entries of its files
abbrev pub folder_with : List ℕ → List Plain → Plain
folder_with name files = trimmed_object_or_null (folder_fields name files)

-- the entry of a folder that was read, made of the bytes of its files
abbrev pub value_of_folder : SourceFolder → Plain
value_of_folder folder = folder_with folder.name (map value_of_file folder.files)

-- the sum of the sizes of a folder's files
abbrev pub size_of_folder : SourceFolder → ℕ
size_of_folder folder =
    sum_by (λ (file : SourceFileNameAndBytes). size_of_kind (kind_of_file file.bytes)) folder.files

-- the installed size of a package: the sum of the sizes of all files, links as 0
abbrev pub installed_size : List SourceFolder → ℕ
installed_size folders = sum_by size_of_folder folders

-- ---- scripts

-- the bytes of the first script of the type `field`; empty if there is no script of this type
abbrev pub script_bytes_of_field : List Script → List ℕ → List ℕ
script_bytes_of_field [] field = []
script_bytes_of_field (script ∷ scripts) field =
    if bytes_eq script.field field then script.bytes else script_bytes_of_field scripts field

-- the fields of a package's scripts, in the order of their table; a type without script is Null
abbrev pub script_fields : List Script → Plains
script_fields scripts =
    plains_of_list (map (λ field. blob_or_null (script_bytes_of_field scripts field)) script_types)

-- the scripts of a package as an object; Null if the package has no script at all
abbrev pub value_of_scripts : List Script → Plain
value_of_scripts scripts = trimmed_object_or_null (script_fields scripts)

-- ---- the package

-- the five fields of a package: its information (`info`), the entries of its folders (`paths`), its
-- scripts, its triggers and its optional priority in replacing
abbrev pub package_fields : Plain → List Plain → List Script → List (List ℕ) → Option ℕ → Plains
package_fields info paths scripts triggers priority =
    more info (more (array_or_null (plains_of_list paths)) (more (value_of_scripts scripts)
    (more (array_or_null (plains_of_list (map blob_or_null triggers)))
    (more (number_or_null priority) none))))

-- the value of a package with these five parts
abbrev pub package_with : Plain → List Plain → List Script → List (List ℕ) → Option ℕ → Plain
package_with info paths scripts triggers priority =
    trimmed_object_or_null (package_fields info paths scripts triggers priority)

-- the value of a package, given its information, the folders and scripts that were read, its triggers and
-- its priority in replacing
abbrev pub value_of_package :
    Plain → List SourceFolder → List Script → List (List ℕ) → Option ℕ → Plain
value_of_package info folders scripts triggers priority =
    package_with info (map value_of_folder folders) scripts triggers priority

-- ---- the contents after it: of each regular file that is not empty, in order, with the positions of
-- its folder and of itself, from 1

-- whether a file has a block of contents of its own: a regular file that is not empty has; a link
-- and an empty file have none
abbrev pub has_contents : FileKind → Bool
has_contents kind = nat_lt 0 (size_of_kind kind)

-- the contents of a file with these bytes: `folder` is the position of its folder, and `i` its position
-- in this folder. The list is empty if the file has no block of contents
abbrev pub contents_of_file : ℕ → ℕ → List ℕ → List Contents
contents_of_file folder i bytes =
    if has_contents (kind_of_file bytes) then
    record { folder = folder; file = i; bytes = bytes } ∷ [] else []

-- the contents of these files of the folder with the position `folder`; the first of the files has the
-- position `i` in it
abbrev pub contents_of_files : ℕ → ℕ → List SourceFileNameAndBytes → List Contents
contents_of_files folder i [] = []
contents_of_files folder i (file ∷ files) =
    contents_of_file folder i file.bytes ++ contents_of_files folder (i + 1) files

-- the contents of the files of folders, in the order of their blocks; the first of the folders has
-- the position `i`
abbrev pub contents_of_folders : ℕ → List SourceFolder → List Contents
contents_of_folders i [] = []
contents_of_folders i (folder ∷ folders) =
    contents_of_files i 1 folder.files ++ contents_of_folders (i + 1) folders
