-- What a package is made of, as reads find it: the script files, and the files of each folder.
-- The rules are in `docs/commands.md`, "`mkpkg`": TYPE:FILE of `-s`, the files below the folder of
-- `-F`, and the place at which an absent file is reported.
use Rattle.std.specs.Prelude.{ℕ, ◌+◌, ◌==◌, List, [], ◌∷◌, length, map, filter, Option, Some, None, Result, Ok, Err}
pub use Rattle.base_core.specs.Lists.{and_then}
use Rattle.base_core.specs.Listed.{AreSortedAndEachBelowFolder}
use Rattle.command_core.specs.Values.{script_type, script_file}
use Rattle.command_core.specs.Files.{without_one_leading_dot_slash}
use Rattle.command_core.specs.declared.values.OptionValue.{OptionValue}
use Rattle.make_info.specs.Reads.{Reads}
use Rattle.make_info.specs.declared.fault.MakeFault.{MakeFault}
use Rattle.make_info.specs.declared.fault.MakeFault.TheVariants.{FileMissing}
use Rattle.package_files.specs.Folders.{last_part_of, FolderListing, folder_listings_by_tree_names}
use Rattle.package_files.specs.Package.{SourceFileNameAndBytes, SourceFolder, Script}

-- the bytes that a read found, or, if it found no file, the error that names the argument at this place
-- of the command line
abbrev pub found_bytes_or_missing : ℕ → Option (List ℕ) → Result (List ℕ) MakeFault
found_bytes_or_missing place None = Err (FileMissing place)
found_bytes_or_missing place (Some bytes) = Ok bytes

-- the results of `of` for the elements of a list, or the first error. `of` gets the number of the
-- first read of its element, and `count` says how many reads the element needs
abbrev pub results_from_read :
    {X Y : Type 0} → (X → ℕ) → (ℕ → X → Result Y MakeFault) → ℕ → List X → Result (List Y) MakeFault
results_from_read count of n [] = Ok []
results_from_read count of n (x ∷ xs) =
    and_then (of n x)
    (λ y. and_then (results_from_read count of (n + count x) xs) (λ ys. Ok (y ∷ ys)))

-- ---- the values of options

-- the values of the option with this letter, in the order given
abbrev pub values_of_letter : ℕ → List OptionValue → List OptionValue
values_of_letter letter values = filter (λ (v : OptionValue). v.letter == letter) values

-- the texts of these values of an option, such as TYPE:FILE or a pattern
abbrev pub texts_of : List OptionValue → List (List ℕ)
texts_of values = map (λ (v : OptionValue). v.text) values

-- the names are names below the folder that the first of these values of `-F` gives, in byte order and
-- each once. Without a value nothing is stated
abbrev pub AreSortedAndEachBelowFirstFolder : List OptionValue → List (List ℕ) → Type 0
AreSortedAndEachBelowFirstFolder [] names = Unit {0}
AreSortedAndEachBelowFirstFolder (folder ∷ others) names =
    AreSortedAndEachBelowFolder (without_one_leading_dot_slash folder.text) names

-- ---- scripts

-- a script of this type, with these bytes
abbrev pub script_with : List ℕ → List ℕ → Script
script_with kind bytes = record { field = kind; bytes = bytes }

-- the script that the value `v` of `-s` gives as TYPE:FILE. The read with the number `n` finds its bytes
-- in FILE. If FILE is absent, its fault
abbrev pub script_at : Reads → ℕ → OptionValue → Result Script MakeFault
script_at read n v =
    and_then (found_bytes_or_missing v.place (read n (without_one_leading_dot_slash (script_file v.text))))
    (λ bytes. Ok (script_with (script_type v.text) bytes))

-- the scripts of these values of `-s`, whose files are read one after the other; the first read has the
-- number `n`. Or the fault of the first value whose file is absent
abbrev pub scripts_from_read : Reads → ℕ → List OptionValue → Result (List Script) MakeFault
scripts_from_read read n values = results_from_read (λ v. 1) (script_at read) n values

-- ---- files

-- the source file with these bytes; its name is the last part of `name`, its name in the tree
abbrev pub source_file_named_by_last_part : List ℕ → List ℕ → SourceFileNameAndBytes
source_file_named_by_last_part name bytes = record { name = last_part_of name; bytes = bytes }

-- the source file under this name in the tree, by the read with the number `n`; if it is absent,
-- the argument at `place` is reported
abbrev pub source_file_at_place_by_read : ℕ → Reads → ℕ → List ℕ → Result SourceFileNameAndBytes MakeFault
source_file_at_place_by_read place read n name =
    and_then (found_bytes_or_missing place (read n name))
    (λ bytes. Ok (source_file_named_by_last_part name bytes))

-- the source files under these names in the tree, which are read one after the other; the first read has
-- the number `n`. If a file is absent, the argument `-F` at `place` is reported
abbrev pub source_files_at_place_from_read : ℕ → Reads → ℕ → List (List ℕ)
    → Result (List SourceFileNameAndBytes) MakeFault
source_files_at_place_from_read place read n names =
    results_from_read (λ name. 1) (source_file_at_place_by_read place read) n names

-- the source folder of a listing, with all its files, which are read one after the other; the first read
-- has the number `n`. If a file is absent, the argument `-F` at `place` is reported
abbrev pub source_folder_at_place_by_read : ℕ → Reads → ℕ → FolderListing → Result SourceFolder MakeFault
source_folder_at_place_by_read place read n folder =
    and_then (source_files_at_place_from_read place read n folder.files)
    (λ files. Ok (record { name = folder.name; files = files }))

-- the source folders of these listings, with all their files, which are read one after the other; the
-- first read has the number `n`. If a file is absent, the argument `-F` at `place` is reported
abbrev pub source_folders_at_place_from_read :
    ℕ → Reads → ℕ → List FolderListing → Result (List SourceFolder) MakeFault
source_folders_at_place_from_read place read n folders =
    results_from_read (λ (folder : FolderListing). length folder.files)
    (source_folder_at_place_by_read place read) n folders

-- the source folders of a package, given the values of `-F`, and the names listed below the folder of the
-- first value. Without `-F` there are no folders. The first read has the number `n`
abbrev pub source_folders_of_first_option_only :
    Reads → ℕ → List OptionValue → List (List ℕ) → Result (List SourceFolder) MakeFault
source_folders_of_first_option_only read n [] names = Ok []
source_folders_of_first_option_only read n (v ∷ vs) names =
    source_folders_at_place_from_read v.place read n
    (folder_listings_by_tree_names (without_one_leading_dot_slash v.text) names)
