-- The folders of a package, and the folder of each file below a folder of the tree. The rule is in
-- `docs/commands.md`, "`mkpkg`", part "Files".
use Rattle.std.specs.Prelude.{ℕ, ◌+◌, ◌==◌, Bool, if◌then◌else◌, List, [], ◌∷◌, length, drop, map, filter, bytes_eq}
use Rattle.std.specs.List.{flat_map, before_last, after_last}
use Rattle.std.specs.Ordering.{nat_cmp}
use Rattle.std.specs.Cmp.Lexicographic.{slice_cmp}
use Rattle.std.specs.declared.cmp.Ordering.{Ordering}
use Rattle.std.specs.declared.cmp.Ordering.TheVariants.{Less, Equal, Greater}

-- whether a byte is `/` (47)
abbrev pub is_slash : ℕ → Bool
is_slash b = b == 47

-- the folder of a path: the text before its last `/`; empty for the root
abbrev pub folder_of : List ℕ → List ℕ
folder_of path = before_last is_slash path

-- the last part of a path: the text after its last `/`, or all of it
abbrev pub last_part_of : List ℕ → List ℕ
last_part_of path = after_last is_slash path

-- the texts before each slash of a text that begins with the byte `b`. `folders` are the texts before
-- each slash of the rest of this text. If `b` is a slash, the first of them is empty
abbrev pub prefixes_before_slashes_of_byte_and_rest : ℕ → List (List ℕ) → List (List ℕ)
prefixes_before_slashes_of_byte_and_rest b folders =
    if is_slash b then [] ∷ map (λ folder. b ∷ folder) folders
    else map (λ folder. b ∷ folder) folders

-- the texts before each slash of a text
abbrev pub prefixes_before_slashes : List ℕ → List (List ℕ)
prefixes_before_slashes [] = []
prefixes_before_slashes (b ∷ bs) = prefixes_before_slashes_of_byte_and_rest b (prefixes_before_slashes bs)

-- the folders that contain a path, at any depth: the root, and the text before each slash
abbrev pub folders_above : List ℕ → List (List ℕ)
folders_above path = [] ∷ prefixes_before_slashes path

-- ---- names in byte order, each once

-- the sorted list `x ∷ xs` with a name inserted, given how the name compares with `x` (the first
-- argument). A name that the list already has is not inserted again. `further` is the list `xs` with the
-- name inserted
abbrev pub with_folder_inserted_by_cmp_with_first :
    Ordering → List ℕ → List ℕ → List (List ℕ) → List (List ℕ) → List (List ℕ)
with_folder_inserted_by_cmp_with_first Less name x xs further = name ∷ x ∷ xs
with_folder_inserted_by_cmp_with_first Equal name x xs further = x ∷ xs
with_folder_inserted_by_cmp_with_first Greater name x xs further = x ∷ further

-- a sorted list of names with this name inserted, unless the list has it already
abbrev pub with_folder_inserted : List ℕ → List (List ℕ) → List (List ℕ)
with_folder_inserted name [] = name ∷ []
with_folder_inserted name (x ∷ xs) =
    with_folder_inserted_by_cmp_with_first (slice_cmp nat_cmp name x) name x xs
    (with_folder_inserted name xs)

-- the sorted list `so_far` with the names of the other list inserted, one by one
abbrev pub sorted_folders_with_names_inserted : List (List ℕ) → List (List ℕ) → List (List ℕ)
sorted_folders_with_names_inserted so_far [] = so_far
sorted_folders_with_names_inserted so_far (name ∷ names) =
    sorted_folders_with_names_inserted (with_folder_inserted name so_far) names

-- the names of a list, put into byte order one by one, each once
abbrev pub sorted_names_without_repeats : List (List ℕ) → List (List ℕ)
sorted_names_without_repeats names = sorted_folders_with_names_inserted [] names

-- ---- the folders of a package

-- a folder of a package: its name in the package, and the names in the tree of its files
pub record FolderListing : Type 0 where
  -- the folder's name in the package
  pub name : List ℕ
  -- the names in the tree of the files directly in this folder
  pub files : List (List ℕ)

-- the path of `name` relative to the folder `folder` above it: the name without the folder and the slash
-- after it
abbrev pub path_relative_to : List ℕ → List ℕ → List ℕ
path_relative_to folder name = drop (length folder + 1) name

-- the names of a package's folders, given the paths of its files: the root and each folder that
-- contains a path at any depth, in byte order; no folder if there is no path
abbrev pub all_folders_above : List (List ℕ) → List (List ℕ)
all_folders_above paths = sorted_names_without_repeats (flat_map folders_above paths)

-- those of the names listed below `dir` of the tree whose path relative to `dir` is directly in
-- this folder of the package; their order is kept
abbrev pub tree_names_in_package_folder : List ℕ → List (List ℕ) → List ℕ → List (List ℕ)
tree_names_in_package_folder dir names folder =
    filter (λ name. bytes_eq (folder_of (path_relative_to dir name)) folder) names

-- the listing of a folder of the package: its name `folder`, and the names of its files among `names`,
-- which are listed below `dir` of the tree
abbrev pub folder_listing_by_tree_names : List ℕ → List (List ℕ) → List ℕ → FolderListing
folder_listing_by_tree_names dir names folder =
    record { name = folder; files = tree_names_in_package_folder dir names folder }

-- the listings of all folders of a package, given the names of files that are listed below the folder
-- `dir` of the tree
unfoldable pub folder_listings_by_tree_names : List ℕ → List (List ℕ) → List FolderListing
folder_listings_by_tree_names dir names =
    map (folder_listing_by_tree_names dir names) (all_folders_above (map (path_relative_to dir) names))
