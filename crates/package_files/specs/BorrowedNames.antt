-- Folders as values of the program.
-- No document has a rule for this: it serves the contracts of `src/folders.rt` and `src/packing.rt`,
-- which borrow names.
use Rattle.std.specs.Prelude.{◌≡◌, ℕ, ◌<◌, ◌==◌, false, List, [], ◌∷◌, length, map, slice_index_or, bytes_eq, Option, Some, None, Vec}
use Rattle.std.specs.Borrow.{Bor}
use Rattle.package_files.specs.Folders.{FolderListing}
use Rattle.std.specs.declared.alloc.Global.{Global}

-- the names in a list that borrows them
abbrev pub names_borrowed : Vec (Bor (List ℕ)) Global → List (List ℕ)
names_borrowed names = map (λ (name : Bor (List ℕ)). name.now) names.items

-- the result of a search for `name` in a list without repeats: the index of the name, counted from 0.
-- None if the list does not have it
abbrev pub IsIndexOf : List ℕ → List (List ℕ) → Option ℕ → Type 0
IsIndexOf name names None =
    (k : ℕ) → k < length names → bytes_eq name (slice_index_or names k []) ≡ false
IsIndexOf name names (Some at) =
    (at < length names)
    × ((k : ℕ) → k < length names → bytes_eq name (slice_index_or names k []) ≡ (k == at))

-- the listings of these folders of a package; `files` has, for each folder, the names in the tree of its
-- files
abbrev pub listings_of :
    List (List ℕ) → List (Vec (Bor (List ℕ)) Global) → List FolderListing
listings_of [] files = []
listings_of (folder ∷ folders) [] = []
listings_of (folder ∷ folders) (names ∷ files) =
    record { name = folder; files = names_borrowed names } ∷ listings_of folders files
