-- Packages worked by hand: their folders, values and files.
use Rattle.std.proofs.Common.{◌≡◌, [], ◌∷◌, refl, codes}
use Rattle.adb_view.specs.Plain.{Plain, none, more, blob_or_null, trimmed_object_or_null}
use Rattle.package_files.specs.Folders.{all_folders_above, folder_of, last_part_of, folder_listings_by_tree_names}

a_path : folder_of (codes "usr/bin/hello") ≡ codes "usr/bin"
a_path = refl

its_part : last_part_of (codes "usr/bin/hello") ≡ codes "hello"
its_part = refl

a_path_in_the_root : folder_of (codes "hello") ≡ []
a_path_in_the_root = refl

its_own_part : last_part_of (codes "hello") ≡ codes "hello"
its_own_part = refl

-- a folder that holds a file at some depth alone stands among the others, in byte order
folders : all_folders_above (codes "a-b/x" ∷ codes "a/b/c" ∷ codes "a/b/d" ∷ []) ≡ [] ∷ codes "a" ∷ codes "a-b" ∷ codes "a/b" ∷ []
folders = refl

no_folders : all_folders_above [] ≡ []
no_folders = refl

their_files : folder_listings_by_tree_names (codes "in") (codes "in/a-b/x" ∷ codes "in/a/b/c" ∷ codes "in/a/b/d" ∷ [])
    ≡ record { name = []; files = [] } ∷ record { name = codes "a"; files = [] } ∷ record { name = codes "a-b"; files = codes "in/a-b/x" ∷ [] } ∷ record { name = codes "a/b"; files = codes "in/a/b/c" ∷ codes "in/a/b/d" ∷ [] } ∷ []
unfolding folder_listings_by_tree_names
their_files = refl

-- a name and a version alone
info : Plain
info = trimmed_object_or_null (more (blob_or_null (codes "a")) (more (blob_or_null (codes "1")) none))
