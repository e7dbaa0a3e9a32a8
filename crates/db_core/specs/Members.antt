-- The packages after a change, and the files that they list.
-- The rules are in `docs/formats.md`, "The database after a change"; the terms *member* and
-- *listing* in `docs/names.md`, "The installed database and a change of it".
use Rattle.std.specs.Prelude.{ℕ, ◌+◌, ◌==◌, Bool, true, false, List, [], ◌∷◌, ◌++◌, Option, Some, None, is_some, bytes_eq, map}
use Rattle.std.specs.List.{filter}
use Rattle.base_core.specs.Listed.{AreSortedDistinctTexts}
use Rattle.base_core.specs.ByteOrder.{precedes}
use Rattle.adb_view.specs.Plain.{Plain}
use Rattle.pkg_core.specs.adb_fields.Paths.{path_of}
use Rattle.pkg_core.specs.adb_fields.Repeated.{name_of, package_name, folders_in, files_in}

-- a member: a package that is installed after the change; an added one has an id, a kept one has none
pub record Member : Type 0 where
  -- the plain value of the package
  pub pkg : Plain
  -- the id of an added package; none for a kept one
  pub id : Option (List ℕ)

-- the member of a kept package of the database
abbrev pub member_of_kept : Plain → Member
member_of_kept pkg = record { pkg = pkg; id = None }

-- kept packages of the database, as members
abbrev pub members_of_kept : List Plain → List Member
members_of_kept packages = map member_of_kept packages

-- the member of an added package, with its container's id
abbrev pub member_of_added : Plain → List ℕ → Member
member_of_added pkg id = record { pkg = pkg; id = Some id }

-- the name of a member's package
abbrev pub member_name : Member → List ℕ
member_name m = package_name m.pkg

-- whether a member is added; a kept one has no id
abbrev pub is_added : Member → Bool
is_added m = is_some m.id

-- ---- their order

-- members are in byte order of their names, each name once
abbrev pub AreMembersInNameOrder : List Member → Type 0
AreMembersInNameOrder members = AreSortedDistinctTexts (map member_name members)

-- whether a name is after the name of the last of some members; so it is after all their names, if they are in
-- order
abbrev pub is_after_members : List ℕ → List Member → Bool
is_after_members name [] = true
is_after_members name (m ∷ []) = precedes (member_name m) name
is_after_members name (m ∷ n ∷ members) = is_after_members name (n ∷ members)

-- whether `i` is the place that a search has found; false if the search found none
abbrev pub is_found_place : ℕ → Option ℕ → Bool
is_found_place i None = false
is_found_place i (Some found) = found == i

-- ---- their files

-- a listing: a file that a member lists, with its path, its entry and its member. The member's
-- place counts from 0, those of the folder and of the file in it count from 1
pub record Listing : Type 0 where
  -- the path of the file
  pub path : List ℕ
  -- the entry of the file in its folder
  pub entry : Plain
  -- the member that lists the file
  pub member : Member
  -- the place of the member, counted from 0
  pub place : ℕ
  -- the place of the folder in the member's package, counted from 1
  pub folder : ℕ
  -- the place of the file in the folder, counted from 1
  pub file : ℕ

-- the listing of the file `entry` of the member `m`: the member is at the place `place`, and `folder` and `file`
-- are the positions of the folder and the file. `above` is the folder's path
abbrev pub listing_of_file_entry : Member → ℕ → ℕ → ℕ → List ℕ → Plain → Listing
listing_of_file_entry m place folder file above entry = record {
  path = path_of above (name_of entry);
  entry = entry;
  member = m;
  place = place;
  folder = folder;
  file = file;
}

-- the listings of the files (`entries`) of a folder, the first of which has the position `i` in its folder. The
-- member `m` is at the place `place`, `folder` is the position of the folder, and `above` its path
abbrev pub listings_from_member_folder_file_places : Member → ℕ → ℕ → ℕ → List ℕ → List Plain → List Listing
listings_from_member_folder_file_places m place folder i above [] = []
listings_from_member_folder_file_places m place folder i above (entry ∷ entries) =
    listing_of_file_entry m place folder i above entry
    ∷ listings_from_member_folder_file_places m place folder (i + 1) above entries

-- the listings of the files of some folders of the member `m`, which is at the place `place`. The first of these
-- folders has the position `i` in the member's package
abbrev pub listings_in_folders_from : Member → ℕ → ℕ → List Plain → List Listing
listings_in_folders_from m place i [] = []
listings_in_folders_from m place i (folder ∷ folders) =
    listings_from_member_folder_file_places m place i 1 (name_of folder) (files_in folder)
    ++ listings_in_folders_from m place (i + 1) folders

-- the listings of the member at a place, in the order of its folders and files
abbrev pub listings_of_member : ℕ → Member → List Listing
listings_of_member place m = listings_in_folders_from m place 1 (folders_in m.pkg)

-- the listings of members, the first of which has this place
abbrev pub listings_of_members_from : ℕ → List Member → List Listing
listings_of_members_from place [] = []
listings_of_members_from place (m ∷ members) =
    listings_of_member place m ++ listings_of_members_from (place + 1) members

-- all files that members list: member by member, folder by folder
unfoldable pub listings_of_members : List Member → List Listing
listings_of_members members = listings_of_members_from 0 members

-- the listings of a path, one for each member that lists it: its claims
unfoldable pub listings_of_path : List Member → List ℕ → List Listing
listings_of_path members path = filter (λ l. bytes_eq l.path path) (listings_of_members members)
