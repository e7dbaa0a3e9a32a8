-- The files after a change, name by name. The rules are in `docs/commands.md`, "What a change does with
-- files", after the three tests.
use Rattle.std.specs.Prelude.{ℕ, ◌-◌, Bool, true, false, not, ◌&&◌, if◌then◌else◌, List, [], ◌∷◌, length, take, Option, Some, None, is_some, option_and_then, bytes_eq, nat_eq}
use Rattle.std.specs.List.{ends_with}
use Rattle.std.specs.Option.{option_or}
use Rattle.adb_view.specs.Plain.{Plain}
use Rattle.base_core.specs.Files.{Files}
use Rattle.file_owners.specs.db_core.Members.{Listing}
use Rattle.file_guard.specs.pkg_core.Contents as Packages
use Rattle.file_guard.specs.AsListed.{has_target, is_as_listed, link_file_bytes_of_entry}
pub use Rattle.root_names.specs.RootNames.{database_name, text_database_name, world_name}
use Rattle.own_core.specs.Fate.{AddedFileFate, apk_new_ending, fate_of, gives_way, goes_aside, goes_in, is_protected_path}
use Rattle.own_core.specs.FileChange.{FileChange, added_owner_listing, is_listed_after_change, old_file_entry, was_listed}

-- ---- what is written

-- the listed file, if the given fate is to be written under its path
abbrev pub if_written_in_place : Listing → AddedFileFate → Option Listing
if_written_in_place l goes_in = Some l
if_written_in_place l gives_way = None
if_written_in_place l goes_aside = None

-- the listed file, if the given fate is to be written aside, as `PATH.apk-new`
abbrev pub if_written_as_apk_new : Listing → AddedFileFate → Option Listing
if_written_as_apk_new l goes_in = None
if_written_as_apk_new l gives_way = None
if_written_as_apk_new l goes_aside = Some l

-- the listed file that is written under this path, which is its own, if there is one
abbrev pub listing_written_in_place : FileChange → Files → List ℕ → Option Listing
listing_written_in_place change files path =
    option_and_then (λ l. if_written_in_place l (fate_of change files l)) (added_owner_listing change path)

-- the listed file with this path that is written aside, as `PATH.apk-new`, if there is one
abbrev pub listing_written_as_apk_new_beside : FileChange → Files → List ℕ → Option Listing
listing_written_as_apk_new_beside change files path =
    option_and_then (λ l. if_written_as_apk_new l (fate_of change files l))
    (added_owner_listing change path)

-- the name without its ending `.apk-new`: the path of the file beside which a file with this name is written. None
-- if the name does not have this ending
abbrev pub path_of_apk_new_name : List ℕ → Option (List ℕ)
path_of_apk_new_name name =
    if ends_with nat_eq name apk_new_ending then Some (take (length name - length apk_new_ending) name)
    else None

-- the listed file that is written under this name, if there is one; the name is the file's path, or this path with
-- `.apk-new`
unfoldable pub listing_written_under_name : FileChange → Files → List ℕ → Option Listing
listing_written_under_name change files name =
    option_or (listing_written_in_place change files name)
    (option_and_then (listing_written_as_apk_new_beside change files) (path_of_apk_new_name name))

-- whether a file of a package is written under this name, which is the file's path, or this path with `.apk-new`
abbrev pub is_listing_written_under_name : FileChange → Files → List ℕ → Bool
is_listing_written_under_name change files name = is_some (listing_written_under_name change files name)

-- ---- what is removed

-- whether there is a file at a path, and the entry does not describe its bytes, which the option has
abbrev pub is_present_and_modified_from_entry : Plain → Option (List ℕ) → Bool
is_present_and_modified_from_entry entry None = false
is_present_and_modified_from_entry entry (Some bytes) = not (is_as_listed entry bytes)

-- Whether the file at the path, which no package lists after the change, is kept: the path is protected, the user
-- changed the file, and there is no `--purge`. `bytes` are the file's bytes, and the last argument is the old entry.
abbrev pub is_modified_config_to_keep : FileChange → List ℕ → Option (List ℕ) → Option Plain → Bool
is_modified_config_to_keep change path bytes None = false
is_modified_config_to_keep change path bytes (Some entry) =
    is_protected_path path && (not change.purge && is_present_and_modified_from_entry entry bytes)

-- whether a package listed the path before the change, no package lists it after the change, and nothing is written
-- there
abbrev pub is_left_over_and_not_written : FileChange → Files → List ℕ → Bool
is_left_over_and_not_written change files path =
    was_listed change path &&
    (not (is_listed_after_change change path) && not (is_listing_written_under_name change files path))

-- whether the user's file at the path is kept although no package lists the path after the change; `files` are those
-- before the change
unfoldable pub is_left_over_modified_file_kept : FileChange → Files → List ℕ → Bool
is_left_over_modified_file_kept change files path =
    is_left_over_and_not_written change files path
    && is_modified_config_to_keep change path (files path) (old_file_entry change path)

-- whether the change removes the file at the path, if there is one; `files` are those before the change
unfoldable pub is_removed : FileChange → Files → List ℕ → Bool
is_removed change files path =
    is_left_over_and_not_written change files path
    && not (is_modified_config_to_keep change path (files path) (old_file_entry change path))

-- ---- the bytes of an added file

-- the bytes of the listed file `l`; `contents` has, for the index of each added member, the contents of the files of
-- its package. A link is written as a file with the link's text
unfoldable pub listing_bytes : (ℕ → List Packages.Contents) → Listing → List ℕ
listing_bytes contents l =
    if has_target l.entry then link_file_bytes_of_entry l.entry
    else Packages.bytes_of_file l.folder l.file (contents l.place)

-- ---- the files after a change

-- the file of world after a change: the first argument is the text of the new world, the second one the file of the
-- old world. If the new world is empty and the old one absent, the new one is absent too
abbrev pub new_world_bytes_unless_empty_and_absent : List ℕ → Option (List ℕ) → Option (List ℕ)
new_world_bytes_unless_empty_and_absent [] None = None
new_world_bytes_unless_empty_and_absent [] (Some old) = Some []
new_world_bytes_unless_empty_and_absent (b ∷ bytes) old = Some (b ∷ bytes)

-- The file after a change under a name that is not that of the database, of world or of the text database. The options
-- are the listed file that is written there and the old file, and `is_gone` says whether the old file is removed.
abbrev pub bytes_after_write_or_removal : (Listing → List ℕ) → Option Listing → Bool → Option (List ℕ)
    → Option (List ℕ)
bytes_after_write_or_removal bytes_of (Some l) is_gone old = Some (bytes_of l)
bytes_after_write_or_removal bytes_of None true old = None
bytes_after_write_or_removal bytes_of None false old = old

-- the files after a change that are not those of packages: the new database, the new world, and the text database
pub record DatabaseAndWorldAfter : Type 0 where
  -- the bytes of the new database
  pub database : List ℕ
  -- the bytes of the new world
  pub world : List ℕ
  -- whether a text database is converted, that is, its packages are written to the new database and it is removed
  pub takes_text_over : Bool

-- The files after a change, name by name; `files` are those before it. `bytes_of` gives the bytes of a listed file, and
-- `records` the database and world. Names that are neither written nor removed have the same file as before.
unfoldable pub files_after_change : FileChange → (Listing → List ℕ) → DatabaseAndWorldAfter → Files → Files
files_after_change change bytes_of records files name =
    if bytes_eq name database_name then Some records.database
    else if bytes_eq name world_name then new_world_bytes_unless_empty_and_absent records.world (files name)
    else if records.takes_text_over && bytes_eq name text_database_name then None
    else bytes_after_write_or_removal bytes_of (listing_written_under_name change files name)
    (is_removed change files name)
    (files name)
