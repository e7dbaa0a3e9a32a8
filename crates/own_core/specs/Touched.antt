-- Which names a change may write: those of the database and of world, of `.apk-new` files, and of files of added
-- packages. (This is not *touched* of `docs/names.md`.) The laws of `src/laws.rt` cite these definitions; the rules are
-- in `docs/commands.md`, "What a change does with files".
use Rattle.std.specs.Prelude.{◌≡◌, ℕ, Bool, true, false, ◌&&◌, ◌||◌, List, Some, is_some, option_and_then, bytes_eq}
use Rattle.std.specs.List.{list_any}
use Rattle.base_core.specs.Files.{Files}
use Rattle.file_owners.specs.db_core.Members.{Listing}
use Rattle.adb_view.specs.Plain.{Plain}
use Rattle.file_guard.specs.AsListed.{are_sizes_hashes_targets_equal, is_as_listed}
use Rattle.own_core.specs.Fate.{is_protected_path}
use Rattle.own_core.specs.FileChange.{FileChange, added_owner_listing, old_file_entry}
use Rattle.own_core.specs.FilesAfter.{DatabaseAndWorldAfter, database_name, listing_written_as_apk_new_beside, path_of_apk_new_name, text_database_name, world_name, listing_written_under_name}
use Rattle.own_core.specs.NamesAfter.{added_paths}
use Rattle.own_core.specs.PlanLists.{FileWrite, file_write_under_name}

-- whether the name is that of the database, of world, or, if a text database is converted, of the text database
abbrev pub is_old_or_new_database_or_world_name : DatabaseAndWorldAfter → List ℕ → Bool
is_old_or_new_database_or_world_name records name =
    bytes_eq name database_name
    || (bytes_eq name world_name || (records.takes_text_over && bytes_eq name text_database_name))

-- whether the name is that of an `.apk-new` file that the change writes
abbrev pub is_name_of_written_apk_new_file : FileChange → Files → List ℕ → Bool
is_name_of_written_apk_new_file change files name =
    is_some (option_and_then (listing_written_as_apk_new_beside change files) (path_of_apk_new_name name))

-- whether an added package lists the path
abbrev pub is_added_path : FileChange → List ℕ → Bool
is_added_path change path = list_any (bytes_eq path) (added_paths change.members)

-- The path has a configuration file that the user changed, with these bytes: the path is protected, and the bytes are
-- neither as the added package that owns the path lists them, nor as a package listed them before.
pub record IsModifiedConfigFile (change : FileChange) (files : Files) (path bytes : List ℕ) : Type 0 where
  -- the path is protected: it is below `etc/`
  pub guarded : is_protected_path path ≡ true
  -- the file exists and has these bytes
  pub present : files path ≡ Some bytes
  -- if an added package owns the path, its entry does not describe these bytes
  pub unlike_new : (l : Listing) → added_owner_listing change path ≡ Some l
      → is_as_listed l.entry bytes ≡ false
  -- if a package listed the path before, its entry does not describe these bytes
  pub unlike_old : (entry : Plain) → old_file_entry change path ≡ Some entry
      → is_as_listed entry bytes ≡ false

-- if a package listed the path before the change, its entry describes other bytes than the given entry
abbrev pub DiffersFromOldEntryIfAny : FileChange → List ℕ → Plain → Type 0
DiffersFromOldEntryIfAny change path entry =
    (old : Plain) → old_file_entry change path ≡ Some old → are_sizes_hashes_targets_equal old entry ≡ false

-- the write is one of the change: a listed file is written under its name, and it has the contents of this file
pub record IsPlannedWrite (change : FileChange) (files : Files) (write : FileWrite) : Type 0 where
  -- the listing of the written file by a member
  pub listing : Listing
  -- this listing is written under the name of the write
  pub written : listing_written_under_name change files write.name ≡ Some listing
  -- the write has the member, the folder and the file of this listing
  pub shown : write ≡ file_write_under_name write.name listing
