-- What is done with a file that an added package owns, and with the user's file under its path. The rules are in
-- `docs/commands.md`, "What a change does with files", on files below `etc/`.
use Rattle.std.specs.Prelude.{ℕ, Bool, false, not, ◌&&◌, ◌||◌, if◌then◌else◌, List, ◌++◌, length, nat_le, codes, Option, Some, None, nat_eq}
use Rattle.std.specs.List.{starts_with}
use Rattle.adb_view.specs.Plain.{Plain}
use Rattle.base_core.specs.Files.{Files}
use Rattle.file_owners.specs.db_core.Members.{Listing}
use Rattle.file_guard.specs.AsListed.{are_sizes_hashes_targets_equal, is_as_listed}
use Rattle.own_core.specs.FileChange.{FileChange, is_listed_after_change, old_file_entry}

-- whether a path is a protected configuration file, which the user may change: it is below `etc/`
abbrev pub is_protected_path : List ℕ → Bool
is_protected_path path = starts_with nat_eq path (codes "etc/")

-- the ending of the name under which a package's file is written beside a file that the user modified
abbrev pub apk_new_ending : List ℕ
apk_new_ending = codes ".apk-new"

-- the name under which a package's file is written beside the file at `path` that the user modified
abbrev pub apk_new_name : List ℕ → List ℕ
apk_new_name path = path ++ apk_new_ending

-- whether there is an old entry of a path, the option, and it describes the same bytes as the new entry
abbrev pub agrees_with_old_entry : Option Plain → Plain → Bool
agrees_with_old_entry None entry = false
agrees_with_old_entry (Some old) entry = are_sizes_hashes_targets_equal old entry

-- whether there is an old entry of a path, the option, and it describes these bytes of the file at the path
abbrev pub is_as_old_entry_lists : Option Plain → List ℕ → Bool
is_as_old_entry_lists None bytes = false
is_as_old_entry_lists (Some old) bytes = is_as_listed old bytes

-- what is done with a file of an added package that owns the file's path
pub data AddedFileFate : Type 0 where
  -- the package's file is written under its path
  goes_in : AddedFileFate
  -- the user's file is kept, and the package's file is not written
  gives_way : AddedFileFate
  -- the user's file is kept, and the package's file is written beside it, as `PATH.apk-new`
  goes_aside : AddedFileFate

-- how many bytes a name may have at most
abbrev pub most_name_bytes : ℕ
most_name_bytes = 1024

-- The fate of an added file with this path and entry, if the user modified the file at the path. The added file is
-- written as `PATH.apk-new`, if its entry differs from the old one, no package lists this name after the change, and
-- the name is not too long. Otherwise it is not written.
abbrev pub fate_if_user_modified_file : FileChange → List ℕ → Plain → AddedFileFate
fate_if_user_modified_file change path entry =
    if not (agrees_with_old_entry (old_file_entry change path) entry)
    && (nat_le (length (apk_new_name path)) most_name_bytes
    && not (is_listed_after_change change (apk_new_name path)))
    then goes_aside else gives_way

-- The fate of an added file with this path and entry. The option has the bytes of the file found at the path. The
-- user modified this file if the path is protected and neither the new entry nor the old one describes its bytes.
abbrev pub fate_with_file_found : FileChange → List ℕ → Plain → Option (List ℕ) → AddedFileFate
fate_with_file_found change path entry None = goes_in
fate_with_file_found change path entry (Some bytes) =
    if not (is_protected_path path)
    || (is_as_listed entry bytes || is_as_old_entry_lists (old_file_entry change path) bytes)
    then goes_in else fate_if_user_modified_file change path entry

-- the fate of the listed file `l`, whose member is added and owns its path; `files` are those before the change
unfoldable pub fate_of : FileChange → Files → Listing → AddedFileFate
fate_of change files l = fate_with_file_found change l.path l.entry (files l.path)
