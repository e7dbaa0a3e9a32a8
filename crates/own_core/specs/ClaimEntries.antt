-- The file to which a claim leads, and its entry; and which claims are of added members.
-- Claims and owners are defined in `docs/commands.md`, "Files that several packages list"; folders,
-- files and their entries in `docs/formats.md`, "Schemas", tables 4, 5 and 7. It serves the contracts
-- of this crate.
use Rattle.std.specs.Prelude.{◌≡◌, ℕ, ◌-◌, ◌<◌, ◌≤◌, Bool, false, ◌&&◌, List, Option, Some, None, slice_get}
use Rattle.base_core.specs.Name.{IsName}
use Rattle.adb_view.specs.Plain.{Plain, null}
use Rattle.adb_view.specs.FieldIndexes.{DIR_FILES_INDEX, PACKAGE_PATHS_INDEX}
use Rattle.adb_view.specs.Values.{count_of, entries_in, entry_at_index}
use Rattle.file_guard.specs.adb_schema.Reserved.{is_reserved}
use Rattle.file_owners.specs.db_core.Members.{Member, is_added}
use Rattle.path_claim_lists.specs.path_claims.Claims.{PathClaim, is_owning_member}
use Rattle.file_owners.specs.Owners.{owner_of_path}

-- ---- files

-- the entry of the file at the position `file` in the folder at the position `folder`; positions count from 1, and
-- `folders` is the plain value of a package's list of folders
abbrev pub listed_file_at : Plain → ℕ → ℕ → Plain
listed_file_at folders folder file =
    entry_at_index (entry_at_index (entry_at_index folders (folder - 1)) DIR_FILES_INDEX) (file - 1)

-- the list of folders has a file at these positions, which count from 1
pub record HasFileAt (folders : Plain) (folder file : ℕ) : Type 0 where
  -- the position of the folder is at least 1
  pub folder_low : 0 < folder
  -- the list has a folder at this position
  pub folder_high : folder ≤ count_of (entries_in folders)
  -- the position of the file is at least 1
  pub file_low : 0 < file
  -- the folder has a file at this position
  pub file_high : file ≤ count_of
      (entries_in (entry_at_index (entry_at_index folders (folder - 1)) DIR_FILES_INDEX))

-- ---- claims

-- the list of the folders of a member's package; Null, as if it listed nothing, if there is no member
abbrev pub folders_if_any : Option Member → Plain
folders_if_any None = null
folders_if_any (Some m) = entry_at_index m.pkg PACKAGE_PATHS_INDEX

-- the entry of the file of the claim, in the package of the member whose index the claim has
unfoldable pub claim_entry : List Member → PathClaim → Plain
claim_entry members c = listed_file_at (folders_if_any (slice_get members c.member)) c.folder c.file

-- the claim is of a file of one of the members, and its path is a name of a tree
pub record IsClaimOf (members : List Member) (c : PathClaim) : Type 0 where
  -- the member of the claim
  pub member : Member
  -- the member has the index that the claim has
  pub at : slice_get members c.member ≡ Some member
  -- the member's package has a file at the positions that the claim has
  pub place : HasFileAt (entry_at_index member.pkg PACKAGE_PATHS_INDEX) c.folder c.file
  -- the path is a name of a tree
  pub name : IsName c.path

-- each of these claims is of a file of one of the members
abbrev pub AreClaimsOf : List Member → List PathClaim → Type 0
AreClaimsOf members cs = (i : ℕ) (c : PathClaim) → slice_get cs i ≡ Some c → IsClaimOf members c

-- ---- added members

-- whether there is a member, and it is added
abbrev pub is_added_if_any : Option Member → Bool
is_added_if_any None = false
is_added_if_any (Some m) = is_added m

-- whether there is a member with this index, and it is added
abbrev pub is_added_at : List Member → ℕ → Bool
is_added_at members place = is_added_if_any (slice_get members place)

-- whether the claim is that of an added member, and its path is reserved
abbrev pub is_added_and_reserved : List Member → PathClaim → Bool
is_added_and_reserved members c = is_reserved c.path && is_added_at members c.member

-- whether the claim's member owns the claim's path, and is added
unfoldable pub is_of_added_owner : List Member → PathClaim → Bool
is_of_added_owner members c =
    is_owning_member c.member (owner_of_path members c.path) && is_added_at members c.member
