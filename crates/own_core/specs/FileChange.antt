-- The packages before a change and after it, and the files that each of them lists. `docs/commands.md`,
-- "Files that several packages list", says who owns a path.
use Rattle.std.specs.Prelude.{ℕ, ◌==◌, Bool, List, map, Option, Some, None, option_map, option_and_then, is_some, bytes_eq, if◌then◌else◌}
use Rattle.std.specs.List.{find, list_any}
use Rattle.adb_view.specs.Plain.{Plain}
use Rattle.file_owners.specs.db_core.Members.{Listing, Member, listings_of_path, is_added, listings_of_members, member_of_kept}
use Rattle.file_owners.specs.Owners.{owner_of_path}

-- a change of packages, as far as it determines what is done with files
pub record FileChange : Type 0 where
  -- the packages of the database before the change
  pub old : List Plain
  -- the packages that are installed after the change
  pub members : List Member
  -- whether configuration that the user changed is removed with its package (`--purge`)
  pub purge : Bool

-- ---- the packages before the change

-- the files that the packages before the change list, in the order of packages, folders and files
unfoldable pub old_listings : FileChange → List Listing
old_listings change = listings_of_members (map member_of_kept change.old)

-- the entry for the path in the packages before the change, of which at most one lists the path
unfoldable pub old_file_entry : FileChange → List ℕ → Option Plain
old_file_entry change path =
    option_map (λ l. l.entry) (find (λ l. bytes_eq l.path path) (old_listings change))

-- whether a package before the change lists the path
abbrev pub was_listed : FileChange → List ℕ → Bool
was_listed change path = is_some (old_file_entry change path)

-- ---- the packages after the change

-- whether a package after the change lists the path
unfoldable pub is_listed_after_change : FileChange → List ℕ → Bool
is_listed_after_change change path =
    list_any (λ l. bytes_eq l.path path) (listings_of_members change.members)

-- the listing of a path by the member that owns it; None if no member owns it
unfoldable pub owner_listing : FileChange → List ℕ → Option Listing
owner_listing change path =
    option_and_then (λ place. find (λ l. l.place == place) (listings_of_path change.members path))
    (owner_of_path change.members path)

-- the listed file, if there is one and its member is added; None if the member is kept, since the files of kept
-- packages are not written
abbrev pub if_member_added : Option Listing → Option Listing
if_member_added None = None
if_member_added (Some l) = if is_added l.member then Some l else None

-- the listing of the path by the member that owns it, if this member is added
abbrev pub added_owner_listing : FileChange → List ℕ → Option Listing
added_owner_listing change path = if_member_added (owner_listing change path)
