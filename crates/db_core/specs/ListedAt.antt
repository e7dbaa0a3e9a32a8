-- The place of a file that members list.
-- Positions count as in `docs/formats.md`, "The other blocks". Serves the law
-- `listings_are_at_their_places`.
use Rattle.std.specs.Prelude.{◌≡◌, ◌≤◌, ◌-◌, List, Some, slice_get}
use Rattle.adb_view.specs.Plain.{Plain}
use Rattle.pkg_core.specs.adb_fields.Paths.{path_of}
use Rattle.pkg_core.specs.adb_fields.Repeated.{name_of, folders_in, files_in}
use Rattle.db_core.specs.Members.{Listing, Member}

-- a listing is at its places: its member among the members, counted from 0, its folder in the member's
-- package and its file in the folder, counted from 1; its path is that of folder and file
pub record IsListedAt (members : List Member) (l : Listing) : Type 0 where
  -- the folder that contains the file
  pub above : Plain
  -- the member is at the listing's place, counted from 0
  pub member : slice_get members l.place ≡ Some l.member
  -- the place of the folder is counted from 1
  pub folder_from : 1 ≤ l.folder
  -- the folder is at this place in the member's package
  pub folder : slice_get (folders_in l.member.pkg) (l.folder - 1) ≡ Some above
  -- the place of the file is counted from 1
  pub file_from : 1 ≤ l.file
  -- the entry is at this place in the folder
  pub file : slice_get (files_in above) (l.file - 1) ≡ Some l.entry
  -- the path is that of the folder and the file's name
  pub path : l.path ≡ path_of (name_of above) (name_of l.entry)
