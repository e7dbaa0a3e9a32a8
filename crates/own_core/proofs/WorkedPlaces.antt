-- Rows that are worked by hand: one folder with two files, of which one has contents.
use Rattle.std.proofs.Common.{◌≡◌, ℕ, List, [], ◌∷◌, refl, codes, false}
use Rattle.adb_view.specs.Plain.{Plain}
use Rattle.base_core.specs.Files.{no_names}
use Rattle.file_owners.specs.db_core.Members.{Listing, listings_of_path, member_of_added, listing_of_file_entry, listings_of_members}
use Rattle.file_owners.specs.path_claims.Contest.{member_beating_all_others}
use Rattle.file_guard.specs.pkg_core.Contents.{Contents}
use Rattle.file_owners.specs.Owners.{claims_in, owner_of_path}
use Rattle.own_core.specs.Fate.{fate_of}
use Rattle.own_core.specs.FileChange.{FileChange, is_listed_after_change, old_file_entry, old_listings, owner_listing}
use Rattle.own_core.specs.FilesAfter.{listing_bytes, listing_written_under_name}
use Rattle.own_core.specs.PlanLists.{file_writes_of, sorted_distinct_names}
use Rattle.file_guard.proofs.Sample.{link, plain_file}
use Rattle.own_core.proofs.Sample.{folder, info, package_with}

abbrev two : Plain
two = package_with (info (codes "t") (codes "1") []) (folder (codes "a") (plain_file (codes "x") 0 [] ∷ plain_file (codes "y") 1 [] ∷ []) ∷ [])

abbrev comes : FileChange
comes = record { old = []; members = member_of_added two [] ∷ []; purge = false }

-- ---- where a plan finds the files

two_writes : file_writes_of comes no_names ≡ record { name = codes "a/x"; member = 0; folder = 1; file = 1 } ∷ record { name = codes "a/y"; member = 0; folder = 1; file = 2 } ∷ []
unfolding listings_of_members listings_of_path owner_of_path claims_in member_beating_all_others old_listings old_file_entry is_listed_after_change owner_listing fate_of listing_written_under_name sorted_distinct_names file_writes_of
two_writes = refl

-- ---- what they have

-- the member has these contents: those of the second file
abbrev has_y : ℕ → List Contents
has_y place = record { folder = 1; file = 2; bytes = codes "y" } ∷ []

abbrev listing_at : ℕ → Plain → Listing
listing_at file entry = listing_of_file_entry (member_of_added two []) 0 1 file (codes "a") entry

with_contents : listing_bytes has_y (listing_at 2 (plain_file (codes "y") 1 [])) ≡ codes "y"
unfolding listing_bytes
with_contents = refl

without_contents : listing_bytes has_y (listing_at 1 (plain_file (codes "x") 0 [])) ≡ []
unfolding listing_bytes
without_contents = refl

of_link : listing_bytes has_y (listing_at 2 (link (codes "y") (codes "1"))) ≡ codes "!<symlink>1"
unfolding listing_bytes
of_link = refl
