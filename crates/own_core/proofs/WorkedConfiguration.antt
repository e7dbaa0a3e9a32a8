-- Rows that are worked by hand: configuration that the user changed.
use Rattle.std.proofs.Common.{◌≡◌, ℕ, Bool, List, [], ◌∷◌, Some, refl, codes, true, false}
use Rattle.adb_view.specs.Plain.{Plain}
use Rattle.base_core.specs.Files.{Files, no_names}
use Rattle.file_owners.specs.db_core.Members.{listings_of_path, member_of_added, listings_of_members}
use Rattle.file_owners.specs.path_claims.Contest.{member_beating_all_others}
use Rattle.file_owners.specs.Owners.{claims_in, owner_of_path}
use Rattle.file_guard.specs.AsListed.{are_sizes_hashes_targets_equal, is_as_listed_by_size_hash_target}
use Rattle.own_core.specs.Fate.{fate_of, is_protected_path}
use Rattle.own_core.specs.FileChange.{FileChange, is_listed_after_change, old_file_entry, old_listings, owner_listing}
use Rattle.own_core.specs.FilesAfter.{DatabaseAndWorldAfter, files_after_change, is_left_over_modified_file_kept, is_removed, listing_written_under_name}
use Rattle.own_core.specs.PlanLists.{paths_with_apk_new_file, file_writes_of, kept_left_over_paths_of, sorted_distinct_names, removals_of}
use Rattle.file_guard.proofs.Sample.{link}
use Rattle.own_core.proofs.Sample.{folder, info, new_bytes, package_with, with_file}

abbrev c : List ℕ → Plain
c version = package_with (info (codes "c") version []) (folder (codes "etc") (link (codes "c.conf") version ∷ []) ∷ [])

abbrev conf : List ℕ
conf = codes "etc/c.conf"

abbrev changed : Files
changed = with_file conf (codes "x")

abbrev unchanged : Files
unchanged = with_file conf (codes "!<symlink>1")

abbrev records : DatabaseAndWorldAfter
records = record { database = []; world = []; takes_text_over = false }

-- ---- another version comes

abbrev upgrade : FileChange
upgrade = record { old = c (codes "1") ∷ []; members = member_of_added (c (codes "2")) [] ∷ []; purge = false }

-- the user's file stays, and the new one lies beside it
aside : paths_with_apk_new_file upgrade changed ≡ conf ∷ []
unfolding listings_of_members listings_of_path owner_of_path claims_in member_beating_all_others old_listings old_file_entry is_listed_after_change owner_listing is_as_listed_by_size_hash_target are_sizes_hashes_targets_equal fate_of listing_written_under_name sorted_distinct_names paths_with_apk_new_file
aside = refl

aside_write : file_writes_of upgrade changed ≡ record { name = codes "etc/c.conf.apk-new"; member = 0; folder = 1; file = 1 } ∷ []
unfolding listings_of_members listings_of_path owner_of_path claims_in member_beating_all_others old_listings old_file_entry is_listed_after_change owner_listing is_as_listed_by_size_hash_target are_sizes_hashes_targets_equal fate_of listing_written_under_name sorted_distinct_names file_writes_of
aside_write = refl

own_file : files_after_change upgrade new_bytes records changed conf ≡ Some (codes "x")
unfolding listings_of_members listings_of_path owner_of_path claims_in member_beating_all_others old_listings old_file_entry is_listed_after_change owner_listing is_as_listed_by_size_hash_target are_sizes_hashes_targets_equal fate_of listing_written_under_name is_removed files_after_change
own_file = refl

file_beside : files_after_change upgrade new_bytes records changed (codes "etc/c.conf.apk-new") ≡ Some (codes "new")
unfolding listings_of_members listings_of_path owner_of_path claims_in member_beating_all_others old_listings old_file_entry is_listed_after_change owner_listing is_as_listed_by_size_hash_target are_sizes_hashes_targets_equal fate_of listing_written_under_name is_removed files_after_change
file_beside = refl

-- also where configuration is to be purged: a package lists it
purged_upgrade : paths_with_apk_new_file (record { old = c (codes "1") ∷ []; members = member_of_added (c (codes "2")) [] ∷ []; purge = true }) changed ≡ conf ∷ []
unfolding listings_of_members listings_of_path owner_of_path claims_in member_beating_all_others old_listings old_file_entry is_listed_after_change owner_listing is_as_listed_by_size_hash_target are_sizes_hashes_targets_equal fate_of listing_written_under_name sorted_distinct_names paths_with_apk_new_file
purged_upgrade = refl

-- unchanged: it is replaced
replaced : file_writes_of upgrade unchanged ≡ record { name = conf; member = 0; folder = 1; file = 1 } ∷ []
unfolding listings_of_members listings_of_path owner_of_path claims_in member_beating_all_others old_listings old_file_entry is_listed_after_change owner_listing is_as_listed_by_size_hash_target are_sizes_hashes_targets_equal fate_of listing_written_under_name sorted_distinct_names file_writes_of
replaced = refl

-- as the new entry lists it: it is replaced too, and nothing is laid beside it
as_new : file_writes_of upgrade (with_file conf (codes "!<symlink>2")) ≡ record { name = conf; member = 0; folder = 1; file = 1 } ∷ []
unfolding listings_of_members listings_of_path owner_of_path claims_in member_beating_all_others old_listings old_file_entry is_listed_after_change owner_listing is_as_listed_by_size_hash_target are_sizes_hashes_targets_equal fate_of listing_written_under_name sorted_distinct_names file_writes_of
as_new = refl

-- ---- nobody listed the path before

abbrev fresh : FileChange
fresh = record { old = []; members = member_of_added (c (codes "2")) [] ∷ []; purge = false }

-- what stands there is the user's
fresh_aside : paths_with_apk_new_file fresh changed ≡ conf ∷ []
unfolding listings_of_members listings_of_path owner_of_path claims_in member_beating_all_others old_listings old_file_entry is_listed_after_change owner_listing is_as_listed_by_size_hash_target are_sizes_hashes_targets_equal fate_of listing_written_under_name sorted_distinct_names paths_with_apk_new_file
fresh_aside = refl

fresh_write : file_writes_of fresh no_names ≡ record { name = conf; member = 0; folder = 1; file = 1 } ∷ []
unfolding listings_of_members listings_of_path owner_of_path claims_in member_beating_all_others old_listings old_file_entry is_listed_after_change owner_listing is_as_listed_by_size_hash_target are_sizes_hashes_targets_equal fate_of listing_written_under_name sorted_distinct_names file_writes_of
fresh_write = refl

-- ---- what is configuration

below_etc : is_protected_path conf ≡ true
below_etc = refl

longer_folder : is_protected_path (codes "etcetera/x") ≡ false
longer_folder = refl

deeper_folder : is_protected_path (codes "usr/etc/x") ≡ false
deeper_folder = refl

-- ---- the package goes

abbrev removal : Bool → FileChange
removal purge = record { old = c (codes "2") ∷ []; members = []; purge = purge }

kept : kept_left_over_paths_of (removal false) changed ≡ conf ∷ []
unfolding listings_of_members listings_of_path owner_of_path claims_in member_beating_all_others old_listings old_file_entry is_listed_after_change owner_listing is_as_listed_by_size_hash_target fate_of listing_written_under_name sorted_distinct_names is_left_over_modified_file_kept kept_left_over_paths_of
kept = refl

not_removed : removals_of (removal false) changed ≡ []
unfolding listings_of_members listings_of_path owner_of_path claims_in member_beating_all_others old_listings old_file_entry is_listed_after_change owner_listing is_as_listed_by_size_hash_target fate_of listing_written_under_name sorted_distinct_names is_removed removals_of
not_removed = refl

purged : removals_of (removal true) changed ≡ conf ∷ []
unfolding listings_of_members listings_of_path owner_of_path claims_in member_beating_all_others old_listings old_file_entry is_listed_after_change owner_listing is_as_listed_by_size_hash_target fate_of listing_written_under_name sorted_distinct_names is_removed removals_of
purged = refl

-- no file stands there: it is removed all the same, and nothing is kept
absent_removed : removals_of (removal false) no_names ≡ conf ∷ []
unfolding listings_of_members listings_of_path owner_of_path claims_in member_beating_all_others old_listings old_file_entry is_listed_after_change owner_listing is_as_listed_by_size_hash_target fate_of listing_written_under_name sorted_distinct_names is_removed removals_of
absent_removed = refl

absent_kept : kept_left_over_paths_of (removal false) no_names ≡ []
unfolding listings_of_members listings_of_path owner_of_path claims_in member_beating_all_others old_listings old_file_entry is_listed_after_change owner_listing is_as_listed_by_size_hash_target fate_of listing_written_under_name sorted_distinct_names is_left_over_modified_file_kept kept_left_over_paths_of
absent_kept = refl

-- ---- the same version comes once more: nothing is new

abbrev reinstall : FileChange
reinstall = record { old = c (codes "2") ∷ []; members = member_of_added (c (codes "2")) [] ∷ []; purge = false }

nothing_new : file_writes_of reinstall changed ≡ []
unfolding listings_of_members listings_of_path owner_of_path claims_in member_beating_all_others old_listings old_file_entry is_listed_after_change owner_listing is_as_listed_by_size_hash_target are_sizes_hashes_targets_equal fate_of listing_written_under_name sorted_distinct_names file_writes_of
nothing_new = refl
