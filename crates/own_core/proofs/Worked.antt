-- Rows that are worked by hand: two packages with one file, a clash, a reserved name.
use Rattle.std.proofs.Common.{◌≡◌, ℕ, List, [], ◌∷◌, Some, refl, codes, false, true}
use Rattle.adb_view.specs.Plain.{Plain}
use Rattle.base_core.specs.Files.{no_names}
use Rattle.file_owners.specs.db_core.Members.{Member, listings_of_path, member_of_added, listings_of_members, member_of_kept}
use Rattle.dep_core.specs.ValueReading.{dependency_of_value}
use Rattle.version_core.specs.Order.{is_version, tokens}
use Rattle.version_core.specs.Token.{later_component_lexeme_by_digits, hash_lexeme_by_hex_digits, next_lexeme, number_lexeme_by_digits, revision_lexeme_by_text_after_hyphen, suffix_rank}
use Rattle.file_owners.specs.path_claims.Contest.{member_beating_all_others}
use Rattle.path_clashes.specs.Clash.{IsClash, NamePair, is_pair_before_by_first_then_second_name}
use Rattle.file_owners.specs.Owners.{claims_in, member_beats, owner_of_path}
use Rattle.file_owners.specs.Replaces.{is_preferred_by_priority_or_later_name, does_first_list_second_in_replaces, takes_over}
use Rattle.own_core.specs.Fate.{fate_of}
use Rattle.own_core.specs.FileChange.{FileChange, is_listed_after_change, old_file_entry, old_listings, owner_listing}
use Rattle.own_core.specs.FilesAfter.{is_left_over_modified_file_kept, is_removed, listing_written_under_name}
use Rattle.own_core.specs.NamesAfter.{is_released, counts_as_written, name_change}
use Rattle.own_core.specs.PlanLists.{file_writes_of, first_reserved_added_path_in_byte_order, sorted_distinct_names, removals_of}
use Rattle.file_guard.proofs.Sample.{plain_file}
use Rattle.own_core.proofs.Sample.{folder, info, need, package_with, with_file}

-- ---- two packages with one file

abbrev with_x : List Plain → List ℕ → List ℕ → Plain
with_x replaces name version =
    package_with (info name version replaces) (folder (codes "usr") (plain_file (codes "x") 1 (codes "01234567890123456789") ∷ []) ∷ [])

abbrev p1 : Plain
p1 = with_x [] (codes "p") (codes "1")

abbrev q1 : Plain
q1 = with_x [] (codes "q") (codes "1")

abbrev q2 : Plain
q2 = with_x (need (codes "p") ∷ []) (codes "q") (codes "2")

abbrev change : List Plain → List Member → FileChange
change old members = record { old = old; members = members; purge = false }

-- neither replaces the other: nobody owns it
nobody : file_writes_of (change [] (member_of_added p1 [] ∷ member_of_added q1 [] ∷ [])) no_names ≡ []
unfolding listings_of_members listings_of_path member_beats owner_of_path claims_in member_beating_all_others takes_over does_first_list_second_in_replaces is_preferred_by_priority_or_later_name is_version tokens next_lexeme later_component_lexeme_by_digits number_lexeme_by_digits suffix_rank hash_lexeme_by_hex_digits revision_lexeme_by_text_after_hyphen dependency_of_value old_listings old_file_entry is_listed_after_change owner_listing fate_of listing_written_under_name sorted_distinct_names file_writes_of
nobody = refl

-- the second replaces the first
one_write : file_writes_of (change [] (member_of_added p1 [] ∷ member_of_added q2 [] ∷ [])) no_names ≡ record { name = codes "usr/x"; member = 1; folder = 1; file = 1 } ∷ []
unfolding listings_of_members listings_of_path member_beats owner_of_path claims_in member_beating_all_others takes_over does_first_list_second_in_replaces is_preferred_by_priority_or_later_name is_version tokens next_lexeme later_component_lexeme_by_digits number_lexeme_by_digits suffix_rank hash_lexeme_by_hex_digits revision_lexeme_by_text_after_hyphen dependency_of_value old_listings old_file_entry is_listed_after_change owner_listing fate_of listing_written_under_name sorted_distinct_names file_writes_of
one_write = refl

-- the first one stays and keeps its file, which the second does not replace: nothing is written
stays : file_writes_of (change (p1 ∷ []) (member_of_kept p1 ∷ [])) (with_file (codes "usr/x") (codes "1")) ≡ []
unfolding listings_of_members listings_of_path member_beats owner_of_path claims_in member_beating_all_others takes_over does_first_list_second_in_replaces is_preferred_by_priority_or_later_name is_version tokens next_lexeme later_component_lexeme_by_digits number_lexeme_by_digits suffix_rank hash_lexeme_by_hex_digits revision_lexeme_by_text_after_hyphen dependency_of_value old_listings old_file_entry is_listed_after_change owner_listing fate_of listing_written_under_name sorted_distinct_names file_writes_of
stays = refl

-- it goes: its file is removed
goes : removals_of (change (p1 ∷ []) []) (with_file (codes "usr/x") (codes "1")) ≡ codes "usr/x" ∷ []
unfolding listings_of_members listings_of_path owner_of_path claims_in member_beating_all_others old_listings old_file_entry is_listed_after_change owner_listing fate_of listing_written_under_name sorted_distinct_names is_removed removals_of
goes = refl

-- also where no file stands there
goes_unseen : removals_of (change (p1 ∷ []) []) no_names ≡ codes "usr/x" ∷ []
unfolding listings_of_members listings_of_path owner_of_path claims_in member_beating_all_others old_listings old_file_entry is_listed_after_change owner_listing fate_of listing_written_under_name sorted_distinct_names is_removed removals_of
goes_unseen = refl

-- ---- a file of the tree where a package has a folder

abbrev r1 : Plain
r1 = package_with (info (codes "r") (codes "1") []) (folder (codes "usr/x") (plain_file (codes "y") 0 [] ∷ []) ∷ [])

clash : IsClash (name_change (change [] (member_of_added r1 [] ∷ [])) (with_file (codes "usr/x") (codes "1"))) (with_file (codes "usr/x") (codes "1")) (record { path = codes "usr/x"; other = codes "usr/x/y" })
unfolding listings_of_members old_listings old_file_entry is_listed_after_change is_left_over_modified_file_kept is_released counts_as_written
clash = record { folder = (codes "y", refl); path_after = refl; other_after = refl; written = refl }

-- what a package that stays lists does not count as written
stays_unwritten : counts_as_written (change (r1 ∷ []) (member_of_kept r1 ∷ [])) no_names (codes "usr/x/y") ≡ false
unfolding listings_of_members listings_of_path owner_of_path claims_in member_beating_all_others old_listings old_file_entry is_listed_after_change owner_listing fate_of counts_as_written
stays_unwritten = refl

-- `.` comes before `/`, and yet the pair with the smaller path comes first
abbrev pair_of : List ℕ → List ℕ → NamePair
pair_of path other = record { path = path; other = other }

smaller_path : is_pair_before_by_first_then_second_name (pair_of (codes "usr/x") (codes "usr/x/y")) (pair_of (codes "usr/x.d") (codes "usr/x.d/z")) ≡ true
smaller_path = refl

greater_path : is_pair_before_by_first_then_second_name (pair_of (codes "usr/x.d") (codes "usr/x.d/z")) (pair_of (codes "usr/x") (codes "usr/x/y")) ≡ false
greater_path = refl

smaller_other : is_pair_before_by_first_then_second_name (pair_of (codes "usr/x") (codes "usr/x/y")) (pair_of (codes "usr/x") (codes "usr/x/z")) ≡ true
smaller_other = refl

-- ---- a reserved name

abbrev r2 : Plain
r2 = package_with (info (codes "r") (codes "1") []) (folder (codes "usr/x") (plain_file (codes "y") 0 [] ∷ []) ∷ folder (codes "lib/apk/db") (plain_file (codes "z") 0 [] ∷ []) ∷ [])

reserved : first_reserved_added_path_in_byte_order (member_of_added r2 [] ∷ []) ≡ Some (codes "lib/apk/db/z")
unfolding listings_of_members first_reserved_added_path_in_byte_order
reserved = refl

-- two of them: the smaller path, not the one that is listed first
abbrev r3 : Plain
r3 = package_with (info (codes "r") (codes "1") []) (folder (codes "lib/apk/db") (plain_file (codes "z") 0 [] ∷ []) ∷ folder (codes "etc/apk") (plain_file (codes "world") 0 [] ∷ []) ∷ [])

first_of_two : first_reserved_added_path_in_byte_order (member_of_added r3 [] ∷ []) ≡ Some (codes "etc/apk/world")
unfolding listings_of_members first_reserved_added_path_in_byte_order
first_of_two = refl
