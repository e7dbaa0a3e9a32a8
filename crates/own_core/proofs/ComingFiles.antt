-- The file of a package that comes: it goes in, or lies beside the one that the user changed.
use Rattle.std.proofs.Common.{◌≡◌, ◌∙◌, ℕ, Bool, true, false, List, length, Option, Some, None, refl, ap, sym, true≢false}
use Rattle.std.specs.Prelude.{not, ◌&&◌, ◌||◌, if◌then◌else◌, ◌==◌, nat_le, nat_lt, option_and_then}
use Rattle.std.specs.List.{list_all, list_any}
use Rattle.std.specs.Str.{is_utf8}
use Rattle.std.proofs.lemmas.Bool.{and_from, and_parts, not_from_false, or_parts, not-false}
use Rattle.adb_view.specs.Plain.{Plain}
use Rattle.base_core.specs.Files.{Files}
use Rattle.base_core.specs.Name.{IsName, is_name, is_path_part, path_parts_of}
use Rattle.file_owners.specs.db_core.Members.{Listing}
use Rattle.file_guard.specs.AsListed.{are_sizes_hashes_targets_equal, is_as_listed}
use Rattle.own_core.specs.Fate.{AddedFileFate, agrees_with_old_entry, apk_new_name, fate_if_user_modified_file, fate_with_file_found, fate_of, gives_way, goes_aside, goes_in, is_as_old_entry_lists, is_protected_path}
use Rattle.own_core.specs.FileChange.{FileChange, added_owner_listing, is_listed_after_change, old_file_entry}
use Rattle.own_core.specs.FilesAfter.{if_written_as_apk_new, if_written_in_place, listing_written_as_apk_new_beside, path_of_apk_new_name, listing_written_under_name}
use Rattle.std.specs.Option.{option_or}
use Rattle.own_core.specs.Touched.{DiffersFromOldEntryIfAny, IsModifiedConfigFile}
use Rattle.own_core.proofs.OwnedFiles.{aside_found, claimed_by_owner, coming_is, is_beside, nobody_beside}
use Rattle.own_core.proofs.Untouched.{users_fate}

-- ---- it goes in

-- a file of which the tests say so is the user's
users_file : (change : FileChange) (files : Files) (path bytes : List ℕ) (l : Listing) → added_owner_listing change path ≡ Some l → files path ≡ Some bytes
    → (not (is_protected_path path) || (is_as_listed l.entry bytes || is_as_old_entry_lists (old_file_entry change path) bytes)) ≡ false → IsModifiedConfigFile change files path bytes
users_file change files path bytes l comes present tests =
    let (unguarded, listed) = or_parts (not (is_protected_path path)) (is_as_listed l.entry bytes || is_as_old_entry_lists (old_file_entry change path) bytes) tests in
    let (new, old) = or_parts (is_as_listed l.entry bytes) (is_as_old_entry_lists (old_file_entry change path) bytes) listed in
    record {
      guarded = not-false (is_protected_path path) unguarded;
      present = present;
      unlike_new = λ m is. let same : m ≡ l = (cc) in ap (λ (m : Listing). is_as_listed m.entry bytes) same ∙ new;
      unlike_old = λ entry is. ap (λ (o : Option Plain). is_as_old_entry_lists o bytes) (sym is) ∙ old;
    }

fate_at : (change : FileChange) (files : Files) (path : List ℕ) (l : Listing) → added_owner_listing change path ≡ Some l → fate_of change files l ≡ fate_with_file_found change path l.entry (files path)
unfolding fate_of
fate_at change files path l comes =
    let (owner, coming) = coming_is change path l comes in
    ap (λ (q : List ℕ). fate_with_file_found change q l.entry (files q)) owner.of_path

nobodys_fate : (change : FileChange) (files : Files) (path : List ℕ) (l : Listing) → added_owner_listing change path ≡ Some l → ((bytes : List ℕ) → IsModifiedConfigFile change files path bytes → ⊥) → fate_of change files l ≡ goes_in
nobodys_fate change files path l comes nobodys = fate_at change files path l comes ∙ by_file (files path) refl
  where
    by_file : (found : Option (List ℕ)) → files path ≡ found → fate_with_file_found change path l.entry found ≡ goes_in
    by_file None present = refl
    by_file (Some bytes) present = by_tests (not (is_protected_path path) || (is_as_listed l.entry bytes || is_as_old_entry_lists (old_file_entry change path) bytes)) refl
      where
        by_tests : (b : Bool) → (not (is_protected_path path) || (is_as_listed l.entry bytes || is_as_old_entry_lists (old_file_entry change path) bytes)) ≡ b → (if b then goes_in else fate_if_user_modified_file change path l.entry) ≡ goes_in
        by_tests true tests = refl
        by_tests false tests = absurd (nobodys bytes (users_file change files path bytes l comes present tests))

pub takes_path : (change : FileChange) (files : Files) (path : List ℕ) (l : Listing) → added_owner_listing change path ≡ Some l → ((bytes : List ℕ) → IsModifiedConfigFile change files path bytes → ⊥) → listing_written_under_name change files path ≡ Some l
unfolding listing_written_under_name
takes_path change files path l comes nobodys =
    let beside : Option Listing = option_and_then (listing_written_as_apk_new_beside change files) (path_of_apk_new_name path) in
    ap (λ (o : Option Listing). option_or (option_and_then (λ l. if_written_in_place l (fate_of change files l)) o) beside) comes
    ∙ ap (λ (f : AddedFileFate). option_or (if_written_in_place l f) beside) (nobodys_fate change files path l comes nobodys)

-- ---- it lies beside another

name_is_short : (bytes : List ℕ) → IsName bytes → nat_le (length bytes) 1024 ≡ true
unfolding is_name
name_is_short bytes named =
    let a = and_parts _ (list_all is_path_part (path_parts_of bytes)) named in
    let b = and_parts _ (is_utf8 bytes) a.0 in
    let c = and_parts _ (not (list_any (λ x. x == 0) bytes)) b.0 in
    (and_parts (nat_lt 0 (length bytes)) (nat_le (length bytes) 1024) c.0).1

new_disagrees : (change : FileChange) (path : List ℕ) (entry : Plain) → DiffersFromOldEntryIfAny change path entry → agrees_with_old_entry (old_file_entry change path) entry ≡ false
new_disagrees change path entry differs = by_entry (old_file_entry change path) differs
  where
    by_entry : (o : Option Plain) → ((old : Plain) → o ≡ Some old → are_sizes_hashes_targets_equal old entry ≡ false) → agrees_with_old_entry o entry ≡ false
    by_entry None differs = refl
    by_entry (Some old) differs = differs old refl

pub lies_beside : (change : FileChange) (files : Files) (path bytes : List ℕ) (l : Listing) → added_owner_listing change path ≡ Some l → IsModifiedConfigFile change files path bytes → DiffersFromOldEntryIfAny change path l.entry
    → IsName (apk_new_name path) → is_listed_after_change change (apk_new_name path) ≡ false → listing_written_as_apk_new_beside change files path ≡ Some l
lies_beside change files path bytes l comes own differs named free =
    let tests : (not (agrees_with_old_entry (old_file_entry change path) l.entry) && (nat_le (length (apk_new_name path)) 1024 && not (is_listed_after_change change (apk_new_name path)))) ≡ true =
    and_from (not (agrees_with_old_entry (old_file_entry change path) l.entry)) (nat_le (length (apk_new_name path)) 1024 && not (is_listed_after_change change (apk_new_name path)))
    (not_from_false (agrees_with_old_entry (old_file_entry change path) l.entry) (new_disagrees change path l.entry differs))
    (and_from (nat_le (length (apk_new_name path)) 1024) (not (is_listed_after_change change (apk_new_name path))) (name_is_short (apk_new_name path) named)
    (not_from_false (is_listed_after_change change (apk_new_name path)) free)) in
    ap (option_and_then (λ l. if_written_as_apk_new l (fate_of change files l))) comes
    ∙ ap (if_written_as_apk_new l) (users_fate change files path bytes l own comes ∙ ap (λ (b : Bool). if b then goes_aside else gives_way) tests)

-- an entry that goes aside differs from the one before
new_entry : (change : FileChange) (path : List ℕ) (entry : Plain) → fate_if_user_modified_file change path entry ≡ goes_aside → DiffersFromOldEntryIfAny change path entry
new_entry change path entry aside old is = by_tests (are_sizes_hashes_targets_equal old entry) refl
  where
    by_tests : (b : Bool) → are_sizes_hashes_targets_equal old entry ≡ b → are_sizes_hashes_targets_equal old entry ≡ false
    by_tests false agrees = agrees
    by_tests true agrees =
        let way : fate_if_user_modified_file change path entry ≡ gives_way =
        ap (λ (b : Bool). if not b && (nat_le (length (apk_new_name path)) 1024 && not (is_listed_after_change change (apk_new_name path))) then goes_aside else gives_way)
        (ap (λ (o : Option Plain). agrees_with_old_entry o entry) is ∙ agrees) in
        absurd (cc)

pub beside_users_file : (change : FileChange) (files : Files) (path : List ℕ) (l : Listing) → listing_written_as_apk_new_beside change files path ≡ Some l
    → ((bytes : List ℕ) × IsModifiedConfigFile change files path bytes) × DiffersFromOldEntryIfAny change path l.entry × (is_listed_after_change change (apk_new_name path) ≡ false)
beside_users_file change files path l laid =
    let (comes, aside) = aside_found change files path l laid in
    let (own, differs) = by_file comes (files path) refl (sym (fate_at change files path l comes) ∙ aside) in
    (own, differs, nobody_beside change files path l laid)
  where
    by_file : added_owner_listing change path ≡ Some l → (found : Option (List ℕ)) → files path ≡ found → fate_with_file_found change path l.entry found ≡ goes_aside
        → ((bytes : List ℕ) × IsModifiedConfigFile change files path bytes) × DiffersFromOldEntryIfAny change path l.entry
    by_file comes None present aside = absurd (cc)
    by_file comes (Some bytes) present aside = by_tests (not (is_protected_path path) || (is_as_listed l.entry bytes || is_as_old_entry_lists (old_file_entry change path) bytes)) refl aside
      where
        by_tests : (b : Bool) → (not (is_protected_path path) || (is_as_listed l.entry bytes || is_as_old_entry_lists (old_file_entry change path) bytes)) ≡ b → (if b then goes_in else fate_if_user_modified_file change path l.entry) ≡ goes_aside
            → ((bytes : List ℕ) × IsModifiedConfigFile change files path bytes) × DiffersFromOldEntryIfAny change path l.entry
        by_tests true tests aside = absurd (cc)
        by_tests false tests aside = ((bytes, users_file change files path bytes l comes present tests), new_entry change path l.entry aside)

-- ---- under the name beside it

pub no_owner : (change : FileChange) (name : List ℕ) → is_listed_after_change change name ≡ false → added_owner_listing change name ≡ None
no_owner change name free = by_owner (added_owner_listing change name) refl
  where
    by_owner : (o : Option Listing) → added_owner_listing change name ≡ o → o ≡ None
    by_owner None e = refl
    by_owner (Some l) e = absurd (true≢false (sym (claimed_by_owner change name l (coming_is change name l e).0) ∙ free))

pub written_beside : (change : FileChange) (files : Files) (path : List ℕ) (l : Listing) → listing_written_as_apk_new_beside change files path ≡ Some l → listing_written_under_name change files (apk_new_name path) ≡ Some l
unfolding listing_written_under_name
written_beside change files path l laid =
    ap (λ (o : Option Listing). option_or (option_and_then (λ l. if_written_in_place l (fate_of change files l)) o) (option_and_then (listing_written_as_apk_new_beside change files) (path_of_apk_new_name (apk_new_name path))))
    (no_owner change (apk_new_name path) (nobody_beside change files path l laid))
    ∙ (ap (option_and_then (listing_written_as_apk_new_beside change files)) (is_beside path) ∙ laid)
