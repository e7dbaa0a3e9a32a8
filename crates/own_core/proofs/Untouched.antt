-- Names that a change leaves as they are, and what it makes of others.
use Rattle.std.proofs.Common.{◌≡◌, ◌⊎◌, inl, inr, ◌∙◌, ℕ, Bool, true, false, List, length, Option, Some, None, is_some, refl, ap, sym, true≢false}
use Rattle.std.specs.Prelude.{not, ◌&&◌, ◌||◌, if◌then◌else◌, nat_le, option_and_then}
use Rattle.std.specs.Str.{bytes_eq}
use Rattle.std.proofs.lemmas.Bool.{and_from, and_left, and_parts, and_right, not_from_false, not_from_true, or_from, or_parts, not-true}
use Rattle.adb_view.specs.Plain.{Plain}
use Rattle.base_core.specs.Files.{Files}
use Rattle.file_owners.specs.db_core.Members.{Listing, is_added}
use Rattle.file_guard.specs.AsListed.{is_as_listed}
use Rattle.own_core.specs.Fate.{agrees_with_old_entry, apk_new_name, fate_if_user_modified_file, fate_with_file_found, fate_of, gives_way, goes_aside, goes_in, is_as_old_entry_lists, is_protected_path}
use Rattle.own_core.specs.FileChange.{FileChange, added_owner_listing, is_listed_after_change, old_file_entry, owner_listing, was_listed}
use Rattle.own_core.specs.FilesAfter.{DatabaseAndWorldAfter, bytes_after_write_or_removal, files_after_change, database_name, if_written_in_place, is_present_and_modified_from_entry, is_left_over_modified_file_kept, is_left_over_and_not_written, is_removed, is_listing_written_under_name, listing_written_as_apk_new_beside, is_modified_config_to_keep, path_of_apk_new_name, text_database_name, new_world_bytes_unless_empty_and_absent, world_name, listing_written_under_name, listing_written_in_place}
use Rattle.own_core.specs.NamesAfter.{added_paths}
use Rattle.own_core.specs.Touched.{IsModifiedConfigFile, is_name_of_written_apk_new_file, is_added_path, is_old_or_new_database_or_world_name}
use Rattle.own_core.proofs.Lists.{any_name}
use Rattle.own_core.proofs.OwnedFiles.{beside_is, claimed_by_owner, coming_is, in_coming_paths, nobody_beside, not_written, owner_is, owner_stays}

-- ---- the bytes under a name

pub changed_so : (change : FileChange) (bytes_of : Listing → List ℕ) (records : DatabaseAndWorldAfter) (files : Files) (name : List ℕ) → is_old_or_new_database_or_world_name records name ≡ false
    → files_after_change change bytes_of records files name ≡ bytes_after_write_or_removal bytes_of (listing_written_under_name change files name) (is_removed change files name) (files name)
unfolding files_after_change
changed_so change bytes_of records files name other =
    let (database, behind) = or_parts (bytes_eq name database_name) (bytes_eq name world_name || (records.takes_text_over && bytes_eq name text_database_name)) other in
    let (world, text) = or_parts (bytes_eq name world_name) (records.takes_text_over && bytes_eq name text_database_name) behind in
    let after : Option (List ℕ) = bytes_after_write_or_removal bytes_of (listing_written_under_name change files name) (is_removed change files name) (files name) in
    ap (λ (b : Bool). if b then Some records.database else (if bytes_eq name world_name then new_world_bytes_unless_empty_and_absent records.world (files name) else (if records.takes_text_over && bytes_eq name text_database_name then None else after))) database
    ∙ (ap (λ (b : Bool). if b then new_world_bytes_unless_empty_and_absent records.world (files name) else (if records.takes_text_over && bytes_eq name text_database_name then None else after)) world
    ∙ ap (λ (b : Bool). if b then None else after) text)

untouched : (change : FileChange) (bytes_of : Listing → List ℕ) (records : DatabaseAndWorldAfter) (files : Files) (name : List ℕ) → listing_written_under_name change files name ≡ None → is_removed change files name ≡ false → is_old_or_new_database_or_world_name records name ≡ false
    → files_after_change change bytes_of records files name ≡ files name
untouched change bytes_of records files name none stays other =
    changed_so change bytes_of records files name other
    ∙ (ap (λ (o : Option Listing). bytes_after_write_or_removal bytes_of o (is_removed change files name) (files name)) none
    ∙ ap (λ (b : Bool). bytes_after_write_or_removal bytes_of None b (files name)) stays)

-- ---- what is left over

claimed_not_left : (change : FileChange) (files : Files) (path : List ℕ) → is_listed_after_change change path ≡ true → is_left_over_and_not_written change files path ≡ false
claimed_not_left change files path claimed =
    and_right (was_listed change path) (not (is_listed_after_change change path) && not (is_listing_written_under_name change files path))
    (and_left (not (is_listed_after_change change path)) (not (is_listing_written_under_name change files path)) (not_from_true (is_listed_after_change change path) claimed))

removed_left : (change : FileChange) (files : Files) (path : List ℕ) → is_left_over_and_not_written change files path ≡ false → is_removed change files path ≡ false
unfolding is_removed
removed_left change files path e = and_left (is_left_over_and_not_written change files path) (not (is_modified_config_to_keep change path (files path) (old_file_entry change path))) e

never_listed : (change : FileChange) (files : Files) (name : List ℕ) → was_listed change name ≡ false → is_removed change files name ≡ false
never_listed change files name never =
    removed_left change files name (and_left (was_listed change name) (not (is_listed_after_change change name) && not (is_listing_written_under_name change files name)) never)

-- it was listed before, no package lists it now, and nothing is written there
pub record IsLeftOver (change : FileChange) (files : Files) (path : List ℕ) : Type 0 where
  pub listed : was_listed change path ≡ true
  pub unclaimed : is_listed_after_change change path ≡ false
  pub unwritten : is_listing_written_under_name change files path ≡ false

pub left_over_is : (change : FileChange) (files : Files) (path : List ℕ) → is_left_over_and_not_written change files path ≡ true → IsLeftOver change files path
left_over_is change files path e =
    let (listed, behind) = and_parts (was_listed change path) (not (is_listed_after_change change path) && not (is_listing_written_under_name change files path)) e in
    let (unclaimed, unwritten) = and_parts (not (is_listed_after_change change path)) (not (is_listing_written_under_name change files path)) behind in
    record { listed = listed; unclaimed = not-true (is_listed_after_change change path) unclaimed; unwritten = not-true (is_listing_written_under_name change files path) unwritten }

pub removed_is : (change : FileChange) (files : Files) (path : List ℕ) → is_removed change files path ≡ true → IsLeftOver change files path × (is_modified_config_to_keep change path (files path) (old_file_entry change path) ≡ false)
unfolding is_removed
removed_is change files path e =
    let (left, gone) = and_parts (is_left_over_and_not_written change files path) (not (is_modified_config_to_keep change path (files path) (old_file_entry change path))) e in
    (left_over_is change files path left, not-true (is_modified_config_to_keep change path (files path) (old_file_entry change path)) gone)

pub kept_is : (change : FileChange) (files : Files) (path : List ℕ) → is_left_over_modified_file_kept change files path ≡ true → IsLeftOver change files path × (is_modified_config_to_keep change path (files path) (old_file_entry change path) ≡ true)
unfolding is_left_over_modified_file_kept
kept_is change files path e =
    let (left, stays) = and_parts (is_left_over_and_not_written change files path) (is_modified_config_to_keep change path (files path) (old_file_entry change path)) e in
    (left_over_is change files path left, stays)

pub not_some : (o : Option Listing) → is_some o ≡ false → o ≡ None
not_some None e = refl
not_some (Some l) e = absurd (true≢false e)

-- ---- the file of a package that comes, and one that goes

pub takes_its_path : (change : FileChange) (bytes_of : Listing → List ℕ) (records : DatabaseAndWorldAfter) (files : Files) (name : List ℕ) (l : Listing) → listing_written_under_name change files name ≡ Some l → is_old_or_new_database_or_world_name records name ≡ false
    → files_after_change change bytes_of records files name ≡ Some (bytes_of l)
takes_its_path change bytes_of records files name l written other =
    changed_so change bytes_of records files name other
    ∙ ap (λ (o : Option Listing). bytes_after_write_or_removal bytes_of o (is_removed change files name) (files name)) written

pub is_gone : (change : FileChange) (bytes_of : Listing → List ℕ) (records : DatabaseAndWorldAfter) (files : Files) (name : List ℕ) → is_removed change files name ≡ true → is_old_or_new_database_or_world_name records name ≡ false
    → files_after_change change bytes_of records files name ≡ None
is_gone change bytes_of records files name gone other =
    let (left, never) = removed_is change files name gone in
    changed_so change bytes_of records files name other
    ∙ (ap (λ (o : Option Listing). bytes_after_write_or_removal bytes_of o (is_removed change files name) (files name)) (not_some (listing_written_under_name change files name) left.unwritten)
    ∙ ap (λ (b : Bool). bytes_after_write_or_removal bytes_of None b (files name)) gone)

may_stay_unremoved : (change : FileChange) (files : Files) (name : List ℕ) → is_modified_config_to_keep change name (files name) (old_file_entry change name) ≡ true → is_removed change files name ≡ false
unfolding is_removed
may_stay_unremoved change files name stays =
    and_right (is_left_over_and_not_written change files name) (not (is_modified_config_to_keep change name (files name) (old_file_entry change name)))
    (not_from_true (is_modified_config_to_keep change name (files name) (old_file_entry change name)) stays)

pub is_spared : (change : FileChange) (bytes_of : Listing → List ℕ) (records : DatabaseAndWorldAfter) (files : Files) (name : List ℕ) → is_left_over_modified_file_kept change files name ≡ true → is_old_or_new_database_or_world_name records name ≡ false
    → files_after_change change bytes_of records files name ≡ files name
is_spared change bytes_of records files name kept other =
    let (left, stays) = kept_is change files name kept in
    untouched change bytes_of records files name (not_some (listing_written_under_name change files name) left.unwritten) (may_stay_unremoved change files name stays) other

-- ---- the file of a package that stays

-- nothing is laid beside another file under a name that a package lists
claimed_not_beside : (change : FileChange) (files : Files) (name : List ℕ) → is_listed_after_change change name ≡ true → is_name_of_written_apk_new_file change files name ≡ false
claimed_not_beside change files name claimed = by_path (path_of_apk_new_name name) refl
  where
    by_path : (o : Option (List ℕ)) → path_of_apk_new_name name ≡ o → is_some (option_and_then (listing_written_as_apk_new_beside change files) o) ≡ false
    by_path None e = refl
    by_path (Some path) e = by_listing (listing_written_as_apk_new_beside change files path) refl
      where
        by_listing : (o : Option Listing) → listing_written_as_apk_new_beside change files path ≡ o → is_some o ≡ false
        by_listing None laid = refl
        by_listing (Some l) laid =
            let free : is_listed_after_change change (apk_new_name path) ≡ false = nobody_beside change files path l laid in
            absurd (true≢false (sym claimed ∙ (ap (is_listed_after_change change) (beside_is name path e) ∙ free)))

no_owner_comes : (change : FileChange) (files : Files) (path : List ℕ) → added_owner_listing change path ≡ None → listing_written_in_place change files path ≡ None
no_owner_comes change files path none = ap (option_and_then (λ l. if_written_in_place l (fate_of change files l))) none

pub unwritten_where_it_stays : (change : FileChange) (files : Files) (path : List ℕ) (l : Listing) → owner_listing change path ≡ Some l → is_added l.member ≡ false → listing_written_under_name change files path ≡ None
unwritten_where_it_stays change files path l owner stays =
    let claimed = claimed_by_owner change path l (owner_is change path l owner) in
    not_written change files path (no_owner_comes change files path (owner_stays change path l owner stays)) (claimed_not_beside change files path claimed)

pub left_where_it_stays : (change : FileChange) (files : Files) (path : List ℕ) (l : Listing) → owner_listing change path ≡ Some l → is_removed change files path ≡ false
left_where_it_stays change files path l owner =
    removed_left change files path (claimed_not_left change files path (claimed_by_owner change path l (owner_is change path l owner)))

pub stays_as_it_is : (change : FileChange) (bytes_of : Listing → List ℕ) (records : DatabaseAndWorldAfter) (files : Files) (path : List ℕ) (l : Listing) → owner_listing change path ≡ Some l → is_added l.member ≡ false → is_old_or_new_database_or_world_name records path ≡ false
    → files_after_change change bytes_of records files path ≡ files path
stays_as_it_is change bytes_of records files path l owner stays other =
    untouched change bytes_of records files path (unwritten_where_it_stays change files path l owner stays) (left_where_it_stays change files path l owner) other

-- ---- configuration that the user changed

unlike_old : (change : FileChange) (path bytes : List ℕ) → ((entry : Plain) → old_file_entry change path ≡ Some entry → is_as_listed entry bytes ≡ false) → is_as_old_entry_lists (old_file_entry change path) bytes ≡ false
unlike_old change path bytes differs = by_entry (old_file_entry change path) differs
  where
    by_entry : (o : Option Plain) → ((entry : Plain) → o ≡ Some entry → is_as_listed entry bytes ≡ false) → is_as_old_entry_lists o bytes ≡ false
    by_entry None differs = refl
    by_entry (Some entry) differs = differs entry refl

pub users_fate : (change : FileChange) (files : Files) (path bytes : List ℕ) (l : Listing) → IsModifiedConfigFile change files path bytes → added_owner_listing change path ≡ Some l → fate_of change files l ≡ fate_if_user_modified_file change path l.entry
unfolding fate_of
users_fate change files path bytes l own comes =
    let (owner, coming) = coming_is change path l comes in
    let test : (not (is_protected_path path) || (is_as_listed l.entry bytes || is_as_old_entry_lists (old_file_entry change path) bytes)) ≡ false =
    or_from (not (is_protected_path path)) (is_as_listed l.entry bytes || is_as_old_entry_lists (old_file_entry change path) bytes) (not_from_true (is_protected_path path) own.guarded)
    (or_from (is_as_listed l.entry bytes) (is_as_old_entry_lists (old_file_entry change path) bytes) (own.unlike_new l comes) (unlike_old change path bytes own.unlike_old)) in
    ap (λ (q : List ℕ). fate_with_file_found change q l.entry (files q)) owner.of_path
    ∙ (ap (fate_with_file_found change path l.entry) own.present
    ∙ ap (λ (b : Bool). if b then goes_in else fate_if_user_modified_file change path l.entry) test)

never_in : (l : Listing) (b : Bool) → if_written_in_place l (if b then goes_aside else gives_way) ≡ None
never_in l true = refl
never_in l false = refl

users_file_not_taken : (change : FileChange) (files : Files) (path bytes : List ℕ) → IsModifiedConfigFile change files path bytes → listing_written_in_place change files path ≡ None
users_file_not_taken change files path bytes own = by_owner (added_owner_listing change path) refl
  where
    by_owner : (o : Option Listing) → added_owner_listing change path ≡ o → listing_written_in_place change files path ≡ None
    by_owner None comes = no_owner_comes change files path comes
    by_owner (Some l) comes =
        ap (option_and_then (λ l. if_written_in_place l (fate_of change files l))) comes
        ∙ (ap (if_written_in_place l) (users_fate change files path bytes l own comes)
        ∙ never_in l (not (agrees_with_old_entry (old_file_entry change path) l.entry) && (nat_le (length (apk_new_name path)) 1024 && not (is_listed_after_change change (apk_new_name path)))))

users_file_stays : (change : FileChange) (files : Files) (path bytes : List ℕ) → (change.purge ≡ false) ⊎ (is_listed_after_change change path ≡ true) → IsModifiedConfigFile change files path bytes → is_removed change files path ≡ false
users_file_stays change files path bytes (inr claimed) own = removed_left change files path (claimed_not_left change files path claimed)
users_file_stays change files path bytes (inl no_purge) own = by_entry (old_file_entry change path) refl
  where
    by_entry : (o : Option Plain) → old_file_entry change path ≡ o → is_removed change files path ≡ false
    by_entry None e = never_listed change files path (ap is_some e)
    by_entry (Some entry) e =
        let stays : (is_protected_path path && (not change.purge && is_present_and_modified_from_entry entry (Some bytes))) ≡ true =
        and_from (is_protected_path path) (not change.purge && is_present_and_modified_from_entry entry (Some bytes)) own.guarded
        (and_from (not change.purge) (is_present_and_modified_from_entry entry (Some bytes)) (not_from_false change.purge no_purge) (not_from_false (is_as_listed entry bytes) (own.unlike_old entry e))) in
        may_stay_unremoved change files path
        (ap (λ (found : Option (List ℕ)). is_modified_config_to_keep change path found (old_file_entry change path)) own.present
        ∙ (ap (is_modified_config_to_keep change path (Some bytes)) e ∙ stays))

pub users_file_is_spared : (change : FileChange) (bytes_of : Listing → List ℕ) (records : DatabaseAndWorldAfter) (files : Files) (path bytes : List ℕ) → (change.purge ≡ false) ⊎ (is_listed_after_change change path ≡ true) → IsModifiedConfigFile change files path bytes → is_name_of_written_apk_new_file change files path ≡ false → is_old_or_new_database_or_world_name records path ≡ false
    → files_after_change change bytes_of records files path ≡ Some bytes
users_file_is_spared change bytes_of records files path bytes unpurged own beside other =
    untouched change bytes_of records files path (not_written change files path (users_file_not_taken change files path bytes own) beside) (users_file_stays change files path bytes unpurged own) other
    ∙ own.present

-- ---- names that nobody lists

no_owner : (change : FileChange) (path : List ℕ) → is_added_path change path ≡ false → added_owner_listing change path ≡ None
no_owner change path never = by_owner (added_owner_listing change path) refl
  where
    by_owner : (o : Option Listing) → added_owner_listing change path ≡ o → o ≡ None
    by_owner None e = refl
    by_owner (Some l) e = absurd (true≢false (sym (any_name path (added_paths change.members) (in_coming_paths change path l e)) ∙ never))

pub others_stay : (change : FileChange) (bytes_of : Listing → List ℕ) (records : DatabaseAndWorldAfter) (files : Files) (name : List ℕ) → was_listed change name ≡ false → is_added_path change name ≡ false → is_name_of_written_apk_new_file change files name ≡ false → is_old_or_new_database_or_world_name records name ≡ false
    → files_after_change change bytes_of records files name ≡ files name
others_stay change bytes_of records files name never_before never_now beside other =
    untouched change bytes_of records files name
    (not_written change files name (no_owner_comes change files name (no_owner change name never_now)) beside)
    (never_listed change files name never_before) other
