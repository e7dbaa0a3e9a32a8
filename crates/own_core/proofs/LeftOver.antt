-- What is left over goes, unless the user changed it.
use Rattle.std.proofs.Common.{◌≡◌, ◌⊎◌, inl, inr, ◌∙◌, ℕ, suc, Bool, true, false, List, [], ◌∷◌, map, Option, Some, None, refl, ap, sym, true≢false, arith}
use Rattle.std.specs.Prelude.{All, not, ◌&&◌}
use Rattle.std.proofs.lemmas.Bool.{and_from, and_parts, not_from_false, not-true}
use Rattle.file_guard.specs.adb_schema.Reserved.{is_reserved}
use Rattle.adb_view.specs.Plain.{Plain}
use Rattle.base_core.specs.Files.{Files}
use Rattle.base_core.proofs.Rising.{IsIn}
use Rattle.file_owners.specs.db_core.Members.{Listing}
use Rattle.file_guard.specs.AsListed.{is_as_listed}
use Rattle.own_core.specs.Fate.{is_protected_path}
use Rattle.own_core.specs.FileChange.{FileChange, old_file_entry, old_listings}
use Rattle.own_core.specs.FilesAfter.{is_present_and_modified_from_entry, is_left_over_modified_file_kept, is_left_over_and_not_written, is_removed, is_modified_config_to_keep}
use Rattle.own_core.specs.Touched.{IsModifiedConfigFile}
use Rattle.own_core.proofs.OwnedFiles.{claimed_by_owner, coming_is, in_old_paths}
use Rattle.own_core.proofs.Untouched.{IsLeftOver, kept_is, left_over_is, removed_is}

-- what may stay is the user's file, and is not to be purged
stays_is_users : (change : FileChange) (files : Files) (path : List ℕ) → IsLeftOver change files path → is_modified_config_to_keep change path (files path) (old_file_entry change path) ≡ true
    → ((bytes : List ℕ) × IsModifiedConfigFile change files path bytes) × (change.purge ≡ false)
stays_is_users change files path left stays = by_entry (old_file_entry change path) refl stays
  where
    by_file : (entry : Plain) → old_file_entry change path ≡ Some entry → is_protected_path path ≡ true → (found : Option (List ℕ)) → files path ≡ found → is_present_and_modified_from_entry entry found ≡ true → (bytes : List ℕ) × IsModifiedConfigFile change files path bytes
    by_file entry listed guarded None present changed = absurd (true≢false (sym changed))
    by_file entry listed guarded (Some bytes) present changed = (
      bytes,
      record {
        guarded = guarded;
        present = present;
        unlike_new = λ l comes. absurd (true≢false (sym (claimed_by_owner change path l ((coming_is change path l comes).0)) ∙ left.unclaimed));
        unlike_old = λ other is.
            let same : other ≡ entry = (cc) in
            ap (λ (e : Plain). is_as_listed e bytes) same ∙ not-true (is_as_listed entry bytes) changed;
      },
    )

    by_entry : (o : Option Plain) → old_file_entry change path ≡ o → is_modified_config_to_keep change path (files path) o ≡ true → ((bytes : List ℕ) × IsModifiedConfigFile change files path bytes) × (change.purge ≡ false)
    by_entry None listed stays = absurd (true≢false (sym stays))
    by_entry (Some entry) listed stays =
        let (guarded, behind) = and_parts (is_protected_path path) (not change.purge && is_present_and_modified_from_entry entry (files path)) stays in
        let (unpurged, changed) = and_parts (not change.purge) (is_present_and_modified_from_entry entry (files path)) behind in
        (by_file entry listed guarded (files path) refl changed, not-true change.purge unpurged)

pub left_over_goes : (change : FileChange) (files : Files) (path : List ℕ) → is_left_over_and_not_written change files path ≡ true → ((bytes : List ℕ) → IsModifiedConfigFile change files path bytes → ⊥) ⊎ (change.purge ≡ true)
    → is_removed change files path ≡ true
unfolding is_removed
left_over_goes change files path left free = by_test (is_modified_config_to_keep change path (files path) (old_file_entry change path)) refl
  where
    by_test : (b : Bool) → is_modified_config_to_keep change path (files path) (old_file_entry change path) ≡ b → (is_left_over_and_not_written change files path && not (is_modified_config_to_keep change path (files path) (old_file_entry change path))) ≡ true
    by_test false gone = and_from (is_left_over_and_not_written change files path) (not (is_modified_config_to_keep change path (files path) (old_file_entry change path))) left (not_from_false (is_modified_config_to_keep change path (files path) (old_file_entry change path)) gone)
    by_test true stays =
        let (own, unpurged) = stays_is_users change files path (left_over_is change files path left) stays in
        absurd (elim free [ inl nobodys ↦ nobodys own.0 own.1 | inr purged ↦ true≢false (sym purged ∙ unpurged) ])

pub kept_is_users : (change : FileChange) (files : Files) (path : List ℕ) → is_left_over_modified_file_kept change files path ≡ true
    → ((bytes : List ℕ) × IsModifiedConfigFile change files path bytes) × (change.purge ≡ false)
kept_is_users change files path kept =
    let (left, stays) = kept_is change files path kept in stays_is_users change files path left stays

-- ---- it is not reserved where no package before lists a reserved path

path_of_all : (listings : List Listing) → All (λ l. is_reserved l.path ≡ false) listings → (path : List ℕ) → IsIn path (map (λ l. l.path) listings) → is_reserved path ≡ false
path_of_all [] free path here = absurd here
path_of_all (l ∷ listings) free path (inl is) = ap is_reserved is ∙ free 0 l (omega arith)
path_of_all (l ∷ listings) free path (inr more) = path_of_all listings (λ k d below. free (suc k) d (omega (arith, below))) path more

pub removed_unreserved : (change : FileChange) (files : Files) (path : List ℕ) → All (λ l. is_reserved l.path ≡ false) (old_listings change) → is_removed change files path ≡ true → is_reserved path ≡ false
removed_unreserved change files path free removed =
    let (left, gone) = removed_is change files path removed in
    path_of_all (old_listings change) free path (in_old_paths change path left.listed)
