-- One file after a change.
use Rattle.std.proofs.Common.{◌≡◌, ◌⊎◌, inl, inr, ◌∙◌, ◌↔◌, ℕ, Bool, true, false, List, Option, Some, None, is_some, refl, ap, sym, subst, true≢false}
use Rattle.std.specs.Prelude.{IsSomeAnd, option_and_then}
use Rattle.adb_view.specs.Plain.{Plain}
use Rattle.audit_core.specs.Differences.{DiffersFromEntry}
use Rattle.audit_core.specs.declared.comparing.Difference.{Difference}
use Rattle.audit_core.specs.declared.comparing.Difference.TheVariants.{Changed, Missing}
use Rattle.base_core.specs.Files.{Files}
use Rattle.engine_core.specs.own_core.Fate.{is_protected_path}
use Rattle.engine_core.specs.own_core.FileChange.{FileChange, added_owner_listing, is_listed_after_change, old_file_entry, owner_listing}
use Rattle.engine_core.specs.own_core.FilesAfter.{DatabaseAndWorldAfter, files_after_change, listing_written_as_apk_new_beside, path_of_apk_new_name}
use Rattle.engine_core.specs.own_core.Touched.{IsModifiedConfigFile, is_name_of_written_apk_new_file, is_old_or_new_database_or_world_name}
use Rattle.engine_core.proofs.own_core.ComingFiles.{takes_path}
use Rattle.engine_core.proofs.own_core.OwnedFiles.{beside_is, claimed_by_owner, coming_is, nobody_beside}
use Rattle.engine_core.proofs.own_core.Untouched.{stays_as_it_is, takes_its_path, users_file_is_spared}
use Rattle.audit_core.specs.db_core.Members.{Listing, is_added}
use Rattle.audit_core.specs.file_guard.AsListed.{is_as_listed}
use Rattle.definition_laws.specs.audits.AfterChange.{HasModifiedConfigFile}

-- ---- what differs, by what is found

pub changed_by : (entry : Plain) (found : Option (List ℕ)) (bytes : List ℕ) → found ≡ Some bytes → is_as_listed entry bytes ≡ false → DiffersFromEntry Changed entry found
changed_by entry found bytes is unlike = subst (λ (o : Option (List ℕ)). IsSomeAnd o (λ b. is_as_listed entry b ≡ false)) (sym is) unlike

pub differs_by : (entry : Plain) (found : Option (List ℕ)) (bytes : List ℕ) (d : Difference) → found ≡ Some bytes → DiffersFromEntry d entry found → (d ≡ Changed) × (is_as_listed entry bytes ≡ false)
differs_by entry found bytes Missing is differs = absurd (cc (is, differs))
differs_by entry found bytes Changed is differs = (refl, subst (λ (o : Option (List ℕ)). IsSomeAnd o (λ b. is_as_listed entry b ≡ false)) is differs)

module _ (change : FileChange) (bytes_of : Listing → List ℕ) (records : DatabaseAndWorldAfter) (files : Files) (path : List ℕ) (plain : is_old_or_new_database_or_world_name records path ≡ false) where
  -- ---- of a package that stays

  pub stays_so : (l : Listing) (d : Difference) → owner_listing change path ≡ Some l → is_added l.member ≡ false
      → DiffersFromEntry d l.entry (files_after_change change bytes_of records files path) ↔ DiffersFromEntry d l.entry (files path)
  stays_so l d owner stays =
      let same : files_after_change change bytes_of records files path ≡ files path = stays_as_it_is change bytes_of records files path l owner stays plain in
      (subst (DiffersFromEntry d l.entry) same, subst (DiffersFromEntry d l.entry) (sym same))

  module _ (l : Listing) (comes : added_owner_listing change path ≡ Some l) where
    claimed : is_listed_after_change change path ≡ true
    claimed = claimed_by_owner change path l (coming_is change path l comes).0

    not_aside : is_name_of_written_apk_new_file change files path ≡ false
    not_aside = by_path (path_of_apk_new_name path) refl
      where
        by_laid : (q : List ℕ) → path_of_apk_new_name path ≡ Some q → (o : Option Listing) → listing_written_as_apk_new_beside change files q ≡ o → is_some o ≡ false
        by_laid q e None laid = refl
        by_laid q e (Some m) laid =
            absurd (true≢false (sym claimed ∙ (ap (is_listed_after_change change) (beside_is path q e) ∙ nobody_beside change files q m laid)))

        by_path : (o : Option (List ℕ)) → path_of_apk_new_name path ≡ o → is_some (option_and_then (listing_written_as_apk_new_beside change files) o) ≡ false
        by_path None e = refl
        by_path (Some q) e = by_laid q e (listing_written_as_apk_new_beside change files q) refl

    -- ---- whether the user changed it

    abbrev Users : Type 0
    Users = HasModifiedConfigFile change files path

    abbrev Nobodys : Type 0
    Nobodys = (bytes : List ℕ) → IsModifiedConfigFile change files path bytes → ⊥

    some_is : (a b : List ℕ) → Some a ≡ Some b → a ≡ b
    some_is a b e = cc

    listing_is : (m : Listing) → added_owner_listing change path ≡ Some m → l ≡ m
    listing_is m e = let same : Some l ≡ Some m = sym comes ∙ e in (cc)

    entry_same : (a b : Plain) → Some a ≡ Some b → a ≡ b
    entry_same a b e = cc

    users_or_nobodys : Users ⊎ Nobodys
    users_or_nobodys = by_guard (is_protected_path path) refl (files path) refl
      where
        by_old : (bytes : List ℕ) → is_protected_path path ≡ true → files path ≡ Some bytes → is_as_listed l.entry bytes ≡ false → (o : Option Plain) → old_file_entry change path ≡ o → Users ⊎ Nobodys
        by_old bytes guarded present unlike None e =
            inl (
              bytes,
              record {
                guarded = guarded;
                present = present;
                unlike_new = λ m is. ap (λ (k : Listing). is_as_listed k.entry bytes) (sym (listing_is m is)) ∙ unlike;
                unlike_old = λ entry is. absurd (cc (e, is));
              },
            )
        by_old bytes guarded present unlike (Some old) e = by_test (is_as_listed old bytes) refl
          where
            by_test : (b : Bool) → is_as_listed old bytes ≡ b → Users ⊎ Nobodys
            by_test true t =
                inr (λ other own. true≢false (sym t ∙ (ap (is_as_listed old) (some_is bytes other (sym present ∙ own.present)) ∙ own.unlike_old old e)))
            by_test false t =
                inl (
                  bytes,
                  record {
                    guarded = guarded;
                    present = present;
                    unlike_new = λ m is. ap (λ (k : Listing). is_as_listed k.entry bytes) (sym (listing_is m is)) ∙ unlike;
                    unlike_old = λ entry is. ap (λ (p : Plain). is_as_listed p bytes) (sym (entry_same old entry (sym e ∙ is))) ∙ t;
                  },
                )

        by_new : (bytes : List ℕ) → is_protected_path path ≡ true → files path ≡ Some bytes → (b : Bool) → is_as_listed l.entry bytes ≡ b → Users ⊎ Nobodys
        by_new bytes guarded present true t =
            inr (λ other own. true≢false (sym t ∙ (ap (is_as_listed l.entry) (some_is bytes other (sym present ∙ own.present)) ∙ own.unlike_new l comes)))
        by_new bytes guarded present false t = by_old bytes guarded present t (old_file_entry change path) refl

        by_guard : (g : Bool) → is_protected_path path ≡ g → (o : Option (List ℕ)) → files path ≡ o → Users ⊎ Nobodys
        by_guard false t o e = inr (λ other own. true≢false (sym own.guarded ∙ t))
        by_guard true t None e = inr (λ other own. (let present = own.present in absurd (cc (e, present))))
        by_guard true t (Some bytes) e = by_new bytes t e (is_as_listed l.entry bytes) refl

    -- ---- after the change

    after_users : (bytes : List ℕ) → IsModifiedConfigFile change files path bytes → files_after_change change bytes_of records files path ≡ Some bytes
    after_users bytes own = users_file_is_spared change bytes_of records files path bytes (inr claimed) own not_aside plain

    after_nobodys : Nobodys → files_after_change change bytes_of records files path ≡ Some (bytes_of l)
    after_nobodys nobodys = takes_its_path change bytes_of records files path l (takes_path change files path l comes nobodys) plain

    abbrev Left : Difference → Type 0
    Left d = (d ≡ Changed) × (HasModifiedConfigFile change files path ⊎ (is_as_listed l.entry (bytes_of l) ≡ false))

    pub left_by : (d : Difference) → DiffersFromEntry d l.entry (files_after_change change bytes_of records files path) → Left d
    left_by d differs =
        elim users_or_nobodys [
          | inl users ↦ (let (bytes, own) = users in
              let is = differs_by l.entry (files_after_change change bytes_of records files path) bytes d (after_users bytes own) differs in
              (is.0, inl users))
          | inr nobodys ↦ (let is = differs_by l.entry (files_after_change change bytes_of records files path) (bytes_of l) d (after_nobodys nobodys) differs in
              (is.0, inr is.1))
        ]

    changed_so_far : HasModifiedConfigFile change files path ⊎ (is_as_listed l.entry (bytes_of l) ≡ false) → DiffersFromEntry Changed l.entry (files_after_change change bytes_of records files path)
    changed_so_far (inl (bytes, own)) = changed_by l.entry (files_after_change change bytes_of records files path) bytes (after_users bytes own) (own.unlike_new l comes)
    changed_so_far (inr unlike) =
        elim users_or_nobodys [
          | inl users ↦ (let (bytes, own) = users in changed_by l.entry (files_after_change change bytes_of records files path) bytes (after_users bytes own) (own.unlike_new l comes))
          | inr nobodys ↦ changed_by l.entry (files_after_change change bytes_of records files path) (bytes_of l) (after_nobodys nobodys) unlike
        ]

    pub by_left : (d : Difference) → Left d → DiffersFromEntry d l.entry (files_after_change change bytes_of records files path)
    by_left d left = subst (λ (e : Difference). DiffersFromEntry e l.entry (files_after_change change bytes_of records files path)) (sym left.0) (changed_so_far left.1)
