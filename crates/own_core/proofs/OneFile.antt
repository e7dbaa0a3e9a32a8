-- What becomes of one file, by what was found under its path.
use Rattle.std.proofs.Common.{◌≡◌, ◌⊎◌, inl, inr, ◌∙◌, ℕ, Bool, true, false, List, Option, Some, None, refl, ap, sym, subst}
use Rattle.std.specs.Prelude.{◌&&◌, ◌||◌, not, if◌then◌else◌, IsSomeAnd}
use Rattle.adb_view.specs.Plain.{Plain}
use Rattle.base_core.specs.Calls.{IfObservable}
use Rattle.base_core.specs.Tree.{TreeState, files_of}
use Rattle.base_core.proofs.Observed.{found_there}
use Rattle.file_owners.specs.db_core.Members.{members_of_kept}
use Rattle.path_claim_lists.specs.path_claims.Claims.{PathClaim}
use Rattle.file_guard.specs.AsListed.{is_as_listed}
use Rattle.file_guard.specs.Listed.{DescribesEntry, comparison_of_found_file, is_as_described}
use Rattle.file_guard.specs.declared.compare.Comparison.{Comparison}
use Rattle.file_guard.specs.declared.compare.ListedFile.{ListedFile}
use Rattle.file_guard.proofs.Told.{told_as_listed}
use Rattle.own_core.specs.Fate as Fates
use Rattle.own_core.specs.Fate.{fate_if_user_modified_file, fate_with_file_found, goes_in, is_as_old_entry_lists, is_protected_path}
use Rattle.own_core.specs.FileChange.{FileChange, old_file_entry}
use Rattle.own_core.specs.FilesAfter.{is_present_and_modified_from_entry}
use Rattle.own_core.specs.ClaimEntries.{claim_entry}
use Rattle.own_core.specs.Fates.{DescribesEntryIfAny, claim_fate}
use Rattle.own_core.specs.Found.{IsByFile}
use Rattle.own_core.specs.Going.{is_file_kept}

as_told_old : (listed : Option ListedFile) (before : Option Plain) (bytes : List ℕ) → DescribesEntryIfAny listed before → is_as_described listed bytes ≡ is_as_old_entry_lists before bytes
as_told_old None None bytes of = refl
as_told_old None (Some entry) bytes of = absurd of
as_told_old (Some listed) None bytes of = absurd of
as_told_old (Some listed) (Some entry) bytes of = told_as_listed listed entry bytes of

-- ---- a file that comes

-- the user changed the file that stands there
pub changed_fate : (change : FileChange) (h : List TreeState) (c : PathClaim) (name : List ℕ) (listed : ListedFile) (old : Option ListedFile) (found : Option Comparison) (fate : Fates.AddedFileFate)
    → name ≡ c.path → is_protected_path c.path ≡ true → DescribesEntry listed (claim_entry change.members c) → DescribesEntryIfAny old (old_file_entry change c.path)
    → (file : Option (List ℕ)) × IfObservable h (λ v. file ≡ files_of v name) × (found ≡ comparison_of_found_file (Some listed) old file)
    → IsSomeAnd found (λ d. (d.as_new ≡ false) × (d.as_old ≡ false)) → fate ≡ fate_if_user_modified_file change c.path (claim_entry change.members c) → IsByFile (claim_fate change) h c fate
changed_fate change h c name listed old found fate named guarded of before (file, told, is) changed goes = record {
  found = file;
  told = subst (λ q. IfObservable h (λ v. file ≡ files_of v q)) named told;
  is = goes ∙ sym (by_file file (subst (λ o. IsSomeAnd o (λ d. (d.as_new ≡ false) × (d.as_old ≡ false))) is changed));
}
  where
    by_file : (file : Option (List ℕ)) → IsSomeAnd (comparison_of_found_file (Some listed) old file) (λ d. (d.as_new ≡ false) × (d.as_old ≡ false))
        → fate_with_file_found change c.path (claim_entry change.members c) file ≡ fate_if_user_modified_file change c.path (claim_entry change.members c)
    by_file None off = absurd off
    by_file (Some bytes) unlike =
        let new : is_as_listed (claim_entry change.members c) bytes ≡ false = sym (told_as_listed listed (claim_entry change.members c) bytes of) ∙ unlike.0 in
        let so_far : is_as_old_entry_lists (old_file_entry change c.path) bytes ≡ false = sym (as_told_old old (old_file_entry change c.path) bytes before) ∙ unlike.1 in
        (λ j. if not (guarded j) || (new j || so_far j) then goes_in else fate_if_user_modified_file change c.path (claim_entry change.members c))

-- what is no configuration takes its path
pub unguarded_fate : (change : FileChange) (h : List TreeState) (c : PathClaim) → is_protected_path c.path ≡ false → IsByFile (claim_fate change) h c goes_in
unguarded_fate change h c unguarded =
    let (found, told) = found_there h c.path in
    record { found = found; told = told; is = sym (by_file found) }
  where
    by_file : (file : Option (List ℕ)) → claim_fate change c file ≡ goes_in
    by_file None = refl
    by_file (Some bytes) =
        ap (λ b. if not b || (is_as_listed (claim_entry change.members c) bytes || is_as_old_entry_lists (old_file_entry change c.path) bytes) then goes_in else fate_if_user_modified_file change c.path (claim_entry change.members c)) unguarded

-- ---- a file that is left over

pub no_stay : (change : FileChange) (h : List TreeState) (c : PathClaim) → (change.purge ≡ true) ⊎ (is_protected_path c.path ≡ false) → IsByFile (is_file_kept change) h c false
no_stay change h c goes =
    let (found, told) = found_there h c.path in
    record { found = found; told = told; is = sym (by_case (is_present_and_modified_from_entry (claim_entry (members_of_kept change.old) c) found) goes) }
  where
    off : (b : Bool) → (b && false) ≡ false
    off true = refl
    off false = refl

    by_case : (b : Bool) → (change.purge ≡ true) ⊎ (is_protected_path c.path ≡ false) → (is_protected_path c.path && (not change.purge && b)) ≡ false
    by_case b (inl purge) = ap (λ p. is_protected_path c.path && (not p && b)) purge ∙ off (is_protected_path c.path)
    by_case b (inr unguarded) = ap (λ g. g && (not change.purge && b)) unguarded
