-- A package that comes is found in its file, or its refusal tells why not.
use Rattle.std.proofs.Common.{◌≡◌, inl, inr, ◌∙◌, ℕ, ◌+◌, Bool, true, false, List, [], ◌∷◌, length, Option, Some, None, Result, Ok, Err, refl, ap, sym, subst, true≢false}
use Rattle.std.specs.Prelude.{not, bytes_eq, if◌then◌else◌, option_and_then, slice_get}
use Rattle.std.proofs.lemmas.Slice.Eq.{bytes_eq-Decides}
use Rattle.outcome.specs.adb_fields.FirstPair.{IsIn}
use Rattle.outcome.specs.adb_fields.Repeated.{package_name}
use Rattle.adb_view.specs.Plain.{Plain}
use Rattle.base_core.specs.declared.cause.Cause.{Cause}
use Rattle.outcome.specs.change_inputs.Inputs.{Inputs, first_index_read_number}
use Rattle.outcome.specs.change_outcome.ChangeOutcome.{ChangeWishes}
use Rattle.outcome.specs.change_outcome.MembersAfter.{added_package_by_path}
use Rattle.outcome.specs.change_outcome.PackageFiles.{AddedPackage, first_script_number_of_package, has_script_with_number, package_file_path_of_candidate, added_package_or_refusal, package_in_file, scripts_of_change, package_unless_other_than_candidate, unless_script_number, package_unless_bad_or_different, unless_script_needed}
use Rattle.outcome.specs.file_owners.Replaces.{package_version_text}
use Rattle.outcome.specs.make_info.Reads.{Reads}
use Rattle.outcome.specs.package_changes.Changes.{Replacement, change_of_name, is_candidate_named, names_before_and_selected, candidate_version_text}
use Rattle.outcome.specs.pkg_core.Whole.{package_fault}
use Rattle.outcome.specs.candidate_core.Candidates.{Candidate, is_same_id_by_nonempty_prefix}
use Rattle.report_core.specs.Numbers.{HASHES_FIELD, NAME_FIELD, VERSION_FIELD}
use Rattle.report_core.specs.Reports.{Change}
use Rattle.report_core.specs.declared.refusal.Refusal.{Refusal}
use Rattle.report_core.specs.declared.refusal.Refusal.TheVariants.{PackageBad, PackageDiffers, PackageMissing, ScriptNeeded}
use Rattle.refusal_laws.specs.AddedPackages.{IsSoundFileWithIdNameAndVersionOf, IsAddedAsSelected, IsFileReadForAddedPackage, package_file_found_by_read, selected_candidate_of_name}
use Rattle.refusal_laws.specs.PackageFaults.{IsAddedOrRemoved, IsFirstOfIdNameVersionThatDiffers}
use Rattle.refusal_laws.specs.ChangeFaults.{IsFaultOfPackage}
use Rattle.refusal_laws.proofs.Lists.{found_in}

-- ---- what its file says

abbrev pub differs : Candidate → ℕ → List ℕ → List ℕ → Refusal
differs c field wanted found = PackageDiffers c.name (candidate_version_text c) field wanted found

abbrev pub IsTold : Candidate → AddedPackage → Refusal → Type 0
IsTold c pkg refusal = (field : ℕ) × (wanted : List ℕ) × (found : List ℕ) × IsFirstOfIdNameVersionThatDiffers c pkg field wanted found × (differs c field wanted found ≡ refusal)

abbrev kept_package : Result AddedPackage Refusal → Result AddedPackage Refusal
kept_package r = r

not_same : (a b : List ℕ) → bytes_eq a b ≡ false → a ≡ b → ⊥
not_same a b apart is = true≢false (sym ((bytes_eq-Decides a b).1 is) ∙ apart)

module _ (c : Candidate) (pkg : AddedPackage) where
  abbrev pub by_fields : Bool → Bool → Bool → Result AddedPackage Refusal
  by_fields a b v =
      if not a then Err (differs c HASHES_FIELD c.id pkg.id) else if not b then Err (differs c NAME_FIELD c.name (package_name pkg.value))
      else if not v then Err (differs c VERSION_FIELD (candidate_version_text c) (package_version_text pkg.value)) else Ok pkg

  pub different_err : (refusal : Refusal) → package_unless_other_than_candidate c pkg ≡ Err refusal → IsTold c pkg refusal
  different_err refusal e = by_tests (is_same_id_by_nonempty_prefix c.id pkg.id) refl (bytes_eq c.name (package_name pkg.value)) refl (bytes_eq (candidate_version_text c) (package_version_text pkg.value)) refl e
    where
      by_tests : (a : Bool) → is_same_id_by_nonempty_prefix c.id pkg.id ≡ a → (b : Bool) → bytes_eq c.name (package_name pkg.value) ≡ b → (v : Bool) → bytes_eq (candidate_version_text c) (package_version_text pkg.value) ≡ v
          → by_fields a b v ≡ Err refusal → IsTold c pkg refusal
      by_tests false i b n v w e = (HASHES_FIELD, c.id, pkg.id, inl (refl, (refl, refl, i)), (let same : differs c HASHES_FIELD c.id pkg.id ≡ refusal = cc in same))
      by_tests true i false n v w e = (
        NAME_FIELD,
        c.name,
        package_name pkg.value,
        inr (inl (refl, i, (refl, refl, not_same c.name (package_name pkg.value) n))),
        (let same : differs c NAME_FIELD c.name (package_name pkg.value) ≡ refusal = cc in same),
      )
      by_tests true i true n false w e = (
        VERSION_FIELD,
        candidate_version_text c,
        package_version_text pkg.value,
        inr (inr (refl, i, (bytes_eq-Decides c.name (package_name pkg.value)).0 n, (refl, refl, not_same (candidate_version_text c) (package_version_text pkg.value) w))),
        (let same : differs c VERSION_FIELD (candidate_version_text c) (package_version_text pkg.value) ≡ refusal = cc in same),
      )
      by_tests true i true n true w e = absurd (cc (e))

  different_ok : (p : AddedPackage) → package_unless_other_than_candidate c pkg ≡ Ok p → (p ≡ pkg) × (is_same_id_by_nonempty_prefix c.id pkg.id ≡ true) × (package_name pkg.value ≡ c.name) × (package_version_text pkg.value ≡ candidate_version_text c)
  different_ok p e = by_tests (is_same_id_by_nonempty_prefix c.id pkg.id) refl (bytes_eq c.name (package_name pkg.value)) refl (bytes_eq (candidate_version_text c) (package_version_text pkg.value)) refl e
    where
      by_tests : (a : Bool) → is_same_id_by_nonempty_prefix c.id pkg.id ≡ a → (b : Bool) → bytes_eq c.name (package_name pkg.value) ≡ b → (v : Bool) → bytes_eq (candidate_version_text c) (package_version_text pkg.value) ≡ v
          → by_fields a b v ≡ Ok p → (p ≡ pkg) × (is_same_id_by_nonempty_prefix c.id pkg.id ≡ true) × (package_name pkg.value ≡ c.name) × (package_version_text pkg.value ≡ candidate_version_text c)
      by_tests false i b n v w e = absurd (cc (e))
      by_tests true i false n v w e = absurd (cc (e))
      by_tests true i true n false w e = absurd (cc (e))
      by_tests true i true n true w e = (
        (let same : pkg ≡ p = cc in sym same),
        i,
        sym ((bytes_eq-Decides c.name (package_name pkg.value)).0 n),
        sym ((bytes_eq-Decides (candidate_version_text c) (package_version_text pkg.value)).0 w),
      )

pub found_ok : (c : Candidate) (file : List ℕ) (pkg : AddedPackage) → added_package_or_refusal c (Some file) ≡ Ok pkg → IsSoundFileWithIdNameAndVersionOf c file × (pkg ≡ package_in_file file)
found_ok c file pkg e = by_fault (package_fault file) refl e
  where
    by_fault : (fault : Option Cause) → package_fault file ≡ fault → package_unless_bad_or_different c fault (package_in_file file) ≡ Ok pkg → IsSoundFileWithIdNameAndVersionOf c file × (pkg ≡ package_in_file file)
    by_fault None sound e =
        let ok = different_ok c (package_in_file file) pkg e in
        (record { sound = sound; id = ok.1; name = ok.2; version = ok.3 }, ok.0)
    by_fault (Some cause) sound e = absurd (cc (e))

pub path_is : (read : Reads) (n : ℕ) (c : Candidate) (path : Option (List ℕ)) → added_package_by_path read n c path ≡ added_package_or_refusal c (option_and_then (read n) path)
path_is read n c None = refl
path_is read n c (Some path) = refl

-- ---- scripts

pub script_ok : {A : Type 0} (no_scripts : Bool) (name : List ℕ) (pkg : Plain) (numbers : List ℕ) (a b : A) → unless_script_needed no_scripts name pkg numbers a ≡ Ok b → a ≡ b
script_ok true name pkg numbers a b e = (cc (e))
script_ok false name pkg numbers a b e = by_number (first_script_number_of_package pkg numbers) e
  where
    by_number : (o : Option ℕ) → unless_script_number name o a ≡ Ok b → a ≡ b
    by_number None e = (cc (e))
    by_number (Some number) e = absurd (cc (e))

abbrev pub IsScriptTold : Bool → List ℕ → Plain → List ℕ → Refusal → Type 0
IsScriptTold no_scripts name pkg numbers refusal = (script : ℕ) × (no_scripts ≡ false) × (first_script_number_of_package pkg numbers ≡ Some script) × (ScriptNeeded name script ≡ refusal)

pub script_err : {A : Type 0} (no_scripts : Bool) (name : List ℕ) (pkg : Plain) (numbers : List ℕ) (a : A) (refusal : Refusal) → unless_script_needed no_scripts name pkg numbers a ≡ Err refusal
    → IsScriptTold no_scripts name pkg numbers refusal
script_err true name pkg numbers a refusal e = absurd (cc (e))
script_err false name pkg numbers a refusal e = by_number (first_script_number_of_package pkg numbers) refl e
  where
    by_number : (o : Option ℕ) → first_script_number_of_package pkg numbers ≡ o → unless_script_number name o a ≡ Err refusal → IsScriptTold false name pkg numbers refusal
    by_number None is e = absurd (cc (e))
    by_number (Some number) is e = (number, refl, is, (let same : ScriptNeeded name number ≡ refusal = cc in same))

first_has : (pkg : Plain) (numbers : List ℕ) (script : ℕ) → first_script_number_of_package pkg numbers ≡ Some script → IsIn script numbers × (has_script_with_number pkg script ≡ true)
first_has pkg [] script e = absurd (cc (e))
first_has pkg (number ∷ numbers) script e = by_test (has_script_with_number pkg number) refl e (first_has pkg numbers script)
  where
    by_test : (b : Bool) → has_script_with_number pkg number ≡ b → (if b then Some number else first_script_number_of_package pkg numbers) ≡ Some script
        → (first_script_number_of_package pkg numbers ≡ Some script → IsIn script numbers × (has_script_with_number pkg script ≡ true)) → IsIn script (number ∷ numbers) × (has_script_with_number pkg script ≡ true)
    by_test true has e more = let same : script ≡ number = cc in (inl same, ap (has_script_with_number pkg) same ∙ has)
    by_test false has e more = let behind = more e in (inr behind.0, behind.1)

-- ---- of a change

-- a name of both sides, for which this is the number of the read
pub record IsNameAt (inputs : Inputs) (r : Replacement) (n : ℕ) (name : List ℕ) : Type 0 where
  pub place : ℕ
  pub is_place : slice_get (names_before_and_selected r) place ≡ Some name
  pub is_number : first_index_read_number + length inputs.root.repositories + place ≡ n

module _ (inputs : Inputs) (r : Replacement) (wishes : ChangeWishes) (read : Reads) where
  abbrev pub IsTrue : Refusal → Type 0
  IsTrue refusal = IsFaultOfPackage inputs r wishes read refusal

  pub script_fault : {A : Type 0} (name : List ℕ) (pkg : Plain) (change : Change) (a : A) (refusal : Refusal) → IsAddedOrRemoved inputs r read name pkg → change_of_name r name ≡ Some change
      → unless_script_needed wishes.no_scripts name pkg (scripts_of_change change) a ≡ Err refusal → IsTrue refusal
  script_fault name pkg change a refusal is becomes e =
      let told = script_err wishes.no_scripts name pkg (scripts_of_change change) a refusal e in
      let has = first_has pkg (scripts_of_change change) told.0 told.2 in
      subst IsTrue told.3 (record { asked = told.1; pkg = pkg; is_package = is; change = change; becomes = becomes; runs = has.0; has = has.1; first = told.2 })

  module _ (n : ℕ) (name : List ℕ) (at : IsNameAt inputs r n name) (change : Change) (becomes : change_of_name r name ≡ Some change) (c : Candidate) (selected : selected_candidate_of_name r name ≡ Some c) where
    named : c.name ≡ name
    named = (bytes_eq-Decides c.name name).0 (found_in (is_candidate_named name) r.selected c selected).1

    abbrev read_for : (file : Option (List ℕ)) → package_file_found_by_read read n inputs.root.repositories c ≡ file → IsFileReadForAddedPackage inputs r read name (candidate_version_text c) file
    read_for file is = record {
      candidate = c;
      selected = selected;
      has_version = refl;
      change = change;
      becomes = becomes;
      place = at.place;
      is_place = at.is_place;
      is_file = ap (λ k. package_file_found_by_read read k inputs.root.repositories c) at.is_number ∙ is;
    }

    different_fault : (file : List ℕ) (refusal : Refusal) → package_file_found_by_read read n inputs.root.repositories c ≡ Some file → package_fault file ≡ None → package_unless_other_than_candidate c (package_in_file file) ≡ Err refusal → IsTrue refusal
    different_fault file refusal is sound e =
        let why = different_err c (package_in_file file) refusal e in
        let same : PackageDiffers name (candidate_version_text c) why.0 why.1 why.2 ≡ refusal = ap (λ q. PackageDiffers q (candidate_version_text c) why.0 why.1 why.2) (sym named) ∙ why.4 in
        subst IsTrue same (record { file = file; is_read = read_for (Some file) is; sound = sound; other = why.3 })

    file_fault : (file : Option (List ℕ)) (refusal : Refusal) → package_file_found_by_read read n inputs.root.repositories c ≡ file → added_package_or_refusal c file ≡ Err refusal → IsTrue refusal
    file_fault None refusal is e =
        let told : PackageMissing c.name (candidate_version_text c) ≡ refusal = cc in
        let same : PackageMissing name (candidate_version_text c) ≡ refusal = ap (λ q. PackageMissing q (candidate_version_text c)) (sym named) ∙ told in
        subst IsTrue same (read_for None is)
    file_fault (Some file) refusal is e = by_fault (package_fault file) refl e
      where
        by_fault : (fault : Option Cause) → package_fault file ≡ fault → package_unless_bad_or_different c fault (package_in_file file) ≡ Err refusal → IsTrue refusal
        by_fault None sound e = different_fault file refusal is sound e
        by_fault (Some cause) fault e =
            let told : PackageBad c.name (candidate_version_text c) cause ≡ refusal = cc in
            let same : PackageBad name (candidate_version_text c) cause ≡ refusal = ap (λ q. PackageBad q (candidate_version_text c) cause) (sym named) ∙ told in
            subst IsTrue same (record { file = file; is_read = read_for (Some file) is; fault = fault })

    pub coming_fault : (refusal : Refusal) → added_package_by_path read n c (package_file_path_of_candidate inputs.root.repositories c) ≡ Err refusal → IsTrue refusal
    coming_fault refusal e =
        file_fault (package_file_found_by_read read n inputs.root.repositories c) refusal refl (sym (path_is read n c (package_file_path_of_candidate inputs.root.repositories c)) ∙ e)

    pub brought : (pkg : AddedPackage) → added_package_by_path read n c (package_file_path_of_candidate inputs.root.repositories c) ≡ Ok pkg → IsAddedAsSelected inputs r read name pkg
    brought pkg e = by_file (package_file_found_by_read read n inputs.root.repositories c) refl (sym (path_is read n c (package_file_path_of_candidate inputs.root.repositories c)) ∙ e)
      where
        by_file : (file : Option (List ℕ)) → package_file_found_by_read read n inputs.root.repositories c ≡ file → added_package_or_refusal c file ≡ Ok pkg → IsAddedAsSelected inputs r read name pkg
        by_file None is e = absurd (cc (e))
        by_file (Some file) is e =
            let ok = found_ok c file pkg e in
            record { version = candidate_version_text c; file = file; is_read = read_for (Some file) is; as_selected = ok.0; is_package = ok.1 }
