-- What is answered of the package of a candidate.
use Rattle.std.proofs.Common.{◌≡◌, ℕ, Bool, true, false, List, [], ◌∷◌, Option, Some, None, Result, Ok, Err, refl, sym, ap, ◌∙◌, subst}
use Rattle.std.specs.Result.{IsErrAnd}
use Rattle.adb_view.specs.Plain.{Plain}
use Rattle.base_core.specs.Tree.{TreeState}
use Rattle.base_core.specs.declared.cause.Cause.{Cause}
use Rattle.change_inputs.specs.Answers.{Agrees, IsFileFoundInTree}
use Rattle.change_inputs.specs.Chains.{and_then}
use Rattle.change_inputs.specs.declared.root.Refused.{Refused}
use Rattle.change_outcome.specs.MembersAfter.{added_package_by_path}
use Rattle.change_outcome.specs.PackageFiles.{AddedPackage, package_file_path_of_candidate, added_package_or_refusal, package_in_file, scripts_of_change, package_unless_bad_or_different, package_unless_other_than_candidate, unless_script_number, unless_script_needed, first_script_number_of_package}
use Rattle.dep_core.specs.Repositories.{Repository}
use Rattle.change_inputs.specs.make_info.Reads.{Reads}
use Rattle.package_verifier.specs.pkg_core.Whole.{package_fault}
use Rattle.change_inputs.specs.candidate_core.Candidates.{Candidate}
use Rattle.report_core.specs.Reports.{Change}
use Rattle.report_core.specs.declared.refusal.Refusal as Refusals
use Rattle.report_core.specs.declared.refusal.Refusal.TheVariants.{PackageBad, PackageMissing}
use Rattle.package_changes.specs.Changes.{candidate_version_text}
use Rattle.change_outcome.specs.Arrivals.{IsPackageRead}
use Rattle.change_outcome.specs.NameReads.{FindsTreeFileOrFound, IsAnswerByRead, IsByRead, package_of_candidate_by_read, added_package_read, package_of_candidate_by_path}
use Rattle.package_verifier.specs.Tested.{IsPackageReadResult, IsTestedOf, tested_id, tested_name, tested_value}
use Rattle.package_verifier.specs.declared.read.PackageRead.{PackageRead}
use Rattle.package_verifier.specs.declared.read.PackageRead.TheVariants.{Absent, Bad, Sound}
use Rattle.package_verifier.specs.declared.package.TestedPackage.{TestedPackage}
use Rattle.change_outcome.proofs.NameAnswers.{finds_it}

-- what is under the name of a package's file was read
abbrev pub IsFileRead : List TreeState → List ℕ → PackageRead → Type 0
IsFileRead h path r = (found : Option (List ℕ)) × IsFileFoundInTree h path found × IsPackageReadResult path found r

module _ (h : List TreeState) (path : List ℕ) (c : Candidate) where
  by_file : (found : Option (List ℕ)) → IsFileFoundInTree h path found → (wanted : Result AddedPackage Refusals.Refusal) → added_package_or_refusal c found ≡ wanted → IsByRead h (package_of_candidate_by_path c path) wanted
  by_file found located wanted is = record { found = found; is = λ read n finds. ap (added_package_or_refusal c) (finds_it h read n path found located finds) ∙ is }

  pub absent_read : (r : PackageRead) → r ≡ Absent → IsFileRead h path r → IsByRead h (package_of_candidate_by_path c path) (Err (PackageMissing c.name (candidate_version_text c)))
  absent_read r is (found, located, read) = go found located (subst (IsPackageReadResult path found) is read)
    where
      go : (found : Option (List ℕ)) → IsFileFoundInTree h path found → IsPackageReadResult path found Absent → IsByRead h (package_of_candidate_by_path c path) (Err (PackageMissing c.name (candidate_version_text c)))
      go None located read = by_file None located _ refl
      go (Some file) located read = absurd read

  pub bad_read : (r : PackageRead) (cause : Cause) → r ≡ Bad cause → IsFileRead h path r → IsByRead h (package_of_candidate_by_path c path) (Err (PackageBad c.name (candidate_version_text c) cause))
  bad_read r cause is (found, located, read) = go found located (subst (IsPackageReadResult path found) is read)
    where
      go : (found : Option (List ℕ)) → IsFileFoundInTree h path found → IsPackageReadResult path found (Bad cause) → IsByRead h (package_of_candidate_by_path c path) (Err (PackageBad c.name (candidate_version_text c) cause))
      go None located read = absurd read
      go (Some file) located read = by_file (Some file) located _ (ap (λ fault. package_unless_bad_or_different c fault (package_in_file file)) read)

  -- a tested file: what its test gives is what the definition gives
  pub record IsSoundRead (pkg : TestedPackage) : Type 0 where
    pub coming : AddedPackage
    pub value : coming.value ≡ tested_value pkg
    pub id : coming.id ≡ tested_id pkg
    pub by : IsByRead h (package_of_candidate_by_path c path) (package_unless_other_than_candidate c coming)
    pub read : IsPackageRead h pkg coming

  pub sound_read : (r : PackageRead) (pkg : TestedPackage) → r ≡ Sound pkg → IsFileRead h path r → IsSoundRead pkg
  sound_read r pkg is (found, located, read) = go found located (subst (IsPackageReadResult path found) is read)
    where
      go : (found : Option (List ℕ)) → IsFileFoundInTree h path found → IsPackageReadResult path found (Sound pkg) → IsSoundRead pkg
      go None located read = absurd read
      go (Some file) located read = record {
        coming = package_in_file file;
        value = sym read.value;
        id = sym read.id;
        by = by_file (Some file) located _ (ap (λ fault. package_unless_bad_or_different c fault (package_in_file file)) read.sound);
        read = record {
          file = file;
          located = subst (λ q. IsFileFoundInTree h q (Some file)) (sym read.named) located;
          tested = subst (λ q. IsTestedOf q file pkg) (sym read.named) read;
          is = refl;
        };
      }

  pub sound_answer : (pkg : TestedPackage) (s : IsSoundRead pkg) → package_unless_other_than_candidate c s.coming ≡ Ok s.coming → (b : AddedPackage) × IsByRead h (package_of_candidate_by_path c path) (Ok b) × IsPackageRead h pkg b
  sound_answer pkg s passed = (s.coming, subst (IsByRead h (package_of_candidate_by_path c path)) passed s.by, s.read)

-- ---- scripts

script_refused_by : (b c : Bool) (name : List ℕ) (n : Option ℕ) (a : AddedPackage) (refusal : Refusals.Refusal) → unless_script_number name n true ≡ Err refusal → unless_script_number name n a ≡ Err refusal
script_refused_by b c name None a refusal is = absurd (cc)
script_refused_by b c name (Some k) a refusal is = let same : Refusals.Refusal = refusal in cc

pub script_refused : (no_scripts : Bool) (name : List ℕ) (pkg : Plain) (numbers : List ℕ) (a : AddedPackage) (refusal : Refusals.Refusal) → unless_script_needed no_scripts name pkg numbers true ≡ Err refusal → unless_script_needed no_scripts name pkg numbers a ≡ Err refusal
script_refused true name pkg numbers a refusal is = absurd (cc)
script_refused false name pkg numbers a refusal is = script_refused_by true true name (first_script_number_of_package pkg numbers) a refusal is

script_passed_by : (name : List ℕ) (n : Option ℕ) (a : AddedPackage) → unless_script_number name n true ≡ Ok true → unless_script_number name n a ≡ Ok a
script_passed_by name None a is = refl
script_passed_by name (Some k) a is = absurd (cc)

pub script_passed : (no_scripts : Bool) (name : List ℕ) (pkg : Plain) (numbers : List ℕ) (a : AddedPackage) → unless_script_needed no_scripts name pkg numbers true ≡ Ok true → unless_script_needed no_scripts name pkg numbers a ≡ Ok a
script_passed true name pkg numbers a is = refl
script_passed false name pkg numbers a is = script_passed_by name (first_script_number_of_package pkg numbers) a is

-- the values of a package that was read
pub value_read : (h : List TreeState) (pkg : TestedPackage) (coming : AddedPackage) → IsPackageRead h pkg coming → tested_value pkg ≡ coming.value
value_read h pkg coming r = r.tested.value ∙ sym (ap (λ (p : AddedPackage). p.value) r.is)

-- a package that was read, and then its scripts
module _ (repositories : List Repository) (no_scripts : Bool) (name : List ℕ) (change : Change) (c : Candidate) where
  pub refused_before : (read : Reads) (n : ℕ) (refusal : Refusals.Refusal) → package_of_candidate_by_read repositories c read n ≡ Err refusal → added_package_read repositories no_scripts name change c read n ≡ Err refusal
  refused_before read n refusal is = ap (λ r. and_then r (λ (pkg : AddedPackage). unless_script_needed no_scripts name pkg.value (scripts_of_change change) pkg)) is

  pub refused_by_script : (h : List TreeState) (pkg : TestedPackage) (coming : AddedPackage) → IsPackageRead h pkg coming → (read : Reads) (n : ℕ) (refusal : Refusals.Refusal) → package_of_candidate_by_read repositories c read n ≡ Ok coming
      → unless_script_needed no_scripts name (tested_value pkg) (scripts_of_change change) true ≡ Err refusal → added_package_read repositories no_scripts name change c read n ≡ Err refusal
  refused_by_script h pkg coming r read n refusal is test =
      ap (λ x. and_then x (λ (pkg : AddedPackage). unless_script_needed no_scripts name pkg.value (scripts_of_change change) pkg)) is
      ∙ script_refused no_scripts name coming.value (scripts_of_change change) coming refusal
      (subst (λ v. unless_script_needed no_scripts name v (scripts_of_change change) true ≡ Err refusal) (value_read h pkg coming r) test)

  pub passed_scripts : (h : List TreeState) (pkg : TestedPackage) (coming : AddedPackage) → IsPackageRead h pkg coming → unless_script_needed no_scripts name (tested_value pkg) (scripts_of_change change) true ≡ Ok true
      → IsByRead h (package_of_candidate_by_read repositories c) (Ok coming) → IsByRead h (added_package_read repositories no_scripts name change c) (Ok coming)
  passed_scripts h pkg coming r test part = record {
    found = part.found;
    is = λ read n finds.
        ap (λ x. and_then x (λ (pkg : AddedPackage). unless_script_needed no_scripts name pkg.value (scripts_of_change change) pkg)) (part.is read n finds)
        ∙ script_passed no_scripts name coming.value (scripts_of_change change) coming
        (subst (λ v. unless_script_needed no_scripts name v (scripts_of_change change) true ≡ Ok true) (value_read h pkg coming r) test);
  }
