-- A container that is made, and its outcome.
use Rattle.std.proofs.Common.{◌≡◌, ℕ, Bool, true, false, List, [], ◌∷◌, Option, Some, None, IsSome, Result, Ok, Err, Vec, length, refl, sym, ap, subst, ◌∙◌}
use Rattle.std.specs.Prelude.{if◌then◌else◌, IfOk, IfErr, is_ok}
use Rattle.std.specs.declared.alloc.Global.{Global}
use Rattle.std.proofs.lemmas.Bool.{false≢true}
use Rattle.adb_dump.specs.adb_schema.Reserved.{is_reserved}
use Rattle.base_core.specs.Calls.{IfObservable}
use Rattle.base_core.specs.Files.{Files, no_names}
use Rattle.base_core.specs.Tree.{TreeState, files_of}
use Rattle.make_core.specs.make_info.Information.{information}
use Rattle.make_core.specs.Index.{made_index}
use Rattle.make_core.specs.Kept.{AgreesUnlessMemoryOrDisk}
use Rattle.make_core.specs.make_info.Reads.{Reads}
use Rattle.make_core.specs.Answers.{IsMadeBySomeReads, IsMadeFromTree, UnlessDiskOrMemory}
use Rattle.make_core.specs.Making.{made_package}
use Rattle.make_core.specs.make_info.Output.{output_name}
use Rattle.make_core.specs.Files.{EachOperandReadFindsNoFileOrFileBytes, reads_of}
use Rattle.make_core.specs.package_files.Sources.{AreSortedAndEachBelowFirstFolder, values_of_letter}
use Rattle.make_core.specs.make_info.declared.fault.MakeFault.{MakeFault}
use Rattle.command_core.specs.declared.values.TheConstants.{FILES}
use Rattle.outcome.specs.Commands.{reads_in}
use Rattle.outcome.specs.Effect.{Makes}
use Rattle.outcome.specs.Make.{index_report_line, make_outcome, mkndx, mkpkg, outcome_unless_output_reserved}
use Rattle.outcome.proofs.Existing.{HaveOneList, listing_one}
use Rattle.outcome.specs.Outcome.{Outcome, just_refusal}
use Rattle.report_core.specs.declared.refusal.Refusal.{Refusal}
use Rattle.report_core.specs.declared.refusal.Refusal.TheVariants.{Reserved, ResultTooLarge}
use Rattle.command_core.specs.Command.{CommandLine}
use Rattle.apk_front.specs.Moments.{CanAddOutputNamesIfAny}
use Rattle.apk_front.specs.Runs.{IsRunAfterRecovery}
use Rattle.apk_front.specs.Containers.{IsIndexMade, IsIndexFound, IsIndexOutcome, IsPackageMade, IsPackageOutcome, OnMade, is_disk_or_memory, is_making_ended_by_disk_or_memory, made_file_bytes}
use Rattle.apk_front.specs.Verdicts.{Reports, ReportsOneOfOutcomes, as_outcome}
use Rattle.apk_front.specs.declared.answer.Verdict.{Verdict}
use Rattle.apk_front.proofs.Packages.{HaveListing, made_allowed, package_here}
use Rattle.apk_front.proofs.Runs.{History, Judged, Leaves, left_at, run_among, run_idle}
use Rattle.make_core.specs.make_info.declared.fault.MakeFault.TheVariants as Faults

abbrev pub Container : Type 0
Container = Result (Vec ℕ Global) MakeFault

-- ---- what a call that makes says

refusal_means : (why : MakeFault) (Means : Result (List ℕ) MakeFault → Type 0) → UnlessDiskOrMemory why Means → is_disk_or_memory why ≡ false → Means (Err why)
refusal_means (Faults.FileMissing place) Means h cut = h
refusal_means (Faults.FileBad place cause) Means h cut = h
refusal_means (Faults.InfoBad place) Means h cut = h
refusal_means (Faults.TooLarge bytes values) Means h cut = h
refusal_means Faults.Disk Means h cut = cc
refusal_means Faults.Memory Means h cut = cc

pub means : (container : Container) (Means : Result (List ℕ) MakeFault → Type 0) → IfOk container (λ file. Means (Ok file.items)) → IfErr container (λ why. UnlessDiskOrMemory why Means) → OnMade container Means
means (Ok file) Means ok err = ok
means (Err why) Means ok err = refusal_means why Means err

pub weaker : (container : Container) (Means Also : Result (List ℕ) MakeFault → Type 0) → ((made : Result (List ℕ) MakeFault) → Means made → Also made) → OnMade container Means → OnMade container Also
weaker (Ok file) Means Also f m = f (Ok file.items) m
weaker (Err why) Means Also f m = λ cut. f (Err why) (m cut)

refusal_at : (why : MakeFault) (v : TreeState) (rest : History) (Means : TreeState → Result (List ℕ) MakeFault → Type 0) → UnlessDiskOrMemory why (λ made. IfObservable (v ∷ rest) (λ w. Means w made)) → UnlessDiskOrMemory why (Means v)
refusal_at (Faults.FileMissing place) v rest Means h = h
refusal_at (Faults.FileBad place cause) v rest Means h = h
refusal_at (Faults.InfoBad place) v rest Means h = h
refusal_at (Faults.TooLarge bytes values) v rest Means h = h
refusal_at Faults.Disk v rest Means h = tt
refusal_at Faults.Memory v rest Means h = tt

pub means_at : (container : Container) (old : History) (Means : TreeState → Result (List ℕ) MakeFault → Type 0) → IfOk container (λ file. IfObservable old (λ v. Means v (Ok file.items)))
    → IfErr container (λ why. UnlessDiskOrMemory why (λ made. IfObservable old (λ v. Means v made))) → IfObservable old (λ v. OnMade container (Means v))
means_at container [] Means ok err = tt
means_at (Ok file) (v ∷ rest) Means ok err = ok
means_at (Err why) (v ∷ rest) Means ok err = refusal_means why (Means v) (refusal_at why v rest Means err)

map_observable : (old : History) (P Q : TreeState → Type 0) → ((v : TreeState) → P v → Q v) → IfObservable old P → IfObservable old Q
map_observable [] P Q f p = tt
map_observable (v ∷ rest) P Q f p = f v p

pub package_made : HaveListing → (command : CommandLine) (container : Container) (old : History) → IfOk container (λ file. IfObservable old (λ v. IsMadeFromTree command v (Ok file.items)))
    → IfErr container (λ why. UnlessDiskOrMemory why (λ made. IfObservable old (λ v. IsMadeFromTree command v made))) → IfObservable old (λ v. OnMade container (IsPackageMade command (files_of v)))
package_made law command container old ok err =
    map_observable old (λ v. OnMade container (IsMadeFromTree command v)) (λ v. OnMade container (IsPackageMade command (files_of v)))
    (λ v m. weaker container (IsMadeFromTree command v) (IsPackageMade command (files_of v)) (λ made. package_here law command v made) m)
    (means_at container old (IsMadeFromTree command) ok err)

pub package_found : (command : CommandLine) (container : Container) → IfOk container (λ file. IsMadeBySomeReads command (Ok file.items)) → IfErr container (λ why. UnlessDiskOrMemory why (IsMadeBySomeReads command)) → OnMade container (IsMadeBySomeReads command)
package_found command container ok err =
    weaker container (IsMadeBySomeReads command) (IsMadeBySomeReads command) (λ made m. m) (means container (IsMadeBySomeReads command) ok err)

made_means : (container : Container) (answer : Result (List ℕ) MakeFault) → AgreesUnlessMemoryOrDisk (λ (file : Vec ℕ Global). file.items) container answer → OnMade container (λ made. answer ≡ made)
made_means (Ok file) answer h = h
made_means (Err (Faults.FileMissing place)) answer h = λ cut. h
made_means (Err (Faults.FileBad place cause)) answer h = λ cut. h
made_means (Err (Faults.InfoBad place)) answer h = λ cut. h
made_means (Err (Faults.TooLarge bytes values)) answer h = λ cut. h
made_means (Err Faults.Disk) answer h = λ cut. cc
made_means (Err Faults.Memory) answer h = λ cut. cc

pub index_made : (command : CommandLine) (container : Container) (old : History) → IfObservable old (λ v. AgreesUnlessMemoryOrDisk (λ (file : Vec ℕ Global). file.items) container (made_index command (reads_of v))) → IfObservable old (λ v. OnMade container (IsIndexMade command (files_of v)))
index_made command container old h =
    map_observable old (λ v. AgreesUnlessMemoryOrDisk (λ (file : Vec ℕ Global). file.items) container (made_index command (reads_of v))) (λ v. OnMade container (IsIndexMade command (files_of v)))
    (λ v m. made_means container (made_index command (reads_of v)) m) h

pub index_found : (command : CommandLine) (container : Container) → (read : Reads) × EachOperandReadFindsNoFileOrFileBytes read 0 command.operands × AgreesUnlessMemoryOrDisk (λ (file : Vec ℕ Global). file.items) container (made_index command read) → OnMade container (IsIndexFound command)
index_found command container (read, files, m) =
    weaker container (λ made. made_index command read ≡ made) (IsIndexFound command) (λ made is. record { read = read; files = files; is = is }) (made_means container (made_index command read) m)

-- ---- there is an output

pub package_output : (command : CommandLine) (container : Container) → OnMade container (IsMadeBySomeReads command) → (is_ok (information command) ≡ true → IsSome (output_name command)) → IfOk container (λ file. IsSome (output_name command))
package_output command (Ok file) found there = there (made_allowed command found.names found.read file.items found.is)
package_output command (Err why) found there = tt

-- ---- what comes of it

abbrev pub Outcomes : Type 1
Outcomes = TreeState → Outcome → Type 0

pub large_is : (output : Option (List ℕ)) (why : MakeFault) (bytes values : ℕ) (refusal : Refusal) → why ≡ Faults.TooLarge bytes values
    → ((files : Files) → just_refusal files refusal ≡ outcome_unless_output_reserved files output (just_refusal files (ResultTooLarge bytes values))) → (files : Files) (report : List ℕ) → make_outcome files output report (Err why) ≡ just_refusal files refusal
large_is output why bytes values refusal is found files report = ap (λ (w : MakeFault). make_outcome files output report (Err w)) is ∙ sym (found files)

-- that nothing was made is reported
pub refusal_reports : (verdict : Verdict) (refusal : Refusal) (output : Option (List ℕ)) (why : MakeFault) → ((files : Files) → as_outcome files verdict ≡ just_refusal files refusal)
    → ((files : Files) (report : List ℕ) → make_outcome files output report (Err why) ≡ just_refusal files refusal) → (files : Files) (report : List ℕ) → Reports verdict (make_outcome files output report (Err why))
refusal_reports verdict refusal output why found is files report = subst (Reports verdict) (sym (is files report)) (found files)

pub refused_some : (verdict : Verdict) (refusal : Refusal) → ((files : Files) → as_outcome files verdict ≡ just_refusal files refusal) → IsSome verdict.refusal
refused_some verdict refusal found = subst (λ (o : Option Refusal). IsSome o) (sym (ap (λ (x : Outcome). x.refusal) (found no_names))) refl

pub refused_made : (output : Option (List ℕ)) (container : Container) (why : MakeFault) (judged : Judged) → container ≡ Err why → IfOk judged (λ verdict. (files : Files) (report : List ℕ) → Reports verdict (make_outcome files output report (Err why)))
    → (report : List ℕ) → IfOk judged (λ verdict. (files : Files) → Reports verdict (make_outcome files output report (made_file_bytes container)))
refused_made output container why (Ok verdict) is found report = λ files. subst (λ (c : Container). Reports verdict (make_outcome files output report (made_file_bytes c))) (sym is) (found files report)
refused_made output container why (Err e) is found report = tt

unless_leaves : (output : Option (List ℕ)) (files : Files) (o : Outcome) → Leaves files o → Leaves files (outcome_unless_output_reserved files output o)
unless_leaves None files o leaves = leaves
unless_leaves (Some name) files o leaves =
    elim (is_reserved name) as (λ b. Leaves files (if b then just_refusal files (Reserved name) else o)) [
      | true ↦ (refl, refl)
      | false ↦ leaves
    ]

-- where nothing was made the files are left
fault_leaves : (output : Option (List ℕ)) (report : List ℕ) (files : Files) (why : MakeFault) → Leaves files (make_outcome files output report (Err why))
fault_leaves output report files (Faults.FileMissing place) = (refl, refl)
fault_leaves output report files (Faults.FileBad place cause) = (refl, refl)
fault_leaves output report files (Faults.InfoBad place) = (refl, refl)
fault_leaves output report files (Faults.TooLarge bytes values) = unless_leaves output files (just_refusal files (ResultTooLarge bytes values)) (refl, refl)
fault_leaves output report files Faults.Disk = (refl, refl)
fault_leaves output report files Faults.Memory = (refl, refl)

-- what is made is refused
pub refused_run : (output : Option (List ℕ)) (report : List ℕ) (container : Container) (why : MakeFault) (judged : Judged) (old now : History) → container ≡ Err why → now ≡ old
    → IfObservable old (λ v. IsRunAfterRecovery (λ o. o ≡ make_outcome (files_of v) output report (made_file_bytes container)) Makes output judged v old now)
refused_run output report container why judged old now is same =
    left_at (λ v o. o ≡ make_outcome (files_of v) output report (made_file_bytes container)) Makes output judged old now same
    (λ v o one. subst (Leaves (files_of v)) (sym (one ∙ ap (λ (c : Container). make_outcome (files_of v) output report (made_file_bytes c)) is)) (fault_leaves output report (files_of v) why))

-- what is made is written
pub written_made : (output : Option (List ℕ)) (report : List ℕ) (container : Container) (file : Vec ℕ Global) (bytes : List ℕ) (judged : Judged) (old now : History) → container ≡ Ok file → bytes ≡ file.items
    → IfObservable old (λ v. IsRunAfterRecovery (λ o. o ≡ make_outcome (files_of v) output report (Ok bytes)) Makes output judged v old now)
    → IfObservable old (λ v. IsRunAfterRecovery (λ o. o ≡ make_outcome (files_of v) output report (made_file_bytes container)) Makes output judged v old now)
written_made output report container file bytes judged old now is same run =
    subst (λ (r : Result (List ℕ) MakeFault). IfObservable old (λ v. IsRunAfterRecovery (λ o. o ≡ make_outcome (files_of v) output report r) Makes output judged v old now)) (ap Ok same ∙ sym (ap made_file_bytes is)) run

-- outcomes that what is made determines
pub record AreOutcomes (Means : TreeState → Result (List ℕ) MakeFault → Type 0) (IsOne : Outcomes) (output : Option (List ℕ)) (report : List ℕ) : Type 0 where
  pub one : (v : TreeState) (answer : Result (List ℕ) MakeFault) → Means v answer → IsOne v (make_outcome (files_of v) output report answer)
  pub only : (v : TreeState) (answer : Result (List ℕ) MakeFault) → Means v answer → (o : Outcome) → IsOne v o → o ≡ make_outcome (files_of v) output report answer

meant : (container : Container) (Means : Result (List ℕ) MakeFault → Type 0) → is_making_ended_by_disk_or_memory container ≡ false → OnMade container Means → Means (made_file_bytes container)
meant (Ok file) Means cut m = m
meant (Err why) Means cut m = m cut

module _ (Means : TreeState → Result (List ℕ) MakeFault → Type 0) (IsOne : Outcomes) (output : Option (List ℕ)) (report : List ℕ) (are : AreOutcomes Means IsOne output report) (container : Container) where
  pub reports_one : (judged : Judged) (old : History) → IfObservable old (λ v. OnMade container (Means v)) → IfOk judged (λ verdict. is_making_ended_by_disk_or_memory container ≡ false)
      → IfOk judged (λ verdict. (files : Files) → Reports verdict (make_outcome files output report (made_file_bytes container))) → IfOk judged (λ verdict. IfObservable old (λ v. ReportsOneOfOutcomes (IsOne v) verdict))
  reports_one (Err e) old found whole reports = tt
  reports_one (Ok verdict) [] found whole reports = tt
  reports_one (Ok verdict) (v ∷ rest) found whole reports =
      (make_outcome (files_of v) output report (made_file_bytes container), are.one v (made_file_bytes container) (meant container (Means v) whole found), reports (files_of v))

  runs_by : (judged : Judged) (v : TreeState) (rest now : History) (b : Bool) → is_making_ended_by_disk_or_memory container ≡ b → OnMade container (Means v) → IfOk judged (λ verdict. is_making_ended_by_disk_or_memory container ≡ false) → (is_making_ended_by_disk_or_memory container ≡ true → now ≡ v ∷ rest)
      → IsRunAfterRecovery (λ o. o ≡ make_outcome (files_of v) output report (made_file_bytes container)) Makes output judged v (v ∷ rest) now → IsRunAfterRecovery (IsOne v) Makes output judged v (v ∷ rest) now
  runs_by judged v rest now false is found whole cut run =
      run_among (λ o. o ≡ make_outcome (files_of v) output report (made_file_bytes container)) (IsOne v) Makes output judged v (v ∷ rest) now
      (λ o same. subst (IsOne v) (sym same) (are.one v (made_file_bytes container) (meant container (Means v) is found))) (are.only v (made_file_bytes container) (meant container (Means v) is found)) run
  runs_by (Ok verdict) v rest now true is found whole cut run = absurd (false≢true (sym whole ∙ is))
  runs_by (Err e) v rest now true is found whole cut run = run_idle (IsOne v) Makes output (Err e) v rest now (cut is) (λ o one. tt)

  pub runs : (judged : Judged) (old mid now : History) → mid ≡ old → IfObservable old (λ v. OnMade container (Means v)) → IfOk judged (λ verdict. is_making_ended_by_disk_or_memory container ≡ false) → (is_making_ended_by_disk_or_memory container ≡ true → now ≡ mid)
      → IfObservable mid (λ v. IsRunAfterRecovery (λ o. o ≡ make_outcome (files_of v) output report (made_file_bytes container)) Makes output judged v mid now) → IfObservable old (λ v. IsRunAfterRecovery (IsOne v) Makes output judged v old now)
  runs judged [] mid now same found whole cut run = tt
  runs judged (v ∷ rest) mid now same found whole cut run =
      runs_by judged v rest now (is_making_ended_by_disk_or_memory container) refl found whole (λ is. cut is ∙ same)
      (subst (λ (h : History). IfObservable h (λ v. IsRunAfterRecovery (λ o. o ≡ make_outcome (files_of v) output report (made_file_bytes container)) Makes output judged v h now)) same run)

  room_by : (c : Container) (v : TreeState) → OnMade c (Means v) → ((o : Outcome) → IsOne v o → o.commits ≡ true → CanAddOutputNamesIfAny output (files_of v))
      → IfOk c (λ file. (make_outcome (files_of v) output report (Ok file.items)).commits ≡ true → CanAddOutputNamesIfAny output (files_of v))
  room_by (Ok file) v found room = room (make_outcome (files_of v) output report (Ok file.items)) (are.one v (Ok file.items) found)
  room_by (Err why) v found room = tt

  pub proper_by : (old mid : History) (first second last : ℕ) → mid ≡ old → IfObservable old (λ v. OnMade container (Means v)) → IfObservable old (λ v. second ≡ first)
      → IfObservable mid (λ v. IfOk container (λ file. (make_outcome (files_of v) output report (Ok file.items)).commits ≡ true → CanAddOutputNamesIfAny output (files_of v)) → last ≡ second)
      → IfObservable old (λ v. ((o : Outcome) → IsOne v o → o.commits ≡ true → CanAddOutputNamesIfAny output (files_of v)) → last ≡ first)
  proper_by [] mid first second last same found before after = tt
  proper_by (v ∷ rest) mid first second last same found before after = λ room.
      subst (λ (h : History). IfObservable h (λ v. IfOk container (λ file. (make_outcome (files_of v) output report (Ok file.items)).commits ≡ true → CanAddOutputNamesIfAny output (files_of v)) → last ≡ second)) same after
      (room_by container v found room) ∙ before

-- ---- of a package

pub package_outcomes : HaveOneList → (command : CommandLine) (report : List ℕ) → report ≡ [] → AreOutcomes (λ v. IsPackageMade command (files_of v)) (λ v. IsPackageOutcome command (files_of v)) (output_name command) report
package_outcomes one command report none = record {
  one = λ v answer m. (
    m.names,
    m.listing,
    ap (make_outcome (files_of v) (output_name command) report) (sym m.is) ∙ ap (λ r. make_outcome (files_of v) (output_name command) r (made_package command m.names (reads_in (files_of v)))) none,
  );
  only = λ v answer m o (names, listed, is).
      is
      ∙ ap (λ r. make_outcome (files_of v) (output_name command) r (made_package command names (reads_in (files_of v)))) (sym none)
      ∙ ap (λ ns. make_outcome (files_of v) (output_name command) report (made_package command ns (reads_in (files_of v)))) (listing_one one (values_of_letter FILES command.values) (files_of v) names m.names listed m.listing)
      ∙ ap (make_outcome (files_of v) (output_name command) report) m.is;
}

pub package_read : (command : CommandLine) (report : List ℕ) (container : Container) (judged : Judged) → report ≡ [] → OnMade container (IsMadeBySomeReads command) → IfOk judged (λ verdict. is_making_ended_by_disk_or_memory container ≡ false)
    → IfOk judged (λ verdict. (files : Files) → Reports verdict (make_outcome files (output_name command) report (made_file_bytes container)))
    → IfOk judged (λ verdict. (names : List (List ℕ)) × AreSortedAndEachBelowFirstFolder (values_of_letter FILES command.values) names × (read : Reads) × Reports verdict (mkpkg read no_names command names))
package_read command report container (Err e) none found whole reports = tt
package_read command report container (Ok verdict) none found whole reports =
    let m = meant container (IsMadeBySomeReads command) whole found in
    let same : make_outcome no_names (output_name command) report (made_file_bytes container) ≡ mkpkg m.read no_names command m.names =
    ap (λ r. make_outcome no_names (output_name command) r (made_file_bytes container)) none ∙ ap (make_outcome no_names (output_name command) []) (sym m.is) in
    (m.names, m.named, m.read, subst (Reports verdict) same (reports no_names))

-- ---- of an index

pub index_outcomes : (command : CommandLine) (report : List ℕ) → report ≡ index_report_line (length command.operands) → AreOutcomes (λ v. IsIndexMade command (files_of v)) (λ v. IsIndexOutcome command (files_of v)) (output_name command) report
index_outcomes command report is = record {
  one = λ v answer m. ap (λ r. make_outcome (files_of v) (output_name command) r answer) is ∙ ap (make_outcome (files_of v) (output_name command) (index_report_line (length command.operands))) (sym m);
  only = λ v answer m o one.
      one ∙ ap (make_outcome (files_of v) (output_name command) (index_report_line (length command.operands))) m ∙ ap (λ r. make_outcome (files_of v) (output_name command) r answer) (sym is);
}

pub index_read : (command : CommandLine) (report : List ℕ) (container : Container) (judged : Judged) → report ≡ index_report_line (length command.operands) → OnMade container (IsIndexFound command) → IfOk judged (λ verdict. is_making_ended_by_disk_or_memory container ≡ false)
    → IfOk judged (λ verdict. (files : Files) → Reports verdict (make_outcome files (output_name command) report (made_file_bytes container)))
    → IfOk judged (λ verdict. (read : Reads) × EachOperandReadFindsNoFileOrFileBytes read 0 command.operands × Reports verdict (mkndx read no_names command))
index_read command report container (Err e) is found whole reports = tt
index_read command report container (Ok verdict) is found whole reports =
    let m = meant container (IsIndexFound command) whole found in
    let same : make_outcome no_names (output_name command) report (made_file_bytes container) ≡ mkndx m.read no_names command =
    ap (λ r. make_outcome no_names (output_name command) r (made_file_bytes container)) is ∙ ap (make_outcome no_names (output_name command) (index_report_line (length command.operands))) (sym m.is) in
    (m.read, m.files, subst (Reports verdict) same (reports no_names))
