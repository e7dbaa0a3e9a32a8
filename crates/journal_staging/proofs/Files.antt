-- A file of a package is read while others come to wait.
use Rattle.std.proofs.Common.{◌≡◌, ℕ, List, Option, Some, None, Result, Ok, Err, refl, ap, sym, subst, ◌∙◌, Bor}
use Rattle.std.specs.Prelude.{◌∷◌, drop, IsErrOf, OnOk}
use Rattle.file_guard.specs.adb_schema.Soundness.{payload_in, root_value_of_payload}
use Rattle.adb_view.specs.declared.tables.Which.TheVariants.{Package}
use Rattle.adb_view.specs.Plain.{Plain}
use Rattle.base_core.specs.Files.{Files}
use Rattle.base_core.specs.declared.cause.Cause.{Cause}
use Rattle.package_verifier.specs.Tested.{IsTestedOf, tested_len, tested_name, tested_value}
use Rattle.package_verifier.specs.package_reader.FileReading.{HasUnreadBytes, HaveOtherDigest, expected_file_of, remembered_fault, package_len_of_file, package_name_of_file}
use Rattle.package_verifier.specs.package_reader.declared.one_file.FilePieces.{FilePieces}
use Rattle.file_guard.specs.pkg_core.Contents.{ExpectedFile, bytes_of_file, contents_in, expected_files_of_package}
use Rattle.file_guard.specs.pkg_core.Opened.{expected_file_at}
use Rattle.file_guard.specs.pkg_core.Whole.{files_read_from_package, package_fault}
use Rattle.journal_staging.specs.Reading.{IsReadingIn}
use Rattle.journal_staging.specs.Sources.{AreListedContentsOf, IsFileSource, MayDenote, DenotesBytes}
use Rattle.journal_staging.specs.Spoiled.{IsFileWithOnlyContentsSpoiled, IsSpoiledForEachTested}
use Rattle.journal_staging.specs.declared.writes.PackagedFile.{PackagedFile}
use Rattle.journal_staging.specs.declared.writes.Source.{Source}
use Rattle.journal_staging.specs.declared.writes.Source.TheVariants.{Bytes, File, Link}
use Rattle.file_guard.specs.AsListed.{link_file_bytes_of_target}
use Rattle.journal_staging.specs.declared.writes.StageFault.TheVariants.{Bad, Disk}
use Rattle.package_verifier.specs.package_reader.declared.piece.PieceFault.{PieceFault}
use Rattle.package_verifier.specs.package_reader.declared.piece.PieceFault.TheVariants.{Bad as PieceBad, Disk as PieceDisk}
use Rattle.journal_staging.proofs.OtherContents.{spoiled}

pub source_reading : (files : Files) (f : PackagedFile) (bytes : List ℕ) (file : FilePieces)
    → package_name_of_file file ≡ tested_name f.package.now → package_len_of_file file ≡ tested_len f.package.now
    → ((name pkg : List ℕ) → IsTestedOf name pkg f.package.now → HasUnreadBytes file pkg (bytes_of_file f.folder f.file (contents_in (files_read_from_package pkg))))
    → IsFileSource files f bytes → IsReadingIn files file bytes
source_reading files f bytes file name len reading s = record {
  pkg = s.pkg;
  there = ap files (name ∙ s.tested.named) ∙ s.there;
  long = sym (len ∙ s.tested.long);
  reading = subst (HasUnreadBytes file s.pkg) (sym s.is) (reading s.name s.pkg s.tested);
}

-- ---- what a source is

pub given_stands : (files : Files) (source : Source) (own : Bor (List ℕ)) (bytes : List ℕ) → source ≡ Bytes own → DenotesBytes files source bytes → bytes ≡ own.now
given_stands files source own bytes is s = subst (λ (x : Source). DenotesBytes files x bytes) is s

pub link_stands : (files : Files) (source : Source) (target : Bor (List ℕ)) (bytes : List ℕ) → source ≡ Link target → DenotesBytes files source bytes → bytes ≡ link_file_bytes_of_target target.now
link_stands files source target bytes is s = subst (λ (x : Source). DenotesBytes files x bytes) is s

pub link_waits : (text target : List ℕ) (Waits : List ℕ → Type 0) → text ≡ drop 2 target
    → Waits (33 ∷ 60 ∷ 115 ∷ 121 ∷ 109 ∷ 108 ∷ 105 ∷ 110 ∷ 107 ∷ 62 ∷ text) → Waits (link_file_bytes_of_target target)
link_waits text target Waits is waits = subst (λ (t : List ℕ). Waits (33 ∷ 60 ∷ 115 ∷ 121 ∷ 109 ∷ 108 ∷ 105 ∷ 110 ∷ 107 ∷ 62 ∷ t)) is waits

pub file_stands : (files : Files) (source : Source) (f : PackagedFile) (bytes : List ℕ) → source ≡ File f → DenotesBytes files source bytes → IsFileSource files f bytes
file_stands files source f bytes is s = subst (λ (x : Source). DenotesBytes files x bytes) is s

-- ---- what a source may be

pub given_listed : (source : Source) (own : Bor (List ℕ)) (Waits : List ℕ → Type 0) → source ≡ Bytes own → Waits own.now → (bytes : List ℕ) × MayDenote source bytes × Waits bytes
given_listed source own Waits is waits = (own.now, subst (λ (x : Source). MayDenote x own.now) (sym is) refl, waits)

pub link_listed : (source : Source) (target : Bor (List ℕ)) (Waits : List ℕ → Type 0) → source ≡ Link target → Waits (link_file_bytes_of_target target.now) → (bytes : List ℕ) × MayDenote source bytes × Waits bytes
link_listed source target Waits is waits = (link_file_bytes_of_target target.now, subst (λ (x : Source). MayDenote x (link_file_bytes_of_target target.now)) (sym is) refl, waits)

pub file_listed : {A E : Type 0} (r : Result A E) (source : Source) (f : PackagedFile) (Waits : List ℕ → Type 0) → source ≡ File f → OnOk r ((bytes : List ℕ) × AreListedContentsOf f bytes × Waits bytes) → OnOk r ((bytes : List ℕ) × MayDenote source bytes × Waits bytes)
file_listed (Ok x) source f Waits is found = (found.0, subst (λ (s : Source). MayDenote s found.0) (sym is) found.1, found.2)
file_listed (Err e) source f Waits is found = tt

-- ---- a package that was changed since

spoiled_by_due : (tested : List ℕ) (f : PackagedFile) (cause : Cause) (bytes : List ℕ) (due : Option ExpectedFile) → package_fault tested ≡ None → expected_file_at f.folder f.file (expected_files_of_package (root_value_of_payload Package (payload_in tested))) ≡ due → HaveOtherDigest due bytes cause
    → (file : List ℕ) × IsFileWithOnlyContentsSpoiled tested file cause
spoiled_by_due tested f cause bytes None sound due other = absurd other
spoiled_by_due tested f cause bytes (Some e) sound due other = spoiled tested f.folder f.file e bytes cause sound due other.0 other.1

pub spoiled_since : (f : PackagedFile) (file : FilePieces) (cause : Cause) → expected_file_of file ≡ expected_file_at f.folder f.file (expected_files_of_package (tested_value f.package.now))
    → ((name pkg : List ℕ) → IsTestedOf name pkg f.package.now → HasUnreadBytes file pkg (bytes_of_file f.folder f.file (contents_in (files_read_from_package pkg))))
    → (remembered_fault file ≡ None → (bytes : List ℕ) × HaveOtherDigest (expected_file_of file) bytes cause) → IsSpoiledForEachTested f cause
spoiled_since f file cause due reading bad name tested is =
    let (bytes, other) = bad (reading name tested is).0 in
    spoiled_by_due tested f cause bytes (expected_file_of file) is.sound
    (sym (due ∙ ap (λ (v : Plain). expected_file_at f.folder f.file (expected_files_of_package v)) is.value)) other

-- ---- errors

-- a test that failed is no fault of the tree
pub not_disk : (fault : PieceFault) (cause : Cause) → fault ≡ PieceBad cause → fault ≡ PieceDisk → ⊥
not_disk fault cause is off = cc

-- the same of a change
pub bad_not_disk : (member : ℕ) (cause : Cause) → IsErrOf {T = Unit {0}} (Err (Bad member cause)) Disk → ⊥
bad_not_disk member cause is = cc

-- two errors `Bad` that are equal name one member and one cause
pub bad_parts : (m n : ℕ) (a b : Cause) → IsErrOf {T = Unit {0}} (Err (Bad m a)) (Bad n b) → (m ≡ n) × (a ≡ b)
bad_parts m n a b is = (cc, cc)
