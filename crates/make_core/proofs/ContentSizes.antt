-- How many bytes the contents of a package's files are.
use Rattle.std.proofs.Common.{◌≡◌, ℕ, ◌+◌, Bool, true, false, if◌then◌else◌, List, [], ◌∷◌, ◌++◌, length, refl, arith}
use Rattle.std.specs.Prelude.{sum_by}
use Rattle.std.proofs.lemmas.Bool.{ltb-false}
use Rattle.std.proofs.lemmas.List.Sums.{sum_by-cons}
use Rattle.sha2.specs.Sha256.{sha256}
use Rattle.package_files.specs.pkg_core.Contents.{Contents}
use Rattle.package_files.specs.adb_sound.Contents.{total_size_of_file_contents}
use Rattle.package_files.specs.Package.{SourceFileNameAndBytes, SourceFolder, contents_of_file, contents_of_files, contents_of_folders, has_contents, installed_size, is_link_file}
use Rattle.package_files.specs.Package.{kind_of_file, link_text, size_of_folder, size_of_kind}
use Rattle.package_files.specs.declared.file.FileKind.{FileKind}
use Rattle.package_files.specs.declared.file.FileKind.TheVariants.{Link, Regular}

-- the kind of a file with contents has their size and their digest
abbrev pub IsKindOf : FileKind → List ℕ → Type 0
IsKindOf (Link target) bytes = Unit {0}
IsKindOf (Regular size digest) bytes = (size ≡ length bytes) × (digest ≡ sha256 bytes)

pub entry_is_of : (bytes : List ℕ) → IsKindOf (kind_of_file bytes) bytes
unfolding kind_of_file
entry_is_of bytes = by_link (is_link_file bytes)
  where
    by_link : (b : Bool) → IsKindOf (if b then Link (0 ∷ 160 ∷ link_text bytes) else Regular (length bytes) (sha256 bytes)) bytes
    by_link true = tt
    by_link false = (refl, refl)

-- ---- the sums

total-append : (cs ds : List Contents) → total_size_of_file_contents (cs ++ ds) ≡ total_size_of_file_contents cs + total_size_of_file_contents ds
total-append [] ds = omega arith
total-append (c ∷ cs) ds = omega (arith, total-append cs ds)

size_by : (d i : ℕ) (bytes : List ℕ) (kind : FileKind) → IsKindOf kind bytes → (b : Bool) → has_contents kind ≡ b
    → size_of_kind kind ≡ total_size_of_file_contents (if b then record { folder = d; file = i; bytes = bytes } ∷ [] else [])
size_by d i bytes (Link target) of true e = absurd (cc (e))
size_by d i bytes (Link target) of false e = refl
size_by d i bytes (Regular size digest) of true e = omega (arith, of.0)
size_by d i bytes (Regular size digest) of false e = omega (arith, ltb-false 0 size e)

file_total : (d i : ℕ) (bytes : List ℕ) → size_of_kind (kind_of_file bytes) ≡ total_size_of_file_contents (contents_of_file d i bytes)
file_total d i bytes = size_by d i bytes (kind_of_file bytes) (entry_is_of bytes) (has_contents (kind_of_file bytes)) refl

abbrev file_size : SourceFileNameAndBytes → ℕ
file_size file = size_of_kind (kind_of_file file.bytes)

files_total : (d i : ℕ) (files : List SourceFileNameAndBytes) → sum_by file_size files ≡ total_size_of_file_contents (contents_of_files d i files)
files_total d i [] = refl
files_total d i (file ∷ files) =
    omega (arith, sum_by-cons file_size file files, file_total d i file.bytes, files_total d (i + 1) files, total-append (contents_of_file d i file.bytes) (contents_of_files d (i + 1) files))

pub installed_total : (i : ℕ) (folders : List SourceFolder) → installed_size folders ≡ total_size_of_file_contents (contents_of_folders i folders)
installed_total i [] = refl
installed_total i (folder ∷ folders) =
    omega (arith, sum_by-cons size_of_folder folder folders, files_total i 1 folder.files, installed_total (i + 1) folders, total-append (contents_of_files i 1 folder.files) (contents_of_folders (i + 1) folders))
