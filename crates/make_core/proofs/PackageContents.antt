-- The contents that stand behind the value of a package are those that it expects.
use Rattle.std.proofs.Common.{◌≡◌, ℕ, ◌+◌, Bool, true, false, ◌&&◌, ◌==◌, eqb, nat_lt, if◌then◌else◌, List, [], ◌∷◌, ◌++◌, length, map, bytes_eq, None, refl, ap, sym, subst, ◌∙◌, Option}
use Rattle.std.proofs.lemmas.Slice.Eq.{bytes_eq-Decides}
use Rattle.sha2.specs.Sha256.{sha256}
use Rattle.sha2.proofs.Facts256.{length-sha256}
use Rattle.adb_view.specs.Plain.{Plain}
use Rattle.pkg_core.specs.adb_schema.Texts.{is_file_with_contents}
use Rattle.adb_view.specs.Values.{entry_at_index, int_in, text_in}
use Rattle.pkg_core.specs.Contents.{Contents, ExpectedFile, expected_file_if_with_contents, expected_files_of_package, expected_files_of_folder, expected_files_of_folders, fault_if_digest_is_not_of_bytes}
use Rattle.pkg_core.specs.GoodContents.{MatchEachExpectedSizeAndKnownDigest}
use Rattle.package_files.specs.Package.{Script, SourceFileNameAndBytes, SourceFolder, contents_of_file, contents_of_files, contents_of_folders, has_contents, kind_of_file}
use Rattle.package_files.specs.Package.{value_of_file, value_of_folder, value_of_kind, value_of_package}
use Rattle.package_files.specs.declared.file.FileKind.{FileKind}
use Rattle.package_files.specs.declared.file.FileKind.TheVariants.{Link, Regular}
use Rattle.make_core.proofs.ContentSizes.{IsKindOf, entry_is_of}
use Rattle.make_core.proofs.PackageFiles.{files_stand, folders_stand, hash_stands, size_stands, target_stands, with_contents}

-- ---- a file

never : (b : Bool) → (b && nat_lt 0 0) ≡ nat_lt 0 0
never true = refl
never false = refl

same_contents : (kind : FileKind) → with_contents kind ≡ has_contents kind
same_contents (Link target) = never (length target == 0)
same_contents (Regular size digest) = refl

expects : (name : List ℕ) (kind : FileKind) → is_file_with_contents (value_of_kind name kind) ≡ has_contents kind
expects name kind =
    let target = target_stands name kind in
    let size = size_stands name kind in
    (λ k. (length (target k) == 0) && nat_lt 0 (size k)) ∙ same_contents kind

own_digest : (bytes : List ℕ) → fault_if_digest_is_not_of_bytes (sha256 bytes) bytes ≡ None
unfolding fault_if_digest_is_not_of_bytes
own_digest bytes =
    let other : eqb (length (sha256 bytes)) 20 ≡ false = ap (λ n. eqb n 20) (length-sha256 bytes) in
    let own : eqb (length (sha256 bytes)) 32 ≡ true = ap (λ n. eqb n 32) (length-sha256 bytes) in
    let same : bytes_eq (sha256 bytes) (sha256 bytes) ≡ true = (bytes_eq-Decides (sha256 bytes) (sha256 bytes)).1 refl in
    rw (other, own, same) refl

file_contents : (d i : ℕ) (name bytes : List ℕ) (kind : FileKind) → IsKindOf kind bytes → (b : Bool) → has_contents kind ≡ b
    → MatchEachExpectedSizeAndKnownDigest (if b then record { folder = d; file = i; size = int_in (entry_at_index (value_of_kind name kind) 2); hash = text_in (entry_at_index (value_of_kind name kind) 4) } ∷ [] else [])
    (if b then record { folder = d; file = i; bytes = bytes } ∷ [] else [])
file_contents d i name bytes kind of false e = tt
file_contents d i name bytes (Link target) of true e = absurd (cc (e))
file_contents d i name bytes (Regular size digest) of true e = (
  record {
    folder = refl;
    file = refl;
    size = sym (size_stands name (Regular size digest) ∙ of.0);
    hash = ap (λ (h : List ℕ). fault_if_digest_is_not_of_bytes h bytes) (hash_stands name (Regular size digest) ∙ of.1) ∙ own_digest bytes;
  },
  tt,
)

at_good : (d i : ℕ) (file : SourceFileNameAndBytes) → MatchEachExpectedSizeAndKnownDigest (expected_file_if_with_contents d i (value_of_file file)) (contents_of_file d i file.bytes)
at_good d i file =
    let kind : FileKind = kind_of_file file.bytes in
    let this : List ExpectedFile = record { folder = d; file = i; size = int_in (entry_at_index (value_of_kind file.name kind) 2); hash = text_in (entry_at_index (value_of_kind file.name kind) 4) } ∷ [] in
    let those : List Contents = contents_of_file d i file.bytes in
    subst (λ (b : Bool). MatchEachExpectedSizeAndKnownDigest (if b then this else []) those) (sym (expects file.name kind)) (file_contents d i file.name file.bytes kind (entry_is_of file.bytes) (has_contents kind) refl)

-- ---- all of them

both : (es fs : List ExpectedFile) (cs ds : List Contents) → MatchEachExpectedSizeAndKnownDigest es cs → MatchEachExpectedSizeAndKnownDigest fs ds → MatchEachExpectedSizeAndKnownDigest (es ++ fs) (cs ++ ds)
both [] fs [] ds a b = b
both [] fs (c ∷ cs) ds a b = absurd a
both (e ∷ es) fs [] ds a b = absurd a
both (e ∷ es) fs (c ∷ cs) ds a b = (a.0, both es fs cs ds a.1 b)

files_contents : (d i : ℕ) (files : List SourceFileNameAndBytes) → MatchEachExpectedSizeAndKnownDigest (expected_files_of_folder d i (map value_of_file files)) (contents_of_files d i files)
files_contents d i [] = tt
files_contents d i (file ∷ files) =
    both (expected_file_if_with_contents d i (value_of_file file)) (expected_files_of_folder d (i + 1) (map value_of_file files)) (contents_of_file d i file.bytes) (contents_of_files d (i + 1) files) (at_good d i file) (files_contents d (i + 1) files)

folders_contents : (i : ℕ) (folders : List SourceFolder) → MatchEachExpectedSizeAndKnownDigest (expected_files_of_folders i (map value_of_folder folders)) (contents_of_folders i folders)
folders_contents i [] = tt
folders_contents i (folder ∷ folders) =
    let others : List ExpectedFile = expected_files_of_folders (i + 1) (map value_of_folder folders) in
    subst (λ (files : List Plain). MatchEachExpectedSizeAndKnownDigest (expected_files_of_folder i 1 files ++ others) (contents_of_folders i (folder ∷ folders))) (sym (files_stand folder))
    (both (expected_files_of_folder i 1 (map value_of_file folder.files)) others (contents_of_files i 1 folder.files) (contents_of_folders (i + 1) folders) (files_contents i 1 folder.files) (folders_contents (i + 1) folders))

pub package_contents : (info : Plain) (folders : List SourceFolder) (scripts : List Script) (triggers : List (List ℕ)) (priority : Option ℕ)
    → MatchEachExpectedSizeAndKnownDigest (expected_files_of_package (value_of_package info folders scripts triggers priority)) (contents_of_folders 1 folders)
package_contents info folders scripts triggers priority =
    subst (λ (vs : List Plain). MatchEachExpectedSizeAndKnownDigest (expected_files_of_folders 1 vs) (contents_of_folders 1 folders)) (sym (folders_stand info folders scripts triggers priority)) (folders_contents 1 folders)
