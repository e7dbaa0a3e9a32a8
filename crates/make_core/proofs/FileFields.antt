-- What the fields of a file say of its bytes.
use Rattle.std.proofs.Common.{◌≡◌, ℕ, Bool, true, false, List, ◌∷◌, Some, codes, length, ap, if◌then◌else◌}
use Rattle.sha2.specs.Sha256.{sha256}
use Rattle.adb_view.specs.Schema.{table}
use Rattle.adb_view.specs.declared.tables.Which.TheVariants.{File}
use Rattle.adb_view.specs.Plain.{Plain, blob_or_null, null}
use Rattle.package_files.specs.make_info.Named.{value_by_name}
use Rattle.package_files.specs.make_info.Values.{size_or_null_if_zero}
use Rattle.package_files.specs.Package.{file_fields, hash_of_kind, is_link_file, kind_of_file, link_text, size_of_kind, target_of_kind}
use Rattle.package_files.specs.declared.file.FileKind.{FileKind}
use Rattle.package_files.specs.declared.file.FileKind.TheVariants.{Link, Regular}

-- whether what stands in the fields of a kind is this size, this hash and this target
abbrev AreFields : List ℕ → FileKind → Plain → Plain → Plain → Type 0
AreFields name kind size hash target =
    (value_by_name (codes "size") (table File) (file_fields name kind) ≡ Some size)
    × (value_by_name (codes "hashes") (table File) (file_fields name kind) ≡ Some hash)
    × (value_by_name (codes "target") (table File) (file_fields name kind) ≡ Some target)

pub kind_by : (bytes : List ℕ) (b : Bool) → is_link_file bytes ≡ b → kind_of_file bytes ≡ (if b then Link (0 ∷ 160 ∷ link_text bytes) else Regular (length bytes) (sha256 bytes))
unfolding kind_of_file
kind_by bytes b e = ap (λ (c : Bool). if c then Link (0 ∷ 160 ∷ link_text bytes) else Regular (length bytes) (sha256 bytes)) e

pub regular_fields : (name bytes : List ℕ) → is_link_file bytes ≡ false → AreFields name (kind_of_file bytes) (size_or_null_if_zero (length bytes)) (blob_or_null (sha256 bytes)) null
regular_fields name bytes e =
    let k = kind_by bytes false e in
    (ap (λ (kind : FileKind). Some (size_or_null_if_zero (size_of_kind kind))) k, ap (λ (kind : FileKind). Some (blob_or_null (hash_of_kind kind))) k, ap (λ (kind : FileKind). Some (blob_or_null (target_of_kind kind))) k)

pub link_fields : (name bytes : List ℕ) → is_link_file bytes ≡ true → AreFields name (kind_of_file bytes) null null (blob_or_null (0 ∷ 160 ∷ link_text bytes))
link_fields name bytes e =
    let k = kind_by bytes true e in
    (ap (λ (kind : FileKind). Some (size_or_null_if_zero (size_of_kind kind))) k, ap (λ (kind : FileKind). Some (blob_or_null (hash_of_kind kind))) k, ap (λ (kind : FileKind). Some (blob_or_null (target_of_kind kind))) k)
