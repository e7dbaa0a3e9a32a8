-- What a file of a package tells of its bytes.
use Rattle.std.proofs.Common.{◌≡◌, ◌≢◌, ℕ, ◌+◌, Bool, true, false, not, ◌&&◌, ◌==◌, List, [], ◌∷◌, ◌++◌, length, take, codes, bytes_eq, refl, ap, sym, ◌∙◌, arith}
use Rattle.std.specs.Str.{is_utf8}
use Rattle.std.proofs.lemmas.Bool.{and_parts, eq-eqb, ne_eqb, not-true, and_from}
use Rattle.std.proofs.lemmas.List.{length-append, take-append-drop}
use Rattle.std.proofs.lemmas.Slice.Eq.{bytes_eq-Decides}
use Rattle.sha2.specs.Sha256.{sha256}
use Rattle.make_core.proofs.FileFields.{kind_by}
use Rattle.adb_view.specs.Values.{int_in}
use Rattle.adb_view.specs.declared.tables.Which.TheVariants.{File}
use Rattle.adb_view.proofs.ValueEntries.{nth_obj}
use Rattle.adb_view.specs.Plain.{blob_or_null, null}
use Rattle.make_core.specs.make_info.Values.{size_or_null_if_zero}
use Rattle.make_core.specs.package_files.Package.{file_fields, hash_of_kind, is_link_file, kind_of_file, link_text, size_of_kind, target_of_kind, value_of_file}
use Rattle.make_core.specs.package_files.declared.file.FileKind.{FileKind}
use Rattle.make_core.specs.package_files.declared.file.FileKind.TheVariants.{Link, Regular}
use Rattle.make_core.proofs.PackageFiles.{int-size_or_null_if_zero}
use Rattle.definition_laws.specs.making.NamedFields.{field_named}
use Rattle.definition_laws.specs.making.SourceBytes.{IsLinkTo, AreBytesOfNoLink}

abbrev mark : List ℕ
mark = codes "!<symlink>"

linked : (target : List ℕ) → target ≢ [] → is_utf8 target ≡ true → is_link_file (mark ++ target) ≡ true
unfolding is_link_file
linked [] some utf8 = absurd (some refl)
linked (t ∷ ts) some utf8 =
    let bytes : List ℕ = mark ++ t ∷ ts in
    let long : length bytes ≡ 10 + length (t ∷ ts) = length-append mark (t ∷ ts) in
    let other : (length bytes == 10) ≡ false = ne_eqb (length bytes) 10 (omega arith) in
    and_from (bytes_eq (take 10 bytes) mark && not (length bytes == 10)) (is_utf8 (link_text bytes)) (and_from (bytes_eq (take 10 bytes) mark) (not (length bytes == 10)) refl (ap not other)) utf8

is_link : (bytes : List ℕ) → is_link_file bytes ≡ true → IsLinkTo (link_text bytes) bytes
unfolding is_link_file
is_link bytes e =
    let a = and_parts (bytes_eq (take 10 bytes) mark && not (length bytes == 10)) (is_utf8 (link_text bytes)) e in
    let b = and_parts (bytes_eq (take 10 bytes) mark) (not (length bytes == 10)) a.0 in
    let front : take 10 bytes ≡ mark = (bytes_eq-Decides (take 10 bytes) mark).0 b.0 in
    let whole : bytes ≡ mark ++ link_text bytes = sym (take-append-drop 10 bytes) ∙ ap (λ (xs : List ℕ). xs ++ link_text bytes) front in
    let other : (length bytes == 10) ≡ false = not-true (length bytes == 10) b.1 in
    record {
      marked = whole;
      some = λ none.
          let ten : length bytes ≡ 10 = ap length (whole ∙ ap (λ (xs : List ℕ). mark ++ xs) none) in
          let same : (length bytes == 10) ≡ true = eq-eqb (length bytes) 10 ten in
          absurd (cc (other, same));
      utf8 = a.1;
    }

link_kind : (bytes target : List ℕ) → IsLinkTo target bytes → kind_of_file bytes ≡ Link (0 ∷ 160 ∷ target)
link_kind bytes target l = ap kind_of_file l.marked ∙ kind_by (mark ++ target) true (linked target l.some l.utf8)

regular_by : (bytes : List ℕ) (b : Bool) → is_link_file bytes ≡ b → AreBytesOfNoLink bytes → kind_of_file bytes ≡ Regular (length bytes) (sha256 bytes)
regular_by bytes true e none = absurd (none (link_text bytes) (is_link bytes e))
regular_by bytes false e none = kind_by bytes false e

-- what a file tells by its kind
abbrev Tells : List ℕ → List ℕ → FileKind → Type 0
Tells name bytes kind =
    (field_named File (codes "target") (value_of_file (record { name = name; bytes = bytes })) ≡ blob_or_null (target_of_kind kind))
    × (field_named File (codes "size") (value_of_file (record { name = name; bytes = bytes })) ≡ size_or_null_if_zero (size_of_kind kind))
    × (field_named File (codes "hashes") (value_of_file (record { name = name; bytes = bytes })) ≡ blob_or_null (hash_of_kind kind))

tells : (name bytes : List ℕ) (kind : FileKind) → kind_of_file bytes ≡ kind → Tells name bytes kind
tells name bytes kind e = (
  nth_obj (file_fields name (kind_of_file bytes)) 5 ∙ ap (λ (k : FileKind). blob_or_null (target_of_kind k)) e,
  nth_obj (file_fields name (kind_of_file bytes)) 2 ∙ ap (λ (k : FileKind). size_or_null_if_zero (size_of_kind k)) e,
  nth_obj (file_fields name (kind_of_file bytes)) 4 ∙ ap (λ (k : FileKind). blob_or_null (hash_of_kind k)) e,
)

pub link_tells : (name bytes target : List ℕ) → IsLinkTo target bytes → Tells name bytes (Link (0 ∷ 160 ∷ target))
link_tells name bytes target l = tells name bytes (Link (0 ∷ 160 ∷ target)) (link_kind bytes target l)

pub regular_tells : (name bytes : List ℕ) → AreBytesOfNoLink bytes
    → (field_named File (codes "target") (value_of_file (record { name = name; bytes = bytes })) ≡ null)
    × (int_in (field_named File (codes "size") (value_of_file (record { name = name; bytes = bytes }))) ≡ length bytes)
    × (field_named File (codes "hashes") (value_of_file (record { name = name; bytes = bytes })) ≡ blob_or_null (sha256 bytes))
regular_tells name bytes none =
    let all = tells name bytes (Regular (length bytes) (sha256 bytes)) (regular_by bytes (is_link_file bytes) refl none) in
    (all.0, ap int_in all.1 ∙ int-size_or_null_if_zero (length bytes), all.2)
