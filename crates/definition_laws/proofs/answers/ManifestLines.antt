-- What `manifest` prints.
use Rattle.std.proofs.Common.{ℕ, ◌≡◌, ◌↔◌, ◌∙◌, List, [], ◌∷◌, ◌++◌, map, Option, Some, None, Result, Ok, Err, refl, ap, sym}
use Rattle.std.specs.List.{flat_map}
use Rattle.std.proofs.lemmas.Grind.{flat_map-append}
use Rattle.adb_view.specs.Plain.{Plain}
use Rattle.audit_core.specs.Manifest.{manifest_with_lines_before, manifest_line, manifest_of, manifest_with_package_of_operand, package_named_by_operand, package_manifest}
use Rattle.audit_core.specs.Records.{file_record, folder_records}
use Rattle.audit_core.specs.adb_fields.Repeated.{files_in, folders_in, name_of}
use Rattle.command_core.specs.declared.operands.Operand.{Operand}
use Rattle.report_core.specs.declared.refusal.Refusal.{Refusal}
use Rattle.definition_laws.specs.answers.ManifestLines.{HasManifestLinesOfOperands, line_of_file, lines_of_package, package_of_operand}

-- ---- the lines of a package

lines_of_files : (folder : Plain) (files : List Plain) → flat_map manifest_line (map (file_record (name_of folder)) files) ≡ flat_map (line_of_file folder) files
lines_of_files folder [] = refl
lines_of_files folder (file ∷ files) = ap (λ (rest : List ℕ). line_of_file folder file ++ rest) (lines_of_files folder files)

lines_of_folders : (folders : List Plain) → flat_map manifest_line (flat_map folder_records folders) ≡ flat_map (λ folder. flat_map (line_of_file folder) (files_in folder)) folders
lines_of_folders [] = refl
lines_of_folders (folder ∷ folders) =
    flat_map-append manifest_line (folder_records folder) (flat_map folder_records folders)
    ∙ ap (λ (l : List ℕ). l ++ flat_map manifest_line (flat_map folder_records folders)) (lines_of_files folder (files_in folder))
    ∙ ap (λ (l : List ℕ). flat_map (line_of_file folder) (files_in folder) ++ l) (lines_of_folders folders)

package_lines : (pkg : Plain) → package_manifest pkg ≡ lines_of_package pkg
package_lines pkg = lines_of_folders (folders_in pkg)

-- ---- the operands

printed_next : (packages : List Plain) (o : Operand) (operands : List Operand) (text : List ℕ) → ((more : List ℕ) → manifest_of packages operands ≡ Ok more → HasManifestLinesOfOperands packages operands more)
    → (p : Option Plain) → package_named_by_operand packages o ≡ p → (r : Result (List ℕ) Refusal) → manifest_of packages operands ≡ r → manifest_with_package_of_operand o p r ≡ Ok text
    → HasManifestLinesOfOperands packages (o ∷ operands) text
printed_next packages o operands text rest None found r further e = absurd (cc (e))
printed_next packages o operands text rest (Some pkg) found (Err refusal) further e = absurd (cc (e))
printed_next packages o operands text rest (Some pkg) found (Ok more) further e =
    let others = rest more further in
    let same : package_manifest pkg ++ more ≡ text = cc (e) in
    record {
      found = pkg ∷ others.found;
      each = ap (λ (p : Option Plain). p ∷ map (package_of_operand packages) operands) found ∙ ap (λ (ps : List (Option Plain)). Some pkg ∷ ps) others.each;
      text_is = sym same
          ∙ ap (λ (l : List ℕ). l ++ more) (package_lines pkg)
          ∙ ap (λ (l : List ℕ). lines_of_package pkg ++ l) others.text_is;
    }

printed : (packages : List Plain) (operands : List Operand) (text : List ℕ) → manifest_of packages operands ≡ Ok text → HasManifestLinesOfOperands packages operands text
printed packages [] text e = let same : [] ≡ text = cc (e) in record { found = []; each = refl; text_is = sym same }
printed packages (o ∷ operands) text e =
    printed_next packages o operands text (λ more further. printed packages operands more further) (package_named_by_operand packages o) refl (manifest_of packages operands) refl e

of_operands : (packages : List Plain) (operands : List Operand) (found : List Plain) → map (package_of_operand packages) operands ≡ map Some found
    → manifest_of packages operands ≡ Ok (flat_map lines_of_package found)
of_operands packages [] [] each = refl
of_operands packages [] (pkg ∷ found) each = absurd (cc (each))
of_operands packages (o ∷ operands) [] each = absurd (cc (each))
of_operands packages (o ∷ operands) (pkg ∷ found) each =
    let first : package_named_by_operand packages o ≡ Some pkg = cc (each) in
    let others : map (package_of_operand packages) operands ≡ map Some found = cc (each) in
    ap (λ (p : Option Plain). manifest_with_package_of_operand o p (manifest_of packages operands)) first
    ∙ ap (manifest_with_lines_before (package_manifest pkg)) (of_operands packages operands found others)
    ∙ ap (λ (l : List ℕ). Ok (l ++ flat_map lines_of_package found)) (package_lines pkg)

pub manifest_told : (packages : List Plain) (operands : List Operand) (text : List ℕ) → (manifest_of packages operands ≡ Ok text) ↔ HasManifestLinesOfOperands packages operands text
manifest_told packages operands text = (
  printed packages operands text,
  λ x. of_operands packages operands x.found x.each ∙ ap Ok (sym x.text_is),
)
