-- What `manifest` prints, as the manual says it. The rules are in `docs/commands.md`, "`manifest`". Serves
-- the laws of `src/manifest.rt`.
use Rattle.std.specs.Prelude.{ℕ, ◌≡◌, List, map, Option, Some}
use Rattle.std.specs.List.{find, flat_map}
use Rattle.adb_view.specs.Plain.{Plain}
use Rattle.audit_core.specs.adb_fields.Paths.{path_of}
use Rattle.audit_core.specs.adb_fields.Repeated.{files_in, folders_in, name_of}
use Rattle.audit_core.specs.db_core.Packages.{is_package_named}
use Rattle.audit_core.specs.file_guard.AsListed.{file_hash}
use Rattle.command_core.specs.declared.operands.Operand.{Operand}
use Rattle.report_core.specs.AuditReports.{digest_and_path_text}
use Rattle.report_core.specs.Reports.{report_line}

-- the first installed package whose name is the text of the operand, or None if there is none
abbrev pub package_of_operand : List Plain → Operand → Option Plain
package_of_operand packages o = find (is_package_named o.text) packages

-- the line of a file in a folder, given the values of both: the digest in the file's entry, and the file's path
abbrev pub line_of_file : Plain → Plain → List ℕ
line_of_file folder file =
    report_line (digest_and_path_text (file_hash file) (path_of (name_of folder) (name_of file)))

-- one line for each file of a package, folder by folder, in the order of the database
abbrev pub lines_of_package : Plain → List ℕ
lines_of_package pkg =
    flat_map (λ folder. flat_map (line_of_file folder) (files_in folder)) (folders_in pkg)

-- each operand names an installed package, and the text has the lines of these packages, in the order of the operands
pub record HasManifestLinesOfOperands (packages : List Plain) (operands : List Operand) (text : List ℕ) :
    Type 0 where
  -- the package of each operand, in the order of the operands
  pub found : List Plain
  -- each operand names the package at the same index of this list
  pub each : map (package_of_operand packages) operands ≡ map Some found
  -- the text has the lines of these packages
  pub text_is : text ≡ flat_map lines_of_package found
