-- What `manifest` reports: the digest and path of each file of some packages. The rules are in
-- `docs/commands.md`, "`manifest`".
use Rattle.std.specs.Prelude.{ℕ, List, [], ◌∷◌, ◌++◌, Option, Some, None, Result, Ok, Err}
use Rattle.std.specs.List.{find, flat_map}
use Rattle.adb_view.specs.Plain.{Plain}
use Rattle.audit_core.specs.Records.{PathAndEntry, package_records}
use Rattle.base_core.specs.Lists.{and_then}
use Rattle.command_core.specs.declared.operands.Operand.{Operand}
use Rattle.db_core.specs.Packages.{is_package_named}
use Rattle.file_guard.specs.AsListed.{file_hash}
use Rattle.report_core.specs.AuditReports.{digest_and_path_text}
use Rattle.report_core.specs.Reports.{report_line}
use Rattle.report_core.specs.declared.refusal.Refusal.{Refusal}
use Rattle.report_core.specs.declared.refusal.Refusal.TheVariants.{NotInstalled}

-- the line of a file: its digest and its path
abbrev pub manifest_line : PathAndEntry → List ℕ
manifest_line r = report_line (digest_and_path_text (file_hash r.entry) r.path)

-- the lines of all files of a package, in the order of the database
abbrev pub package_manifest : Plain → List ℕ
package_manifest pkg = flat_map manifest_line (package_records pkg)

-- the package that an operand names, if it is installed; no two packages of a database have the same name
abbrev pub package_named_by_operand : List Plain → Operand → Option Plain
package_named_by_operand packages o = find (is_package_named o.text) packages

-- these lines, followed by the manifest of further packages; if that is a refusal, the refusal
abbrev pub manifest_with_lines_before : List ℕ → Result (List ℕ) Refusal → Result (List ℕ) Refusal
manifest_with_lines_before lines further = and_then further (λ more. Ok (lines ++ more))

-- the manifest that has first the package of the operand o, and then that of the operands after it (`further`). If the
-- package is not installed (None), the refusal of the operand
abbrev pub manifest_with_package_of_operand :
    Operand → Option Plain → Result (List ℕ) Refusal → Result (List ℕ) Refusal
manifest_with_package_of_operand o None further = Err (NotInstalled o.place)
manifest_with_package_of_operand o (Some pkg) further =
    manifest_with_lines_before (package_manifest pkg) further

-- the lines of the packages that the operands name, in the order of the operands; or the refusal of the first operand
-- that names no installed package
abbrev pub manifest_of : List Plain → List Operand → Result (List ℕ) Refusal
manifest_of packages [] = Ok []
manifest_of packages (o ∷ operands) =
    manifest_with_package_of_operand o (package_named_by_operand packages o) (manifest_of packages operands)
