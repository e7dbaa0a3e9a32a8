-- The report of `info` on the installed packages (apk(8)). The rules are in `docs/commands.md`, "`info`": the table
-- of what each form prints, and the part "What is refused".
use Rattle.std.specs.Prelude.{ℕ, List, [], ◌∷◌, map, Option, Some, None, is_some, Result, Ok, Err, if◌then◌else◌}
use Rattle.std.specs.List.{flat_map}
use Rattle.std.specs.Option.{option_map_or}
use Rattle.candidate_core.specs.adb_fields.Repeated.{package_name, paths_of_package_files}
use Rattle.adb_view.specs.FieldIndexes.{INFO_DEPENDS_INDEX, INFO_DESCRIPTION_INDEX, PACKAGE_INFO_INDEX}
use Rattle.adb_view.specs.Values.{entry_at_index, text_in}
use Rattle.adb_view.specs.Plain.{Plain}
use Rattle.command_core.specs.Command.{CommandLine}
use Rattle.command_core.specs.declared.operands.Operand.{Operand}
use Rattle.dep_core.specs.DependencyText.{dep_text}
use Rattle.dep_core.specs.LeadingSlash.{without_leading_slash}
use Rattle.file_owners.specs.Replaces.{package_version_text}
use Rattle.base_core.specs.ByteOrder.{bytes_cmp}
use Rattle.base_core.specs.Sorted.{sorted_by}
use Rattle.candidate_core.specs.Candidates.{dependencies_in_list_value}
use Rattle.report_core.specs.Reports.{contents_section, depends_section, description_section, owner_text, report_line, report_lines}
use Rattle.report_core.specs.declared.refusal.Refusal.{Refusal}
use Rattle.report_core.specs.declared.refusal.Refusal.TheVariants.{NotInstalled}
use Rattle.tell_core.specs.InfoForm.{info_form_of_flags}
use Rattle.tell_core.specs.InfoPackages.{package_meant_by_operand_text}
use Rattle.tell_core.specs.declared.info.reporting.ReportAndRefusal.{ReportAndRefusal}
use Rattle.tell_core.specs.declared.info.reporting.Form.{Form}
use Rattle.tell_core.specs.declared.info.reporting.Form.TheVariants.{Contents, Depends, Description, Installed, Owner}

-- ---- of one package

-- the section with the description of a package; the line of the description is empty if the package has none
abbrev pub description_section_of : Plain → List ℕ
description_section_of pkg =
    description_section (package_name pkg) (package_version_text pkg)
    (text_in (entry_at_index (entry_at_index pkg PACKAGE_INFO_INDEX) INFO_DESCRIPTION_INDEX))

-- the section with the paths that a package lists, folder by folder
abbrev pub contents_section_of : Plain → List ℕ
contents_section_of pkg =
    contents_section (package_name pkg) (package_version_text pkg) (paths_of_package_files pkg)

-- the section with the dependencies of a package
abbrev pub depends_section_of : Plain → List ℕ
depends_section_of pkg =
    depends_section (package_name pkg) (package_version_text pkg)
    (map dep_text (dependencies_in_list_value
    (entry_at_index (entry_at_index pkg PACKAGE_INFO_INDEX) INFO_DEPENDS_INDEX)))

-- the line that says that a package owns a path
abbrev pub owner_line : List ℕ → Plain → List ℕ
owner_line path pkg = report_line (owner_text path (package_name pkg) (package_version_text pkg))

-- the report of a form on the package that an operand means; the second argument is the operand's text, a name or a
-- path
abbrev pub package_info_for_operand_text : Form → List ℕ → Plain → List ℕ
package_info_for_operand_text Description name pkg = description_section_of pkg
package_info_for_operand_text Contents name pkg = contents_section_of pkg
package_info_for_operand_text Depends name pkg = depends_section_of pkg
package_info_for_operand_text Installed name pkg = report_line name
package_info_for_operand_text Owner path pkg = owner_line (without_leading_slash path) pkg

-- ---- of operands

-- the report of a form on one operand; empty if its package is not installed
abbrev pub operand_info : Form → List Plain → Operand → List ℕ
operand_info form packages o =
    option_map_or (package_info_for_operand_text form o.text)
    (package_meant_by_operand_text form packages o.text) []

-- the report of a form on all operands, in the order given
abbrev pub operands_info : Form → List Plain → List Operand → List ℕ
operands_info form packages operands = flat_map (operand_info form packages) operands

-- the refusal of the first operand whose package is not installed, if there is one
abbrev pub info_refusal : Form → List Plain → List Operand → Option Refusal
info_refusal form packages [] = None
info_refusal form packages (o ∷ operands) =
    if is_some (package_meant_by_operand_text form packages o.text) then info_refusal form packages operands else
    Some (NotInstalled o.place)

-- ---- of a database

-- a line with the name of each package, in byte order of the names
abbrev pub sorted_package_name_lines : List Plain → List ℕ
sorted_package_name_lines packages = report_lines (sorted_by bytes_cmp (map package_name packages))

-- ---- the result

-- the result: a report, and a refusal that follows it, if there is one
abbrev pub report_and_refusal : List ℕ → Option Refusal → ReportAndRefusal
report_and_refusal report following_refusal = record {
  report = report;
  following_refusal =
      following_refusal;
}

-- the result: the report alone; or, if there is a refusal, the refusal in its place
abbrev pub info_unless_refused : Option Refusal → List ℕ → Result ReportAndRefusal Refusal
info_unless_refused None report = Ok (report_and_refusal report None)
info_unless_refused (Some refusal) report = Err refusal

-- the result of a form of `info` for the installed packages and the operands. `-e` reports the installed operands,
-- even if a refusal follows
abbrev pub form_info : Form → List Plain → List Operand → Result ReportAndRefusal Refusal
form_info Installed packages operands =
    Ok (report_and_refusal (operands_info Installed packages operands)
    (info_refusal Installed packages operands))
form_info Description packages [] = Ok (report_and_refusal (sorted_package_name_lines packages) None)
form_info form packages operands =
    info_unless_refused (info_refusal form packages operands) (operands_info form packages operands)

-- the result of a command line `info` for these installed packages
unfoldable pub info_of : CommandLine → List Plain → Result ReportAndRefusal Refusal
info_of command packages = form_info (info_form_of_flags command.flags) packages command.operands
