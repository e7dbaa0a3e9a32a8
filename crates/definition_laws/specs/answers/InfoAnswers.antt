-- What `info` prints and refuses. The rules are in `docs/commands.md`, "`info`". Serves the laws of
-- `src/info.rt`.
use Rattle.std.specs.Prelude.{◌≡◌, ℕ, true, List, [], ◌∷◌, ◌++◌, None, codes, is_some, map}
use Rattle.std.specs.List.{flat_map}
use Rattle.std.specs.List.Sorted.{IsPermutation, IsSorted}
use Rattle.change_outcome.specs.adb_fields.Paths.{path_of}
use Rattle.change_outcome.specs.adb_fields.Repeated.{files_in, folders_in, name_of, package_name}
use Rattle.adb_view.specs.Plain.{Plain}
use Rattle.adb_view.specs.declared.tables.Which.TheVariants.{Package, PkgInfo}
use Rattle.base_core.specs.ByteOrder.{bytes_cmp}
use Rattle.base_core.specs.Lists.{IsIn}
use Rattle.command_core.specs.declared.command.Flags.{Flags}
use Rattle.command_core.specs.declared.operands.Operand.{Operand}
use Rattle.tell_core.specs.candidate_core.Candidates.{dependencies_in_list_value}
use Rattle.dep_core.specs.DependencyText.{dep_text}
use Rattle.tell_core.specs.file_owners.Replaces.{package_version_text}
use Rattle.tell_core.specs.InfoForm.{info_form_of_flags}
use Rattle.tell_core.specs.InfoPackages.{package_meant_by_operand_text}
use Rattle.definition_laws.specs.making.NamedFields.{field_named}
use Rattle.report_core.specs.Reports.{name_dash_version, report_lines}

-- the text has one line for each package, with the name of the package, in byte order
pub record HasSortedPackageNameLines (packages : List Plain) (text : List ℕ) : Type 0 where
  -- the lines of the text
  pub names : List (List ℕ)
  -- they are the names of the packages, in some order
  pub same : IsPermutation (map package_name packages) names
  -- they are in byte order
  pub order : IsSorted bytes_cmp names
  -- the text has a line for each of them
  pub text_is : text ≡ report_lines names

-- `place` is the place in the command line of the first operand for which no package is found. The flags select the
-- form of `info`, and with it what an operand means (a name or, with `-W`, a path)
pub record IsPlaceOfFirstOperandNotFound (flags : Flags) (packages : List Plain) (operands : List Operand)
    (place : ℕ) : Type 0 where
  -- the operands before this operand
  pub front : List Operand
  -- the operand for which no package is found
  pub operand : Operand
  -- the operands after it
  pub rest : List Operand
  -- these are all operands, in their order
  pub operands_are : operands ≡ front ++ operand ∷ rest
  -- the operand has this place in the command line
  pub place_is : operand.place ≡ place
  -- no package is meant by the operand
  pub absent : package_meant_by_operand_text (info_form_of_flags flags) packages operand.text ≡ None
  -- a package is meant by each operand before it
  pub earlier : (o : Operand) → IsIn o front
      → is_some (package_meant_by_operand_text (info_form_of_flags flags) packages o.text) ≡ true

-- the text of a section: its heading, a line for each text of the list `facts`, and an empty line
abbrev pub section_text_with_heading : List ℕ → List (List ℕ) → List ℕ
section_text_with_heading heading facts = report_lines (heading ∷ (facts ++ ([] ∷ [])))

-- the heading of a section: `NAME-VERSION` of the package, followed by `text`
abbrev pub info_heading : Plain → List ℕ → List ℕ
info_heading pkg text = name_dash_version (package_name pkg) (package_version_text pkg) ++ text

-- the value of the field with this name in the information of a package
abbrev pub info_field : List ℕ → Plain → Plain
info_field name pkg = field_named PkgInfo name (field_named Package (codes "info") pkg)

-- the paths that a package lists: folder by folder, and in each file by file
abbrev pub file_paths_in_listed_order : Plain → List (List ℕ)
file_paths_in_listed_order pkg =
    flat_map (λ folder. map (λ file. path_of (name_of folder) (name_of file)) (files_in folder))
    (folders_in pkg)

-- the texts of a package's dependencies, in their order
abbrev pub depends_texts_of_package : Plain → List (List ℕ)
depends_texts_of_package pkg = map dep_text (dependencies_in_list_value (info_field (codes "depends") pkg))
