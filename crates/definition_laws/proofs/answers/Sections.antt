-- The sections that `info` prints of a package.
use Rattle.std.proofs.Common.{◌≡◌, ◌↔◌, ◌∙◌, ℕ, Bool, true, false, List, [], ◌∷◌, ◌++◌, refl, ap, sym, subst}
use Rattle.std.specs.Prelude.{codes}
use Rattle.std.proofs.lemmas.List.{append_assoc}
use Rattle.change_outcome.specs.adb_fields.Repeated.{package_name, paths_of_package_files}
use Rattle.adb_view.specs.Plain.{Plain}
use Rattle.adb_view.specs.Values.{text_in}
use Rattle.command_core.specs.declared.command.Flags.{Flags}
use Rattle.change_outcome.specs.db_core.Packages.{lists_path}
use Rattle.dep_core.specs.LeadingSlash.{without_leading_slash}
use Rattle.tell_core.specs.file_owners.Replaces.{package_version_text}
use Rattle.tell_core.specs.InfoForm.{info_form_of_flags}
use Rattle.tell_core.specs.Info.{package_info_for_operand_text}
use Rattle.tell_core.proofs.Listers.{listed, is_listed}
use Rattle.report_core.specs.Reports.{owner_text, report_line, report_lines, section}
use Rattle.definition_laws.specs.answers.InfoAnswers.{depends_texts_of_package, info_field, info_heading, file_paths_in_listed_order, section_text_with_heading}
use Rattle.base_core.specs.Lists.{IsIn}

closed : (texts : List (List ℕ)) → report_lines (texts ++ ([] ∷ [])) ≡ report_lines texts ++ codes "\n"
closed [] = refl
closed (text ∷ texts) = ap (λ (t : List ℕ). report_line text ++ t) (closed texts) ∙ sym (append_assoc (report_line text) (report_lines texts) (codes "\n"))

as_section : (heading : List ℕ) (texts : List (List ℕ)) → section heading texts ≡ section_text_with_heading heading texts
as_section heading texts =
    append_assoc (report_line heading) (report_lines texts) (codes "\n")
    ∙ sym (ap (λ (t : List ℕ). report_line heading ++ t) (closed texts))

abbrev flags_with : Flags → Bool → Bool → Bool → Bool → Flags
flags_with flags who_owns installed contents depends =
    record flags { who_owns = who_owns; installed = installed; contents = contents; depends = depends }

-- what is said of some flags, of those that differ in the four that select a form
by_flags : (P : Flags → Type 0) (flags : Flags) (w i c d : Bool) → flags.who_owns ≡ w → flags.installed ≡ i → flags.contents ≡ c → flags.depends ≡ d → P (flags_with flags w i c d) → P flags
by_flags P flags w i c d e f g h given =
    subst (λ (b : Bool). P (flags_with flags b flags.installed flags.contents flags.depends)) (sym e)
    (subst (λ (b : Bool). P (flags_with flags w b flags.contents flags.depends)) (sym f)
    (subst (λ (b : Bool). P (flags_with flags w i b flags.depends)) (sym g)
    (subst (λ (b : Bool). P (flags_with flags w i c b)) (sym h) given)))

pub contents : (flags : Flags) (name : List ℕ) (pkg : Plain) → flags.who_owns ≡ false → flags.installed ≡ false → flags.contents ≡ true
    → package_info_for_operand_text (info_form_of_flags flags) name pkg ≡ section_text_with_heading (info_heading pkg (codes " contains:")) (file_paths_in_listed_order pkg)
contents flags name pkg e f g =
    by_flags (λ (fs : Flags). package_info_for_operand_text (info_form_of_flags fs) name pkg ≡ section_text_with_heading (info_heading pkg (codes " contains:")) (file_paths_in_listed_order pkg))
    flags false false true flags.depends e f g refl
    (as_section (info_heading pkg (codes " contains:")) (file_paths_in_listed_order pkg))

pub listed_paths : (pkg : Plain) (path : List ℕ) → IsIn path (file_paths_in_listed_order pkg) ↔ (lists_path path pkg ≡ true)
listed_paths pkg path = (is_listed path (paths_of_package_files pkg), listed path (paths_of_package_files pkg))

pub depends : (flags : Flags) (name : List ℕ) (pkg : Plain) → flags.who_owns ≡ false → flags.installed ≡ false → flags.contents ≡ false → flags.depends ≡ true
    → package_info_for_operand_text (info_form_of_flags flags) name pkg ≡ section_text_with_heading (info_heading pkg (codes " depends on:")) (depends_texts_of_package pkg)
depends flags name pkg e f g h =
    by_flags (λ (fs : Flags). package_info_for_operand_text (info_form_of_flags fs) name pkg ≡ section_text_with_heading (info_heading pkg (codes " depends on:")) (depends_texts_of_package pkg))
    flags false false false true e f g h
    (as_section (info_heading pkg (codes " depends on:")) (depends_texts_of_package pkg))

pub description : (flags : Flags) (name : List ℕ) (pkg : Plain) → flags.who_owns ≡ false → flags.installed ≡ false → flags.contents ≡ false → flags.depends ≡ false
    → package_info_for_operand_text (info_form_of_flags flags) name pkg ≡ section_text_with_heading (info_heading pkg (codes " description:")) (text_in (info_field (codes "description") pkg) ∷ [])
description flags name pkg e f g h =
    by_flags (λ (fs : Flags). package_info_for_operand_text (info_form_of_flags fs) name pkg ≡ section_text_with_heading (info_heading pkg (codes " description:")) (text_in (info_field (codes "description") pkg) ∷ []))
    flags false false false false e f g h
    (as_section (info_heading pkg (codes " description:")) (text_in (info_field (codes "description") pkg) ∷ []))

pub owner : (flags : Flags) (path : List ℕ) (pkg : Plain) → flags.who_owns ≡ true
    → package_info_for_operand_text (info_form_of_flags flags) path pkg ≡ report_line (owner_text (without_leading_slash path) (package_name pkg) (package_version_text pkg))
owner flags path pkg e = ap (λ (b : Bool). package_info_for_operand_text (info_form_of_flags (flags_with flags b flags.installed flags.contents flags.depends)) path pkg) e
