-- What `info` answers.
use Rattle.std.proofs.Common.{◌≡◌, inl, inr, ◌↔◌, ◌∙◌, ℕ, Bool, true, false, cond, List, [], ◌∷◌, ◌++◌, map, Option, Some, None, refl, ap}
use Rattle.std.specs.Prelude.{if◌then◌else◌, is_some}
use Rattle.std.specs.List.{filter}
use Rattle.std.specs.Option.{option_map_or}
use Rattle.std.proofs.lemmas.Cmp.{nat_list_cmp_total}
use Rattle.std.proofs.lemmas.Grind.{flat_map-append}
use Rattle.change_outcome.specs.adb_fields.Repeated.{package_name}
use Rattle.adb_view.specs.Plain.{Plain}
use Rattle.base_core.proofs.Sorting.{sorted_same, sorted_up}
use Rattle.base_core.specs.ByteOrder.{bytes_cmp}
use Rattle.base_core.specs.Lists.{IsIn}
use Rattle.base_core.specs.Sorted.{sorted_by}
use Rattle.command_core.specs.declared.command.Flags.{Flags}
use Rattle.command_core.specs.declared.operands.Operand.{Operand}
use Rattle.tell_core.specs.InfoForm.{info_form_of_flags}
use Rattle.tell_core.specs.Info.{info_refusal, sorted_package_name_lines, operand_info, operands_info, package_info_for_operand_text}
use Rattle.tell_core.specs.InfoPackages.{package_meant_by_operand_text, package_named}
use Rattle.report_core.specs.Reports.{report_line, report_lines}
use Rattle.report_core.specs.declared.refusal.Refusal.TheVariants.{NotInstalled}
use Rattle.definition_laws.specs.answers.InfoAnswers.{HasSortedPackageNameLines, IsPlaceOfFirstOperandNotFound}

pub sorted_names : (packages : List Plain) → HasSortedPackageNameLines packages (sorted_package_name_lines packages)
sorted_names packages = record {
  names = sorted_by bytes_cmp (map package_name packages);
  same = sorted_same bytes_cmp (map package_name packages);
  order = sorted_up bytes_cmp nat_list_cmp_total (map package_name packages);
  text_is = refl;
}

-- ---- the first absent operand

refused_at : (flags : Flags) (packages : List Plain) (operands : List Operand) (place : ℕ) → info_refusal (info_form_of_flags flags) packages operands ≡ Some (NotInstalled place) → IsPlaceOfFirstOperandNotFound flags packages operands place
refused_at flags packages [] place e = absurd cc
refused_at flags packages (o ∷ operands) place e = go (package_meant_by_operand_text (info_form_of_flags flags) packages o.text) refl e (refused_at flags packages operands place)
  where
    go : (asked : Option Plain) → package_meant_by_operand_text (info_form_of_flags flags) packages o.text ≡ asked
        → (if is_some asked then info_refusal (info_form_of_flags flags) packages operands else Some (NotInstalled o.place)) ≡ Some (NotInstalled place)
        → (info_refusal (info_form_of_flags flags) packages operands ≡ Some (NotInstalled place) → IsPlaceOfFirstOperandNotFound flags packages operands place)
        → IsPlaceOfFirstOperandNotFound flags packages (o ∷ operands) place
    go None is e more =
        let same : o.place ≡ place = cc in
        record { front = []; operand = o; rest = operands; operands_are = refl; place_is = same; absent = is; earlier = λ p at. absurd at }
    go (Some pkg) is e more =
        let h = more e in
        record {
          front = o ∷ h.front;
          operand = h.operand;
          rest = h.rest;
          operands_are = ap (λ (os : List Operand). o ∷ os) h.operands_are;
          place_is = h.place_is;
          absent = h.absent;
          earlier = λ p at. elim at [ inl same ↦ ap (λ (q : Operand). is_some (package_meant_by_operand_text (info_form_of_flags flags) packages q.text)) same ∙ ap is_some is | inr later ↦ h.earlier p later ];
        }

at_first : (flags : Flags) (packages : List Plain) (front : List Operand) (o : Operand) (rest : List Operand) (place : ℕ) → o.place ≡ place → package_meant_by_operand_text (info_form_of_flags flags) packages o.text ≡ None
    → ((p : Operand) → IsIn p front → is_some (package_meant_by_operand_text (info_form_of_flags flags) packages p.text) ≡ true) → info_refusal (info_form_of_flags flags) packages (front ++ o ∷ rest) ≡ Some (NotInstalled place)
at_first flags packages [] o rest place at absent earlier =
    ap (λ (asked : Option Plain). if is_some asked then info_refusal (info_form_of_flags flags) packages rest else Some (NotInstalled o.place)) absent
    ∙ ap (λ (n : ℕ). Some (NotInstalled n)) at
at_first flags packages (p ∷ front) o rest place at absent earlier =
    ap (λ (b : Bool). if b then info_refusal (info_form_of_flags flags) packages (front ++ o ∷ rest) else Some (NotInstalled p.place)) (earlier p (inl refl))
    ∙ at_first flags packages front o rest place at absent (λ q within. earlier q (inr within))

pub first_absent : (flags : Flags) (packages : List Plain) (operands : List Operand) (place : ℕ) → (info_refusal (info_form_of_flags flags) packages operands ≡ Some (NotInstalled place)) ↔ IsPlaceOfFirstOperandNotFound flags packages operands place
first_absent flags packages operands place = (
  refused_at flags packages operands place,
  λ f. ap (info_refusal (info_form_of_flags flags) packages) f.operands_are ∙ at_first flags packages f.front f.operand f.rest place f.place_is f.absent f.earlier,
)

-- ---- the installed operands

abbrev text_of_operand : Operand → List ℕ
text_of_operand o = o.text

abbrev has_package : List Plain → Operand → Bool
has_package packages o = is_some (package_named packages o.text)

-- the flags with these two
abbrev flags_with : Flags → Bool → Bool → Flags
flags_with flags who_owns installed = record flags { who_owns = who_owns; installed = installed }

operands_told : (flags : Flags) (packages : List Plain) (operands : List Operand)
    → operands_info (info_form_of_flags (flags_with flags false true)) packages operands ≡ report_lines (map text_of_operand (filter (has_package packages) operands))
operands_told flags packages [] = refl
operands_told flags packages (o ∷ operands) = go (package_named packages o.text) (operands_told flags packages operands)
  where
    go : (named : Option Plain) → operands_info (info_form_of_flags (flags_with flags false true)) packages operands ≡ report_lines (map text_of_operand (filter (has_package packages) operands))
        → option_map_or (package_info_for_operand_text (info_form_of_flags (flags_with flags false true)) o.text) named [] ++ operands_info (info_form_of_flags (flags_with flags false true)) packages operands
        ≡ report_lines (map text_of_operand (cond (is_some named) (o ∷ filter (has_package packages) operands) (filter (has_package packages) operands)))
    go None more = more
    go (Some pkg) more = ap (λ (t : List ℕ). report_line o.text ++ t) more

pub installed_operands : (flags : Flags) (packages : List Plain) (operands : List Operand) → flags.who_owns ≡ false → flags.installed ≡ true
    → operands_info (info_form_of_flags flags) packages operands ≡ report_lines (map text_of_operand (filter (has_package packages) operands))
installed_operands flags packages operands no_owner asked =
    ap (λ (b : Bool). operands_info (info_form_of_flags (flags_with flags b flags.installed)) packages operands) no_owner
    ∙ ap (λ (b : Bool). operands_info (info_form_of_flags (flags_with flags false b)) packages operands) asked
    ∙ operands_told flags packages operands

-- ---- one operand after the other

pub answer_of_operand : (flags : Flags) (packages : List Plain) (front rest : List Operand) (o : Operand) (pkg : Plain) → package_meant_by_operand_text (info_form_of_flags flags) packages o.text ≡ Some pkg
    → operands_info (info_form_of_flags flags) packages (front ++ o ∷ rest)
    ≡ operands_info (info_form_of_flags flags) packages front ++ (package_info_for_operand_text (info_form_of_flags flags) o.text pkg ++ operands_info (info_form_of_flags flags) packages rest)
answer_of_operand flags packages front rest o pkg is =
    flat_map-append (operand_info (info_form_of_flags flags) packages) front (o ∷ rest)
    ∙ ap (λ (asked : Option Plain). operands_info (info_form_of_flags flags) packages front ++ (option_map_or (package_info_for_operand_text (info_form_of_flags flags) o.text) asked [] ++ operands_info (info_form_of_flags flags) packages rest)) is

pub no_answer : (flags : Flags) (packages : List Plain) (front rest : List Operand) (o : Operand) → package_meant_by_operand_text (info_form_of_flags flags) packages o.text ≡ None
    → operands_info (info_form_of_flags flags) packages (front ++ o ∷ rest)
    ≡ operands_info (info_form_of_flags flags) packages front ++ operands_info (info_form_of_flags flags) packages rest
no_answer flags packages front rest o is =
    flat_map-append (operand_info (info_form_of_flags flags) packages) front (o ∷ rest)
    ∙ ap (λ (asked : Option Plain). operands_info (info_form_of_flags flags) packages front ++ (option_map_or (package_info_for_operand_text (info_form_of_flags flags) o.text) asked [] ++ operands_info (info_form_of_flags flags) packages rest)) is

pub no_operands : (flags : Flags) (packages : List Plain) → operands_info (info_form_of_flags flags) packages [] ≡ []
no_operands flags packages = refl
