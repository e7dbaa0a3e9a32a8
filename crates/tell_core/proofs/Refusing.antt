-- Of which operand a refusal tells.
use Rattle.std.proofs.Common.{◌≡◌, inl, inr, Bool, true, false, List, [], ◌∷◌, Option, Some, None, Ok, Err, refl, ◌∙◌}
use Rattle.std.specs.Prelude.{ℕ, if◌then◌else◌, is_some}
use Rattle.adb_view.specs.Plain.{Plain}
use Rattle.command_core.specs.Command.{CommandLine}
use Rattle.command_core.specs.declared.operands.Operand.{Operand}
use Rattle.report_core.specs.declared.refusal.Refusal.{Refusal}
use Rattle.report_core.specs.declared.refusal.Refusal.TheVariants.{NotInstalled}
use Rattle.tell_core.specs.InfoForm.{info_form_of_flags}
use Rattle.tell_core.specs.Info.{form_info, info_of, info_refusal, info_unless_refused, operands_info}
use Rattle.tell_core.specs.InfoPackages.{package_meant_by_operand_text}
use Rattle.tell_core.specs.InfoRefusals.{IsNotInstalledRefusalOfOperand}
use Rattle.tell_core.specs.declared.info.reporting.ReportAndRefusal.{ReportAndRefusal}
use Rattle.tell_core.specs.declared.info.reporting.Form.{Form}
use Rattle.tell_core.specs.declared.info.reporting.Form.TheVariants.{Contents, Depends, Description, Installed, Owner}

behind : (o : Operand) (operands : List Operand) (refusal : Refusal) → IsNotInstalledRefusalOfOperand operands refusal → IsNotInstalledRefusalOfOperand (o ∷ operands) refusal
behind o operands refusal is = (is.0, inr is.1, is.2)

refused_is : (form : Form) (packages : List Plain) (operands : List Operand) (refusal : Refusal) → info_refusal form packages operands ≡ Some refusal → IsNotInstalledRefusalOfOperand operands refusal
refused_is form packages [] refusal e = absurd cc
refused_is form packages (o ∷ operands) refusal e =
    go (is_some (package_meant_by_operand_text form packages o.text)) e (λ rest. refused_is form packages operands refusal rest)
  where
    go : (t : Bool) → (if t then info_refusal form packages operands else Some (NotInstalled o.place)) ≡ Some refusal
        → (info_refusal form packages operands ≡ Some refusal → IsNotInstalledRefusalOfOperand operands refusal) → IsNotInstalledRefusalOfOperand (o ∷ operands) refusal
    go true e later = behind o operands refusal (later e)
    go false e later = let is : refusal ≡ NotInstalled o.place = cc in (o, inl refl, is)

pub unless_err : (refused : Option Refusal) (report : List ℕ) (refusal : Refusal) → info_unless_refused refused report ≡ Err refusal → refused ≡ Some refusal
unless_err None report refusal e = absurd cc
unless_err (Some r) report refusal e = cc

unless_ok : (refused : Option Refusal) (report : List ℕ) (done : ReportAndRefusal) → info_unless_refused refused report ≡ Ok done → done.following_refusal ≡ None
unless_ok None report done e = cc
unless_ok (Some r) report done e = absurd cc

by_operands : (form : Form) (packages : List Plain) (operands : List Operand) (refusal : Refusal)
    → info_unless_refused (info_refusal form packages operands) (operands_info form packages operands) ≡ Err refusal → IsNotInstalledRefusalOfOperand operands refusal
by_operands form packages operands refusal e =
    refused_is form packages operands refusal (unless_err (info_refusal form packages operands) (operands_info form packages operands) refusal e)

form_refused : (form : Form) (packages : List Plain) (operands : List Operand) (refusal : Refusal) → form_info form packages operands ≡ Err refusal → IsNotInstalledRefusalOfOperand operands refusal
form_refused Installed packages operands refusal e = absurd cc
form_refused Description packages [] refusal e = absurd cc
form_refused Description packages (o ∷ operands) refusal e = by_operands Description packages (o ∷ operands) refusal e
form_refused Contents packages operands refusal e = by_operands Contents packages operands refusal e
form_refused Depends packages operands refusal e = by_operands Depends packages operands refusal e
form_refused Owner packages operands refusal e = by_operands Owner packages operands refusal e

pub info_refused : (c : CommandLine) (packages : List Plain) (refusal : Refusal) → info_of c packages ≡ Err refusal → IsNotInstalledRefusalOfOperand c.operands refusal
unfolding info_of
info_refused c packages refusal e = form_refused (info_form_of_flags c.flags) packages c.operands refusal e

-- ---- behind a report

never : (form : Form) (packages : List Plain) (operands : List Operand) (done : ReportAndRefusal) (refusal : Refusal)
    → info_unless_refused (info_refusal form packages operands) (operands_info form packages operands) ≡ Ok done → done.following_refusal ≡ Some refusal → ⊥
never form packages operands done refusal e following_refusal =
    let gone = unless_ok (info_refusal form packages operands) (operands_info form packages operands) done e in
    (absurd cc)

form_late : (form : Form) (packages : List Plain) (operands : List Operand) (done : ReportAndRefusal) (refusal : Refusal) → form_info form packages operands ≡ Ok done → done.following_refusal ≡ Some refusal → (form ≡ Installed) × IsNotInstalledRefusalOfOperand operands refusal
form_late Installed packages operands done refusal e following_refusal =
    let same : info_refusal Installed packages operands ≡ done.following_refusal = cc in
    (refl, refused_is Installed packages operands refusal (same ∙ following_refusal))
form_late Description packages [] done refusal e following_refusal = let gone : done.following_refusal ≡ None = cc in absurd cc
form_late Description packages (o ∷ operands) done refusal e following_refusal = absurd (never Description packages (o ∷ operands) done refusal e following_refusal)
form_late Contents packages operands done refusal e following_refusal = absurd (never Contents packages operands done refusal e following_refusal)
form_late Depends packages operands done refusal e following_refusal = absurd (never Depends packages operands done refusal e following_refusal)
form_late Owner packages operands done refusal e following_refusal = absurd (never Owner packages operands done refusal e following_refusal)

abbrev form_by : Bool → Bool → Bool → Bool → Form
form_by owner installed contents depends =
    if owner then Owner else if installed then Installed else if contents then Contents else if depends then Depends else Description

is_installed : (owner installed contents depends : Bool) → form_by owner installed contents depends ≡ Installed → installed ≡ true
is_installed true installed contents depends e = absurd cc
is_installed false true contents depends e = refl
is_installed false false true depends e = absurd cc
is_installed false false false true e = absurd cc
is_installed false false false false e = absurd cc

pub info_late : (c : CommandLine) (packages : List Plain) (done : ReportAndRefusal) (refusal : Refusal) → info_of c packages ≡ Ok done → done.following_refusal ≡ Some refusal → (c.flags.installed ≡ true) × IsNotInstalledRefusalOfOperand c.operands refusal
unfolding info_of
info_late c packages done refusal e following_refusal =
    let is = form_late (info_form_of_flags c.flags) packages c.operands done refusal e following_refusal in
    (is_installed c.flags.who_owns c.flags.installed c.flags.contents c.flags.depends is.0, is.1)
