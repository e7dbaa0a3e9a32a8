-- Operands one by one: what is told of one, and whether it is refused.
use Rattle.std.proofs.Common.{◌≡◌, ℕ, zero, suc, ◌+◌, ◌<◌, Bool, true, false, List, [], ◌∷◌, length, drop, Option, Some, None, refl, sym, ◌∙◌, ap, arith}
use Rattle.std.specs.Prelude.{if◌then◌else◌, is_some, slice_get}
use Rattle.std.specs.Option.{option_or}
use Rattle.adb_view.specs.Plain.{Plain}
use Rattle.command_core.specs.declared.operands.Operand.{Operand}
use Rattle.report_core.specs.declared.refusal.Refusal.{Refusal}
use Rattle.report_core.specs.declared.refusal.Refusal.TheVariants.{NotInstalled}
use Rattle.tell_core.specs.Info.{info_refusal}
use Rattle.tell_core.specs.InfoPackages.{package_meant_by_operand_text}
use Rattle.tell_core.specs.declared.info.reporting.Form.{Form}
use Rattle.tell_core.proofs.LineSteps.{left_at}

module _ (form : Form) (packages : List Plain) (operands : List Operand) (i : ℕ) (o : Operand) (at : slice_get operands i ≡ Some o) where
  pub refusal_here : (t : Bool) → t ≡ is_some (package_meant_by_operand_text form packages o.text)
      → info_refusal form packages (drop i operands) ≡ (if t then info_refusal form packages (drop (i + 1) operands) else Some (NotInstalled o.place))
  refusal_here t is =
      ap (info_refusal form packages) (left_at operands i o at)
      ∙ ap (λ b. if b then info_refusal form packages (drop (i + 1) operands) else Some (NotInstalled o.place)) (sym is)

  pub refused : (t : Bool) → t ≡ is_some (package_meant_by_operand_text form packages o.text) → t ≡ false → info_refusal form packages (drop i operands) ≡ Some (NotInstalled o.place)
  refused t is no_package =
      refusal_here t is ∙ ap (λ b. if b then info_refusal form packages (drop (i + 1) operands) else Some (NotInstalled o.place)) no_package

  pub passed : (t : Bool) → t ≡ is_some (package_meant_by_operand_text form packages o.text) → t ≡ true → info_refusal form packages (drop i operands) ≡ info_refusal form packages (drop (i + 1) operands)
  passed t is found =
      refusal_here t is ∙ ap (λ b. if b then info_refusal form packages (drop (i + 1) operands) else Some (NotInstalled o.place)) found

first_of_three : (following_refusal : Option Refusal) (t : Bool) (refusal : Refusal) (rest : Option Refusal)
    → option_or (option_or following_refusal (if t then None else Some refusal)) rest ≡ option_or following_refusal (if t then rest else Some refusal)
first_of_three (Some r) t refusal rest = refl
first_of_three None true refusal rest = refl
first_of_three None false refusal rest = refl

-- one more operand may be refused behind those before
pub refused_after : (following_refusal next : Option Refusal) (t : Bool) (refusal : Refusal) (before after all : Option Refusal)
    → next ≡ option_or following_refusal (if t then None else Some refusal) → before ≡ (if t then after else Some refusal)
    → option_or following_refusal before ≡ all → option_or next after ≡ all
refused_after following_refusal next t refusal before after all is here inv =
    ap (λ r. option_or r after) is ∙ (first_of_three following_refusal t refusal after ∙ (ap (option_or following_refusal) (sym here) ∙ inv))

pub nothing_more : (following_refusal : Option Refusal) → option_or following_refusal None ≡ following_refusal
nothing_more None = refl
nothing_more (Some r) = refl

pub some_within : {X : Type 0} (xs : List X) (i : ℕ) → i < length xs → is_some (slice_get xs i) ≡ true
some_within [] i h = absurd (omega arith)
some_within (x ∷ xs) zero h = refl
some_within (x ∷ xs) (suc i) h = some_within xs i (omega arith)
