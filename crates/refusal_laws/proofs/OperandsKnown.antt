-- A selection that is refused has passed the tests before.
use Rattle.std.proofs.Common.{◌≡◌, inl, inr, ◌∙◌, ℕ, Bool, true, false, List, [], ◌∷◌, ◌++◌, Option, Some, None, Ok, Err, refl, ap, sym, subst, true≢false}
use Rattle.std.specs.Prelude.{◌||◌, if◌then◌else◌}
use Rattle.outcome.specs.adb_fields.FirstPair.{IsIn}
use Rattle.outcome.specs.change_inputs.Inputs.{Inputs}
use Rattle.command_core.specs.Command.{CommandLine}
use Rattle.command_core.specs.declared.command.Applet.{Applet}
use Rattle.command_core.specs.declared.command.Applet.TheVariants.{Del, Fix, Upgrade}
use Rattle.command_core.specs.declared.operands.Operand.{Operand}
use Rattle.outcome.specs.engine_core.Changed.{selected_from_pool_by_choice, selected_from_inputs_by_choice}
use Rattle.outcome.specs.engine_core.Selecting.{pool_of_inputs_unless_too_many_candidates}
use Rattle.outcome.specs.engine_core.Wishes.{place_of_first_unknown_operand, is_installed_name, is_name_in_world_or_installed, names_to_upgrade, unknown_operand_place, unless_unknown_operand}
use Rattle.outcome.specs.candidate_core.Rank.{SelectionProblem}
use Rattle.report_core.specs.declared.refusal.Refusal.{Refusal}
use Rattle.report_core.specs.declared.refusal.Refusal.TheVariants.{NotInstalled, Unsatisfied}
use Rattle.refusal_laws.specs.CommandFaults.{IsNameUnknownToDelUpgradeOrFix}
use Rattle.refusal_laws.specs.OperandsKnown.{AreKnownOperands, HasPassedTestsBeforeSelectionRefusal, IsFirstUnknown}
use Rattle.refusal_laws.proofs.CommandFaults.{pool_fault}
use Rattle.refusal_laws.proofs.Lists.{and_then_err}

-- ---- operands

abbrev ArePassing : (List ℕ → Bool) → List Operand → Type 0
ArePassing is_known operands = (o : Operand) → IsIn o operands → is_known o.text ≡ true

record IsFirstFailing (is_known : List ℕ → Bool) (operands : List Operand) (place : ℕ) : Type 0 where
  pub before : List Operand
  pub operand : Operand
  pub after : List Operand
  pub are : operands ≡ before ++ operand ∷ after
  pub at : operand.place ≡ place
  pub known : ArePassing is_known before

one_more : (is_known : List ℕ → Bool) (o : Operand) (operands : List Operand) → is_known o.text ≡ true → ArePassing is_known operands → ArePassing is_known (o ∷ operands)
one_more is_known o operands k more p (inl same) = ap (λ (x : Operand). is_known x.text) same ∙ k
one_more is_known o operands k more p (inr inside) = more p inside

all_passing : (is_known : List ℕ → Bool) (operands : List Operand) → place_of_first_unknown_operand is_known operands ≡ None → ArePassing is_known operands
all_passing is_known [] e = λ p inside. absurd inside
all_passing is_known (o ∷ operands) e = by_test (is_known o.text) refl e (all_passing is_known operands)
  where
    by_test : (b : Bool) → is_known o.text ≡ b → (if b then place_of_first_unknown_operand is_known operands else Some o.place) ≡ None → (place_of_first_unknown_operand is_known operands ≡ None → ArePassing is_known operands) → ArePassing is_known (o ∷ operands)
    by_test true k e more = one_more is_known o operands k (more e)
    by_test false k e more = absurd (cc (e))

first_failing : (is_known : List ℕ → Bool) (operands : List Operand) (place : ℕ) → place_of_first_unknown_operand is_known operands ≡ Some place → IsFirstFailing is_known operands place
first_failing is_known [] place e = absurd (cc (e))
first_failing is_known (o ∷ operands) place e = by_test (is_known o.text) refl e (first_failing is_known operands place)
  where
    behind : is_known o.text ≡ true → IsFirstFailing is_known operands place → IsFirstFailing is_known (o ∷ operands) place
    behind k f = record {
      before = o ∷ f.before;
      operand = f.operand;
      after = f.after;
      are = ap (λ (xs : List Operand). o ∷ xs) f.are;
      at = f.at;
      known = one_more is_known o f.before k f.known;
    }

    by_test : (b : Bool) → is_known o.text ≡ b → (if b then place_of_first_unknown_operand is_known operands else Some o.place) ≡ Some place
        → (place_of_first_unknown_operand is_known operands ≡ Some place → IsFirstFailing is_known operands place) → IsFirstFailing is_known (o ∷ operands) place
    by_test true k e more = behind k (more e)
    by_test false k e more = record { before = []; operand = o; after = operands; are = refl; at = (let same : o.place ≡ place = cc in same); known = λ p inside. absurd inside }

-- ---- by the command

known_to : (command : CommandLine) (inputs : Inputs) (applet : Applet) (is_known : List ℕ → Bool) → ((name : List ℕ) → is_known name ≡ true → IsNameUnknownToDelUpgradeOrFix applet inputs name → ⊥) → applet ≡ command.applet
    → (operands : List Operand) → ArePassing is_known operands → AreKnownOperands command inputs operands
known_to command inputs applet is_known known same operands pass o inside unknown =
    known o.text (pass o inside) (subst (λ (a : Applet). IsNameUnknownToDelUpgradeOrFix a inputs o.text) (sym same) unknown)

del_knows : (inputs : Inputs) (name : List ℕ) → is_name_in_world_or_installed inputs name ≡ true → IsNameUnknownToDelUpgradeOrFix Del inputs name → ⊥
del_knows inputs name known (world, installed) = true≢false (sym known ∙ (λ i. world i || installed i))

module _ (command : CommandLine) (inputs : Inputs) where
  first_by : (applet : Applet) (is_known : List ℕ → Bool) (place : ℕ) → ((name : List ℕ) → is_known name ≡ true → IsNameUnknownToDelUpgradeOrFix applet inputs name → ⊥) → applet ≡ command.applet
      → place_of_first_unknown_operand is_known command.operands ≡ Some place → IsFirstUnknown command inputs place
  first_by applet is_known place known same e =
      let f = first_failing is_known command.operands place e in
      record { before = f.before; operand = f.operand; after = f.after; are = f.are; at = f.at; known = known_to command inputs applet is_known known same f.before f.known }

  first_place : (applet : Applet) (place : ℕ) → applet ≡ command.applet → unknown_operand_place applet inputs command.operands ≡ Some place → IsFirstUnknown command inputs place
  first_place Del place same e = first_by Del (is_name_in_world_or_installed inputs) place (del_knows inputs) same e
  first_place Upgrade place same e = first_by Upgrade (is_installed_name inputs) place (λ name known off. true≢false (sym known ∙ off)) same e
  first_place Fix place same e = first_by Fix (is_installed_name inputs) place (λ name known off. true≢false (sym known ∙ off)) same e
  first_place applet place same e = absurd (cc (e))

  no_place : (applet : Applet) → applet ≡ command.applet → unknown_operand_place applet inputs command.operands ≡ None → AreKnownOperands command inputs command.operands
  no_place Del same e = known_to command inputs Del (is_name_in_world_or_installed inputs) (del_knows inputs) same command.operands (all_passing (is_name_in_world_or_installed inputs) command.operands e)
  no_place Upgrade same e =
      known_to command inputs Upgrade (is_installed_name inputs) (λ name known off. true≢false (sym known ∙ off)) same command.operands (all_passing (is_installed_name inputs) command.operands e)
  no_place Fix same e = known_to command inputs Fix (is_installed_name inputs) (λ name known off. true≢false (sym known ∙ off)) same command.operands (all_passing (is_installed_name inputs) command.operands e)
  no_place applet same e = λ o inside unknown. subst (λ (a : Applet). IsNameUnknownToDelUpgradeOrFix a inputs o.text) (sym same) unknown

  passed : (pool : SelectionProblem) → pool_of_inputs_unless_too_many_candidates command inputs ≡ Ok pool → (place : Option ℕ) → unknown_operand_place command.applet inputs command.operands ≡ place → (chosen : Option (List ℕ)) (refusal : Refusal)
      → unless_unknown_operand place (selected_from_pool_by_choice command inputs pool chosen) ≡ Err refusal → HasPassedTestsBeforeSelectionRefusal command inputs refusal
  passed pool is (Some place) at chosen refusal e =
      let same : NotInstalled place ≡ refusal = cc in
      subst (HasPassedTestsBeforeSelectionRefusal command inputs) same ((pool, is), first_place command.applet place refl at)
  passed pool is None at None refusal e =
      let same : Unsatisfied ≡ refusal = cc in
      subst (HasPassedTestsBeforeSelectionRefusal command inputs) same ((pool, is), no_place command.applet refl at)
  passed pool is None at (Some trace) refusal e = absurd (cc (e))

  pub selection_passed : (chosen : Option (List ℕ)) (refusal : Refusal) → selected_from_inputs_by_choice command chosen inputs ≡ Err refusal → HasPassedTestsBeforeSelectionRefusal command inputs refusal
  selection_passed chosen refusal e =
      elim (and_then_err (pool_of_inputs_unless_too_many_candidates command inputs) (λ pool. unless_unknown_operand (unknown_operand_place command.applet inputs command.operands) (selected_from_pool_by_choice command inputs pool chosen)) refusal e) [
        | inl first ↦ (let many = pool_fault inputs (names_to_upgrade command.applet command.operands) refusal first in subst (HasPassedTestsBeforeSelectionRefusal command inputs) many.2 tt)
        | inr next ↦ passed next.0 next.1 (unknown_operand_place command.applet inputs command.operands) refl chosen refusal next.2
      ]
