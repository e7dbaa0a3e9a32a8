-- What holds of the candidates and the operands if a selection is refused. The order is that of reasons 6 to 8 in
-- `docs/commands.md`, "`add` and `del`", part "What is refused".
use Rattle.std.specs.Prelude.{◌≡◌, ℕ, List, ◌∷◌, ◌++◌, Ok}
use Rattle.outcome.specs.adb_fields.FirstPair.{IsIn}
use Rattle.outcome.specs.change_inputs.Inputs.{Inputs}
use Rattle.command_core.specs.Command.{CommandLine}
use Rattle.command_core.specs.declared.operands.Operand.{Operand}
use Rattle.outcome.specs.engine_core.Selecting.{pool_of_inputs_unless_too_many_candidates}
use Rattle.outcome.specs.candidate_core.Rank.{SelectionProblem}
use Rattle.report_core.specs.declared.refusal.Refusal.{Refusal}
use Rattle.report_core.specs.declared.refusal.Refusal.TheVariants.{NotInstalled, Unsatisfied}
use Rattle.refusal_laws.specs.CommandFaults.{IsNameUnknownToDelUpgradeOrFix}

-- the command knows the name of each of these operands, as *IsNameUnknownToDelUpgradeOrFix* says for its applet
abbrev pub AreKnownOperands : CommandLine → Inputs → List Operand → Type 0
AreKnownOperands command inputs operands =
    (o : Operand) → IsIn o operands → IsNameUnknownToDelUpgradeOrFix command.applet inputs o.text → ⊥

-- each operand of the command before the one at this place is known to the command (*IsOperandUnknownToDelUpgradeOrFix* says that this
-- one is not)
pub record IsFirstUnknown (command : CommandLine) (inputs : Inputs) (place : ℕ) : Type 0 where
  -- the operands of the command: those before the one at this place, this one, and those after it
  pub before : List Operand
  pub operand : Operand
  pub after : List Operand
  pub are : command.operands ≡ before ++ operand ∷ after
  -- the operand has this place in the command line
  pub at : operand.place ≡ place
  -- the command knows each operand before the one at this place
  pub known : AreKnownOperands command inputs before

-- there are no more candidates than a pool holds
abbrev pub HasPool : CommandLine → Inputs → Type 0
HasPool command inputs =
    (pool : SelectionProblem) × (pool_of_inputs_unless_too_many_candidates command inputs ≡ Ok pool)

-- the tests before this refusal of a selection were passed. First the candidates are counted, then the operands are
-- tested in their order, and last a selection is searched for
abbrev pub HasPassedTestsBeforeSelectionRefusal : CommandLine → Inputs → Refusal → Type 0
HasPassedTestsBeforeSelectionRefusal command inputs (NotInstalled place) =
    HasPool command inputs × IsFirstUnknown command inputs place
HasPassedTestsBeforeSelectionRefusal command inputs Unsatisfied =
    HasPool command inputs × AreKnownOperands command inputs command.operands
HasPassedTestsBeforeSelectionRefusal command inputs other = Unit {0}
