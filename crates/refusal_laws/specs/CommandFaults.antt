-- The reasons for which a command that changes the installed packages is refused. They are in `docs/commands.md`,
-- "`add` and `del`", part "What is refused", and "`upgrade` and `fix`". The definitions follow the order of the tests.
use Rattle.std.specs.Prelude.{◌≡◌, ◌⊎◌, ℕ, false, List, Option, Ok}
use Rattle.outcome.specs.adb_fields.FirstPair.{IsIn}
use Rattle.base_core.specs.Files.{Files}
use Rattle.outcome.specs.change_inputs.Inputs.{Inputs, inputs_of}
use Rattle.command_core.specs.Command.{CommandLine}
use Rattle.command_core.specs.declared.command.Applet.{Applet}
use Rattle.command_core.specs.declared.command.Applet.TheVariants.{Del, Fix, Upgrade}
use Rattle.command_core.specs.declared.operands.Operand.{Operand}
use Rattle.dep_core.specs.World.{has_dependency_named}
use Rattle.outcome.specs.engine_core.Changed.{InputsAndReplacement, selected_from_reads_by_choice}
use Rattle.outcome.specs.engine_core.Selecting.{pool_of_inputs_unless_too_many_candidates}
use Rattle.outcome.specs.engine_core.Wishes.{is_installed_name, wishes_of}
use Rattle.outcome.specs.make_info.Reads.{Reads}
use Rattle.outcome.specs.candidate_core.Rank.{SelectionProblem}
use Rattle.report_core.specs.declared.refusal.Refusal.{Refusal}
use Rattle.report_core.specs.declared.refusal.Refusal.TheVariants.{NotInstalled, TooMany, Unsatisfied}
use Rattle.outcome.specs.search_tables.Selection.{IsSatisfying}
use Rattle.refusal_laws.specs.ChangeFaults.{IsFaultOfChange}
use Rattle.refusal_laws.specs.InputFaults.{AreTooManyAndCountIsLimitPlusOne, IsFaultOfInput}

-- ---- a selection

-- a command with this applet does not know a name: `del` needs one that is in world or installed, `upgrade` and `fix`
-- one that is installed; other commands know all names
abbrev pub IsNameUnknownToDelUpgradeOrFix : Applet → Inputs → List ℕ → Type 0
IsNameUnknownToDelUpgradeOrFix Del inputs name =
    (has_dependency_named name inputs.root.world ≡ false) × (is_installed_name inputs name ≡ false)
IsNameUnknownToDelUpgradeOrFix Upgrade inputs name = is_installed_name inputs name ≡ false
IsNameUnknownToDelUpgradeOrFix Fix inputs name = is_installed_name inputs name ≡ false
IsNameUnknownToDelUpgradeOrFix applet inputs name = ⊥

-- the operand at this place of the command line is a name that the command does not know
pub record IsOperandUnknownToDelUpgradeOrFix (command : CommandLine) (inputs : Inputs)
    (place : ℕ) : Type 0 where
  -- an operand of the command
  pub operand : Operand
  pub given : IsIn operand command.operands
  -- the operand has this place in the command line
  pub at : operand.place ≡ place
  -- the command does not know the operand's text as a name
  pub unknown : IsNameUnknownToDelUpgradeOrFix command.applet inputs operand.text

-- no selection of the candidates satisfies the new world
pub record IsNewWorldUnsatisfiable (command : CommandLine) (inputs : Inputs) : Type 0 where
  -- the candidates of the command, under its new world
  pub pool : SelectionProblem
  pub is_pool : pool_of_inputs_unless_too_many_candidates command inputs ≡ Ok pool
  -- no selection of these candidates satisfies the new world
  pub none : (selection : List ℕ) → IsSatisfying pool selection → ⊥

-- a refusal is true that is tested after the root is read and before package files are: of the number of candidates, an
-- operand, or the new world
abbrev pub IsFaultOfSelection : CommandLine → Inputs → Refusal → Type 0
IsFaultOfSelection command inputs (TooMany count) = AreTooManyAndCountIsLimitPlusOne inputs count
IsFaultOfSelection command inputs (NotInstalled place) =
    IsOperandUnknownToDelUpgradeOrFix command inputs place
IsFaultOfSelection command inputs Unsatisfied = IsNewWorldUnsatisfiable command inputs
IsFaultOfSelection command inputs other = ⊥

-- ---- a command

-- the inputs of the command are read, and the refusal is true of the candidates, an operand or the new world
abbrev pub IsFaultOfSelectionOverReads : CommandLine → Reads → Refusal → Type 0
IsFaultOfSelectionOverReads command read refusal =
    (inputs : Inputs) × (inputs_of command read ≡ Ok inputs)
    × IsFaultOfSelection command inputs refusal

-- the candidates at the places `chosen` are selected, the change is not simulated, and the refusal is true of this
-- change
abbrev pub IsFaultOfUnsimulatedChangeByCandidatePlaces :
    CommandLine → Reads → Files → Option (List ℕ) → Refusal → Type 0
IsFaultOfUnsimulatedChangeByCandidatePlaces command read files chosen refusal =
    (s : InputsAndReplacement) × (selected_from_reads_by_choice command read chosen ≡ Ok s)
    × (command.flags.simulate ≡ false)
    × IsFaultOfChange s.inputs s.replacement (wishes_of command) read files refusal

-- a refusal of the command is true: of an input, of the selection, or of the change. `chosen` has the places of the
-- candidates of the first preferred selection, if there is one
abbrev pub IsFaultOfCommandByCandidatePlaces : CommandLine → Reads → Files → Option (List ℕ) → Refusal
    → Type 0
IsFaultOfCommandByCandidatePlaces command read files chosen refusal =
    IsFaultOfInput command read refusal
    ⊎ (IsFaultOfSelectionOverReads command read refusal
    ⊎ IsFaultOfUnsimulatedChangeByCandidatePlaces command read files chosen refusal)
