-- What a command asks of a change besides world. The rules are in `docs/commands.md`, "`add` and `del`"
-- and "`upgrade` and `fix`".
use Rattle.std.specs.Prelude.{ℕ, Bool, ◌||◌, if◌then◌else◌, List, [], ◌∷◌, Option, Some, None, Result, Err}
use Rattle.change_report.specs.change_inputs.Inputs.{Inputs}
use Rattle.change_report.specs.change_outcome.ChangeOutcome.{ChangeWishes}
use Rattle.command_core.specs.Command.{CommandLine}
use Rattle.command_core.specs.declared.command.Applet.{Applet}
use Rattle.command_core.specs.declared.command.Applet.TheVariants.{Del, Fix, Upgrade}
use Rattle.command_core.specs.declared.operands.Operand.{Operand}
pub use Rattle.change_report.specs.change_inputs.World.{operand_texts}
use Rattle.dep_core.specs.World.{has_dependency_named}
use Rattle.change_report.specs.package_changes.Report.{was_installed}
use Rattle.change_report.specs.candidate_core.Rank.{UpgradedNames, all_names, listed_names, no_names}
use Rattle.report_core.specs.declared.refusal.Refusal.{Refusal}
use Rattle.report_core.specs.declared.refusal.Refusal.TheVariants.{NotInstalled}

-- the names that `del` takes out of world, whether their packages are then removed or kept
abbrev pub names_to_remove : Applet → List Operand → List (List ℕ)
names_to_remove Del operands = operand_texts operands
names_to_remove applet operands = []

-- the names that `upgrade` upgrades: those of its operands, or all if it has none
abbrev pub names_to_upgrade : Applet → List Operand → UpgradedNames
names_to_upgrade Upgrade [] = all_names
names_to_upgrade Upgrade (o ∷ operands) = listed_names (operand_texts (o ∷ operands))
names_to_upgrade applet operands = no_names

-- the texts of the operands of `upgrade`, and none for another command
abbrev pub names_of_upgrade : Applet → List Operand → List (List ℕ)
names_of_upgrade Upgrade operands = operand_texts operands
names_of_upgrade applet operands = []

-- the names that `fix` reinstalls: those of its operands
abbrev pub names_to_reinstall : Applet → List Operand → List (List ℕ)
names_to_reinstall Fix operands = operand_texts operands
names_to_reinstall applet operands = []

-- what a command asks for besides its world
abbrev pub wishes_of : CommandLine → ChangeWishes
wishes_of command = record {
  purge = command.flags.purge;
  no_scripts = command.flags.no_scripts;
  to_remove = names_to_remove command.applet command.operands;
}

-- whether a package of the name is installed before the change
abbrev pub is_installed_name : Inputs → List ℕ → Bool
is_installed_name inputs name = was_installed inputs.root.database.packages name

-- whether world has an entry of the name, or a package of it is installed
abbrev pub is_name_in_world_or_installed : Inputs → List ℕ → Bool
is_name_in_world_or_installed inputs name =
    has_dependency_named name inputs.root.world || is_installed_name inputs name

-- the place on the command line of the first operand whose text fails the test `is_known`; None if there is none
abbrev pub place_of_first_unknown_operand : (List ℕ → Bool) → List Operand → Option ℕ
place_of_first_unknown_operand is_known [] = None
place_of_first_unknown_operand is_known (o ∷ operands) =
    if is_known o.text then place_of_first_unknown_operand is_known operands else Some o.place

-- the place on the command line of the operand that is refused as not installed: for `del` a name that
-- is neither in world nor installed, for `upgrade` and `fix` one that is not installed
abbrev pub unknown_operand_place : Applet → Inputs → List Operand → Option ℕ
unknown_operand_place Del inputs operands =
    place_of_first_unknown_operand (is_name_in_world_or_installed inputs) operands
unknown_operand_place Upgrade inputs operands =
    place_of_first_unknown_operand (is_installed_name inputs) operands
unknown_operand_place Fix inputs operands =
    place_of_first_unknown_operand (is_installed_name inputs) operands
unknown_operand_place applet inputs operands = None

-- the result `next`, unless there is the place of an operand that names no known package: it refuses the command
abbrev pub unless_unknown_operand : {A : Type 0} → Option ℕ → Result A Refusal → Result A Refusal
unless_unknown_operand None next = next
unless_unknown_operand (Some place) next = Err (NotInstalled place)
