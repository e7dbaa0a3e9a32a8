-- The result of a command that changes the installed packages: it is refused, or it reports, and leaves
-- files. The rules are in `docs/commands.md`, "`add` and `del`", parts "What is reported" and "What is refused", and
-- in "`upgrade` and `fix`"; which candidates are chosen is in `docs/selection.md`.
use Rattle.std.specs.Prelude.{◌≡◌, ℕ, Bool, true, false, if◌then◌else◌, List, Option, Some, None, Result, Ok, Err}
use Rattle.base_core.specs.Files.{Files}
use Rattle.change_report.specs.change_inputs.Chains.{and_then}
use Rattle.change_report.specs.change_inputs.Inputs.{Inputs, inputs_of}
use Rattle.change_report.specs.change_outcome.ChangeOutcome.{ChangeDone, ChangeWishes, IsFirstClashOfChangeAmong, members_after_change, change_or_refusal}
use Rattle.change_report.specs.change_outcome.MembersAfter.{MemberFound}
use Rattle.command_core.specs.Command.{CommandLine}
use Rattle.change_report.specs.make_info.Reads.{Reads}
use Rattle.change_report.specs.package_changes.Changes.{Replacement}
use Rattle.change_report.specs.package_changes.Report.{simulated_report}
use Rattle.change_report.specs.path_clashes.Clash.{NamePair}
use Rattle.change_report.specs.candidate_core.Rank.{SelectionProblem}
use Rattle.report_core.specs.declared.refusal.Refusal.{Refusal}
use Rattle.report_core.specs.declared.refusal.Refusal.TheVariants.{Unsatisfied}
use Rattle.engine_core.specs.Selecting.{pool_of_inputs_unless_too_many_candidates, replacement_of_choice}
use Rattle.engine_core.specs.Wishes.{names_to_reinstall, unknown_operand_place, unless_unknown_operand, wishes_of}

-- ---- the selection

-- what a command has read of the root, and the packages before with the candidates that are to replace them
pub record InputsAndReplacement : Type 0 where
  -- what was read of the root
  pub inputs : Inputs
  -- the packages before, the selected candidates, and the names to be reinstalled
  pub replacement : Replacement

-- what is selected, if the candidates at the places `trace` are chosen; None means that no selection satisfies the new
-- world, which is refused
abbrev pub selected_from_pool_by_choice :
    CommandLine → Inputs → SelectionProblem → Option (List ℕ) → Result InputsAndReplacement Refusal
selected_from_pool_by_choice command inputs pool None = Err Unsatisfied
selected_from_pool_by_choice command inputs pool (Some trace) =
    Ok (record {
      inputs = inputs;
      replacement = replacement_of_choice (names_to_reinstall command.applet command.operands)
          inputs pool trace;
    })

-- What is selected by the inputs and the places `chosen` of the chosen candidates. Too many candidates are refused
-- first, then an operand that names no package, and then a new world that no selection satisfies.
abbrev pub selected_from_inputs_by_choice :
    CommandLine → Option (List ℕ) → Inputs → Result InputsAndReplacement Refusal
selected_from_inputs_by_choice command chosen inputs =
    and_then (pool_of_inputs_unless_too_many_candidates command inputs) (λ pool.
    unless_unknown_operand (unknown_operand_place command.applet inputs command.operands)
    (selected_from_pool_by_choice command inputs pool chosen))

-- what a command selects, by what reads find and by the places `chosen` of the chosen candidates, or its first refusal
abbrev pub selected_from_reads_by_choice : CommandLine → Reads → Option (List ℕ)
    → Result InputsAndReplacement Refusal
selected_from_reads_by_choice command read chosen =
    and_then (inputs_of command read) (selected_from_inputs_by_choice command chosen)

-- the packages that are installed after the selected change, as reads find them, or the first refusal
abbrev pub packages_found_after_change :
    CommandLine → Reads → Result InputsAndReplacement Refusal → Result (List MemberFound) Refusal
packages_found_after_change command read selected =
    and_then selected (λ s. members_after_change s.inputs s.replacement (wishes_of command) read)

-- ---- the result

-- the result of a change with `--simulate`: the report alone; nothing is written
abbrev pub simulated_change : Replacement → ChangeWishes → Files → ChangeDone
simulated_change r wishes files =
    record { report = simulated_report r wishes.to_remove; files = files; commits = false }

-- the result of a change whose candidates are selected. `clash` is the first clash of names, if there is one
abbrev pub change_of_selected :
    CommandLine → Reads → Files → Option NamePair → InputsAndReplacement → Result ChangeDone Refusal
change_of_selected command read files clash s =
    if command.flags.simulate then Ok (simulated_change s.replacement (wishes_of command) files) else
    change_or_refusal s.inputs s.replacement (wishes_of command) read clash files

-- the result of a command that changes what is installed, or its first refusal. `chosen` are the places of the chosen
-- candidates, and `clash` is the first clash of names
unfoldable pub change_of_command :
    CommandLine → Reads → Files → Option (List ℕ) → Option NamePair → Result ChangeDone Refusal
change_of_command command read files chosen clash =
    and_then (selected_from_reads_by_choice command read chosen)
    (change_of_selected command read files clash)

-- ---- the first clash

-- the first clash of names that a change finds; a simulated change does not search for it, and has none
abbrev pub IsFirstClashOrNoneIfSimulatedAmong :
    Bool → ChangeWishes → Reads → Files → Files → InputsAndReplacement → Option NamePair → Type 0
IsFirstClashOrNoneIfSimulatedAmong true wishes read files present_files s clash = clash ≡ None
IsFirstClashOrNoneIfSimulatedAmong false wishes read files present_files s clash =
    IsFirstClashOfChangeAmong s.inputs s.replacement wishes read files present_files clash

-- the first clash of names that a command finds; a command that is refused earlier does not search for it, and
-- has none
abbrev pub IsFirstClashOrNoneIfRefusedAmong :
    CommandLine → Reads → Files → Files → Result InputsAndReplacement Refusal → Option NamePair → Type 0
IsFirstClashOrNoneIfRefusedAmong command read files present_files (Ok s) clash =
    IsFirstClashOrNoneIfSimulatedAmong command.flags.simulate (wishes_of command) read files present_files s
    clash
IsFirstClashOrNoneIfRefusedAmong command read files present_files (Err refusal) clash = clash ≡ None

-- The first clash of the names after a change; none if the command is refused before that test. `files`
-- decide whether a configuration file is kept or a file is written beside it; names clash among
-- `present_files`.
abbrev pub IsFirstClashOfCommandAmong :
    CommandLine → Reads → Files → Files → Option (List ℕ) → Option NamePair → Type 0
IsFirstClashOfCommandAmong command read files present_files chosen clash =
    IsFirstClashOrNoneIfRefusedAmong command read files present_files
    (selected_from_reads_by_choice command read chosen) clash

-- *IsFirstClashOrNoneIfSimulatedAmong*, with the same files as `present_files`, as on an observable tree
abbrev pub IsFirstClashOrNoneIfSimulated :
    Bool → ChangeWishes → Reads → Files → InputsAndReplacement → Option NamePair → Type 0
IsFirstClashOrNoneIfSimulated simulate wishes read files s clash =
    IsFirstClashOrNoneIfSimulatedAmong simulate wishes read files files s clash

-- *IsFirstClashOrNoneIfRefusedAmong*, with the same files as `present_files`
abbrev pub IsFirstClashOrNoneIfRefused :
    CommandLine → Reads → Files → Result InputsAndReplacement Refusal → Option NamePair → Type 0
IsFirstClashOrNoneIfRefused command read files selected clash =
    IsFirstClashOrNoneIfRefusedAmong command read files files selected clash

-- *IsFirstClashOfCommandAmong*, with the same files as `present_files`
abbrev pub IsFirstClashOfCommand :
    CommandLine → Reads → Files → Option (List ℕ) → Option NamePair → Type 0
IsFirstClashOfCommand command read files chosen clash =
    IsFirstClashOfCommandAmong command read files files chosen clash
