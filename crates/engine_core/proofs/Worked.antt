-- Worked cases: what the four commands ask for beside world.
use Rattle.std.proofs.Common.{◌≡◌, ℕ, Bool, false, true, List, [], ◌∷◌, Some, None, refl}
use Rattle.std.specs.Prelude.{codes}
use Rattle.adb_view.specs.Plain.{Plain, blob, more, none, obj}
use Rattle.change_report.specs.change_inputs.Database.{database_of_packages_file_and_is_text}
use Rattle.change_report.specs.change_inputs.Inputs.{Inputs, inputs_from_parts, root_with_new_world_of_command}
use Rattle.command_core.specs.Command.{command_from_parts_and_end_place}
use Rattle.command_core.specs.Flags.{no_flags}
use Rattle.command_core.specs.declared.command.Applet.{Applet}
use Rattle.command_core.specs.declared.command.Applet.TheVariants.{Add, Del, Fix, Upgrade}
use Rattle.command_core.specs.declared.operands.Operand.{Operand}
use Rattle.dep_core.specs.Dependency.{Dependency, dependency_from_parts}
use Rattle.change_report.specs.package_changes.Changes.{change_of_name, changes_of}
use Rattle.change_report.specs.own_core.PlanLists.{sorted_distinct_names}
use Rattle.change_report.specs.candidate_core.Candidates.{Candidate, candidate_from_parts, named}
use Rattle.change_report.specs.candidate_core.Rank.{is_better, rank_cmp, selection_problem_from_parts}
use Rattle.report_core.specs.Reports.{Change, Reinstall, Upgrade as Upgrading}
use Rattle.version_core.specs.Order.{is_version, tokens, version_cmp}
use Rattle.version_core.specs.Token.{later_component_lexeme_by_digits, next_lexeme, number_lexeme_by_digits}
use Rattle.engine_core.specs.Selecting.{replacement_of_choice}
use Rattle.engine_core.specs.Wishes.{names_to_reinstall, names_to_upgrade, unknown_operand_place}

abbrev word : ℕ → List ℕ → Operand
word place text = record { place = place; text = text }

abbrev just_b : List Operand
just_b = word 2 (codes "b") ∷ []

abbrev just_a : List Operand
just_a = word 2 (codes "a") ∷ []

abbrev b_a_c : List Operand
b_a_c = word 2 (codes "b") ∷ (word 3 (codes "a") ∷ (word 4 (codes "c") ∷ []))

-- b 1 is installed; world has an entry of a, which is not
abbrev info_of_b : List ℕ → Plain
info_of_b version = obj (more (blob (codes "b")) (more (blob version) none))

abbrev needs_a : Dependency
needs_a = dependency_from_parts (codes "a") None 1 false None

abbrev inputs : Inputs
inputs =
    inputs_from_parts (root_with_new_world_of_command (command_from_parts_and_end_place Upgrade no_flags [] [] 2) (database_of_packages_file_and_is_text (obj (more (info_of_b (codes "1")) none) ∷ []) None false) [] (needs_a ∷ []) []) []

-- ---- the operand that is refused

del_knows_world : unknown_operand_place Del inputs b_a_c ≡ Some 4
del_knows_world = refl

upgrade_asks_for_what_is_installed : unknown_operand_place Upgrade inputs b_a_c ≡ Some 3
upgrade_asks_for_what_is_installed = refl

fix_asks_for_what_is_installed : unknown_operand_place Fix inputs b_a_c ≡ Some 3
fix_asks_for_what_is_installed = refl

fix_of_what_is_installed : unknown_operand_place Fix inputs just_b ≡ None
fix_of_what_is_installed = refl

add_asks_for_nothing : unknown_operand_place Add inputs b_a_c ≡ None
add_asks_for_nothing = refl

-- ---- what is upgraded: b 1 is installed, and a repository has b 2

abbrev installed_b : Candidate
installed_b = candidate_from_parts (info_of_b (codes "1")) (codes "b") (Some (codes "1")) [] [] [] [] 0 None None true

abbrev newer_b : Candidate
newer_b = candidate_from_parts (info_of_b (codes "2")) (codes "b") (Some (codes "2")) [] [] [] [] 0 (Some 1) None false

-- whether the newer one comes first
abbrev takes_newer : Applet → List Operand → Bool
takes_newer applet operands =
    is_better (selection_problem_from_parts (installed_b ∷ (newer_b ∷ [])) [] (names_to_upgrade applet operands)) (named (codes "b")) 1 0

upgrade_of_all : takes_newer Upgrade [] ≡ true
unfolding rank_cmp is_version version_cmp tokens next_lexeme number_lexeme_by_digits later_component_lexeme_by_digits
upgrade_of_all = refl

upgrade_of_it : takes_newer Upgrade just_b ≡ true
unfolding rank_cmp is_version version_cmp tokens next_lexeme number_lexeme_by_digits later_component_lexeme_by_digits
upgrade_of_it = refl

upgrade_of_another : takes_newer Upgrade just_a ≡ false
unfolding rank_cmp is_version version_cmp tokens next_lexeme number_lexeme_by_digits later_component_lexeme_by_digits
upgrade_of_another = refl

fix_upgrades_nothing : takes_newer Fix just_b ≡ false
unfolding rank_cmp is_version version_cmp tokens next_lexeme number_lexeme_by_digits later_component_lexeme_by_digits
fix_upgrades_nothing = refl

add_upgrades_nothing : takes_newer Add just_b ≡ false
unfolding rank_cmp is_version version_cmp tokens next_lexeme number_lexeme_by_digits later_component_lexeme_by_digits
add_upgrades_nothing = refl

-- ---- what comes again

-- the changes where the candidate at this place is chosen
abbrev changes_by : Applet → List Operand → ℕ → List Change
changes_by applet operands chosen =
    changes_of
    (replacement_of_choice (names_to_reinstall applet operands) inputs (selection_problem_from_parts (installed_b ∷ (newer_b ∷ [])) [] (names_to_upgrade applet operands)) (chosen ∷ []))

fix_reinstalls : changes_by Fix just_b 0 ≡ Reinstall (codes "b") (codes "1") ∷ []
unfolding changes_of change_of_name sorted_distinct_names
fix_reinstalls = refl

upgrade_reinstalls_nothing : changes_by Upgrade just_b 0 ≡ []
unfolding changes_of change_of_name sorted_distinct_names
upgrade_reinstalls_nothing = refl

upgrade_upgrades : changes_by Upgrade [] 1 ≡ Upgrading (codes "b") (codes "1") (codes "2") ∷ []
unfolding changes_of change_of_name sorted_distinct_names is_version version_cmp tokens next_lexeme number_lexeme_by_digits later_component_lexeme_by_digits
upgrade_upgrades = refl
