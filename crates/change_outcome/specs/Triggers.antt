-- The triggers that a change makes due. The rules are in `docs/commands.md`, "`add` and `del`", part "Which triggers
-- are due"; the line is defined in part "What is reported".
use Rattle.std.specs.Prelude.{ℕ, ◌==◌, Bool, true, false, ◌&&◌, if◌then◌else◌, List, [], ◌∷◌, length, map, codes, Result, Ok, Err, bytes_eq}
use Rattle.std.specs.List.{filter, flat_map, list_any}
use Rattle.base_core.specs.Name.{path_parts_of}
use Rattle.db_core.specs.adb_fields.Repeated.{entries_of_field_at_index, package_name}
use Rattle.adb_view.specs.FieldIndexes.{PACKAGE_TRIGGERS_INDEX}
use Rattle.adb_view.specs.Values.{text_in}
use Rattle.adb_view.specs.Plain.{Plain}
use Rattle.package_changes.specs.own_core.PlanLists.{sorted_distinct_names}
use Rattle.db_core.specs.Members.{Member, member_name}
use Rattle.dep_core.specs.LeadingSlash.{without_leading_slash}
use Rattle.change_inputs.specs.package_files.Folders.{folder_of}
use Rattle.report_core.specs.Reports.{report_line, trigger_due_for_folder_text}
use Rattle.report_core.specs.declared.refusal.Refusal.{Refusal}
use Rattle.report_core.specs.declared.refusal.Refusal.TheVariants.{TriggerNeeded}
use Rattle.star_patterns.specs.Patterns.{is_whole_text_matched}
use Rattle.change_outcome.specs.PackageFiles.{has_script_with_number}
use Rattle.report_core.specs.Numbers.{TRIGGER_SCRIPT}

-- ---- patterns

-- whether the parts of a pattern (`patterns`) match the parts of a folder's path, one by one, and there are equally
-- many
abbrev pub do_patterns_match_parts_one_to_one : List (List ℕ) → List (List ℕ) → Bool
do_patterns_match_parts_one_to_one [] [] = true
do_patterns_match_parts_one_to_one [] (part ∷ parts) = false
do_patterns_match_parts_one_to_one (p ∷ patterns) [] = false
do_patterns_match_parts_one_to_one (p ∷ patterns) (part ∷ parts) =
    is_whole_text_matched p part && do_patterns_match_parts_one_to_one patterns parts

-- Whether a pattern matches a folder. One leading `/` of a pattern is dropped. Only the pattern `/`
-- matches the root folder, which has the empty name.
unfoldable pub is_folder_matched_by_pattern : List ℕ → List ℕ → Bool
is_folder_matched_by_pattern folder pattern =
    if length folder == 0 then bytes_eq pattern (codes "/")
    else do_patterns_match_parts_one_to_one (path_parts_of (without_leading_slash pattern))
    (path_parts_of folder)

-- the patterns of the folders that a package watches
abbrev pub trigger_patterns_of_package : Plain → List (List ℕ)
trigger_patterns_of_package pkg = map text_in (entries_of_field_at_index PACKAGE_TRIGGERS_INDEX pkg)

-- ---- what is due

-- whether one of the package's patterns matches the folder
abbrev pub watches_folder : Plain → List ℕ → Bool
watches_folder pkg folder = list_any (is_folder_matched_by_pattern folder) (trigger_patterns_of_package pkg)

-- whether the trigger of a package is due for a folder: it watches the folder and has a trigger
-- script
abbrev pub is_trigger_due : Plain → List ℕ → Bool
is_trigger_due pkg folder = has_script_with_number pkg TRIGGER_SCRIPT && watches_folder pkg folder

-- the folders of the files with these paths, in byte order, each once; folders above these do not count
abbrev pub folders_of_paths : List (List ℕ) → List (List ℕ)
folders_of_paths paths = sorted_distinct_names (map folder_of paths)

-- the line that says that the package's trigger is due for the folder
abbrev pub line_saying_trigger_is_due : Plain → List ℕ → List ℕ
line_saying_trigger_is_due pkg folder = report_line (trigger_due_for_folder_text (package_name pkg) folder)

-- a line for each of the folders for which the package's trigger is due
abbrev pub due_trigger_lines_for_folders : List (List ℕ) → Plain → List ℕ
due_trigger_lines_for_folders folders pkg =
    flat_map (line_saying_trigger_is_due pkg) (filter (is_trigger_due pkg) folders)

-- the lines on triggers of the packages after a change that writes and removes files with these
-- paths, in their order
unfoldable pub trigger_lines : List (List ℕ) → List Member → List ℕ
trigger_lines paths members =
    flat_map (λ m. due_trigger_lines_for_folders (folders_of_paths paths) m.pkg) members

-- whether a trigger of the package is due for one of the folders
abbrev pub has_due_trigger : List (List ℕ) → Plain → Bool
has_due_trigger folders pkg = list_any (is_trigger_due pkg) folders

-- true, unless a trigger of a member is due for a folder of these paths, and scripts may not be left out (the first
-- argument is false): the first such member is refused
abbrev pub unless_trigger_due : Bool → List (List ℕ) → List Member → Result Bool Refusal
unless_trigger_due true paths members = Ok true
unless_trigger_due false paths [] = Ok true
unless_trigger_due false paths (m ∷ members) =
    if has_due_trigger (folders_of_paths paths) m.pkg then Err (TriggerNeeded (member_name m))
    else unless_trigger_due false paths members
