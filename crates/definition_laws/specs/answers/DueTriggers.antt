-- Which triggers are due. The rules are in `docs/commands.md`, "`add` and `del`", part "Which triggers are due".
-- Serves the laws of `src/triggers.rt`.
use Rattle.std.specs.Prelude.{◌≡◌, ◌↔◌, ℕ, true, List, ◌∷◌, ◌++◌, Some, length, map, slice_get}
use Rattle.std.specs.List.{flat_map}
use Rattle.adb_view.specs.Plain.{Plain}
use Rattle.base_core.specs.Listed.{AreSortedDistinctTexts}
use Rattle.base_core.specs.Lists.{IsIn}
use Rattle.base_core.specs.Name.{path_parts_of}
use Rattle.change_outcome.specs.PackageFiles.{has_script_with_number}
use Rattle.change_outcome.specs.Triggers.{is_folder_matched_by_pattern, trigger_patterns_of_package}
use Rattle.change_outcome.specs.db_core.Members.{Member, member_name}
use Rattle.dep_core.specs.LeadingSlash.{without_leading_slash}
use Rattle.change_outcome.specs.package_files.Folders.{folder_of}
use Rattle.report_core.specs.Numbers.{TRIGGER_SCRIPT}
use Rattle.report_core.specs.Reports.{report_lines, trigger_due_for_folder_text}
use Rattle.change_outcome.specs.star_patterns.Fills.{MatchesByFillingStars}

-- The pattern, without its leading `/` if it has one, has as many parts as the path of the folder. Each part of the
-- pattern matches the part of the folder at the same place.
pub record MatchesFolderByParts (pattern folder : List ℕ) : Type 0 where
  -- pattern and folder have as many parts
  pub count : length (path_parts_of (without_leading_slash pattern)) ≡ length (path_parts_of folder)
  -- each part of the pattern matches the part of the folder at the same place
  pub each : (i : ℕ) (p part : List ℕ) → slice_get (path_parts_of (without_leading_slash pattern)) i
      ≡ Some p
      → slice_get (path_parts_of folder) i ≡ Some part → MatchesByFillingStars p part

-- the package has a trigger script, and one of its trigger patterns matches the folder
pub record HasTriggerScriptAndWatchesFolder (pkg : Plain) (folder : List ℕ) : Type 0 where
  -- the package has a trigger script
  pub script : has_script_with_number pkg TRIGGER_SCRIPT ≡ true
  -- a pattern of the package's trigger
  pub pattern : List ℕ
  -- the pattern is one of the package
  pub watched : IsIn pattern (trigger_patterns_of_package pkg)
  -- the pattern matches the folder
  pub matched : is_folder_matched_by_pattern folder pattern ≡ true

-- one of these paths is directly in the folder, and not in a folder below it
pub record HasFileDirectlyInFolder (paths : List (List ℕ)) (folder : List ℕ) : Type 0 where
  -- one of these paths
  pub path : List ℕ
  -- the path is in the list
  pub listed : IsIn path paths
  -- the folder of the path is this folder
  pub within : folder ≡ folder_of path

-- the trigger of the member `m` is due for this folder. `paths` are the paths at which the change writes or removes
-- files
pub record IsTriggerDueFor (paths : List (List ℕ)) (m : Member) (folder : List ℕ) : Type 0 where
  -- one of these paths is directly in the folder
  pub file : HasFileDirectlyInFolder paths folder
  -- the package has a trigger script and watches the folder
  pub triggered : HasTriggerScriptAndWatchesFolder m.pkg folder

-- ---- the lines

-- the text has one line for each member and each folder for which the trigger of this member is due, and no other line.
-- The members are in their order, and the folders of each member in byte order
pub record HasDueTriggerLines (paths : List (List ℕ)) (members : List Member) (text : List ℕ)
    : Type 0 where
  -- the folders for which the trigger of a package is due
  pub folders : Member → List (List ℕ)
  -- these folders are in byte order, each once
  pub order : (m : Member) → AreSortedDistinctTexts (folders m)
  -- a folder is in the list of a member exactly if the member's trigger is due for this folder
  pub each : (m : Member) (folder : List ℕ) → IsIn folder (folders m) ↔ IsTriggerDueFor paths m folder
  -- the text has a line for each package and each of its folders
  pub text_is : text
      ≡ report_lines (flat_map (λ m. map (trigger_due_for_folder_text (member_name m)) (folders m)) members)

-- ---- what is refused

-- the first member whose trigger is due for a folder has this name
pub record IsFirstPackageWithDueTrigger (paths : List (List ℕ)) (members : List Member)
    (name : List ℕ) : Type 0 where
  -- the members before this member
  pub front : List Member
  -- the first member whose trigger is due
  pub member : Member
  -- the members after it
  pub rest : List Member
  -- these are all members, in their order
  pub members_are : members ≡ front ++ member ∷ rest
  -- the package has this name
  pub named : member_name member ≡ name
  -- a folder for which the trigger of the member is due
  pub folder : List ℕ
  -- the trigger is due for this folder
  pub due : IsTriggerDueFor paths member folder
  -- no trigger of a package before it is due
  pub earlier : (m : Member) → IsIn m front → (f : List ℕ) → IsTriggerDueFor paths m f → ⊥
