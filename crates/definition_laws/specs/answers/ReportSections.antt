-- The sections of the report of a change. The rules are in `docs/commands.md`, "`add` and `del`", part "What is
-- reported". Serves the laws of `src/report.rt`.
use Rattle.std.specs.Prelude.{◌≡◌, ◌+◌, ℕ, List, [], ◌∷◌, ◌++◌, codes, length, map}
use Rattle.std.specs.Fmt.{decimal}
use Rattle.std.specs.List.Sorted.{IsPermutation, IsSorted}
use Rattle.adb_view.specs.Plain.{Plain}
use Rattle.adb_view.specs.Values.{int_in}
use Rattle.adb_view.specs.declared.tables.Which.TheVariants.{Package, PkgInfo}
use Rattle.base_core.specs.ByteOrder.{bytes_cmp}
use Rattle.base_core.specs.Files.{Files}
use Rattle.tell_core.specs.candidate_core.Candidates.{Candidate}
use Rattle.change_outcome.specs.own_core.FileChange.{FileChange}
use Rattle.change_outcome.specs.own_core.PlanLists.{paths_with_apk_new_file, kept_left_over_paths_of}
use Rattle.change_outcome.specs.ChangeOutcome.{ChangeWishes, touched_paths}
use Rattle.change_outcome.specs.db_core.Members.{Member}
use Rattle.definition_laws.specs.making.NamedFields.{field_named}
use Rattle.change_outcome.specs.package_changes.Changes.{Replacement, changes_of}
use Rattle.report_core.specs.Reports.{report_lines}
use Rattle.definition_laws.specs.answers.DueTriggers.{HasDueTriggerLines}
use Rattle.definition_laws.specs.answers.KeptNames.{HasStillNeededLines}
use Rattle.definition_laws.specs.answers.WhichChange.{HasNumberedChangeLines}

-- ---- the sum

-- the installed size that the information of a package states; 0 if it states none
abbrev pub installed_size_in_info : Plain → ℕ
installed_size_in_info info = int_in (field_named PkgInfo (codes "installed-size") info)

-- the information of a member (a package that is installed after a change)
abbrev pub member_info : Member → Plain
member_info m = field_named Package (codes "info") m.pkg

-- `sum` is the sum of the numbers in the list
abbrev pub IsSumOf : List ℕ → ℕ → Type 0
IsSumOf [] sum = sum ≡ 0
IsSumOf (n ∷ numbers) sum = (rest : ℕ) × IsSumOf numbers rest × (sum ≡ n + rest)

-- the text is the last line of a report, `OK: SUM bytes in COUNT packages`, for packages with these installed sizes
pub record IsBytesAndPackageCountLine (sizes : List ℕ) (text : List ℕ) : Type 0 where
  -- the sum in the line
  pub sum : ℕ
  -- this number is the sum of the sizes
  pub sum_is : IsSumOf sizes sum
  -- the text is the line with the sum and the number of sizes
  pub text_is : text
      ≡ codes "OK: " ++ decimal sum ++ codes " bytes in " ++ decimal (length sizes)
      ++ codes " packages\n"

-- ---- configuration

-- a configuration file that the user modified, by its path. The package's new file is written beside it as
-- `PATH.apk-new` (`placed_beside`), or it is kept though its package is removed (`kept`)
pub data ChangedFile : Type 0 where
  placed_beside : List ℕ → ChangedFile
  kept : List ℕ → ChangedFile

-- the path of a modified configuration file
abbrev pub changed_path : ChangedFile → List ℕ
changed_path (placed_beside path) = path
changed_path (kept path) = path

-- the line, without its line end, that the report has for a modified configuration file
abbrev pub changed_file_text : ChangedFile → List ℕ
changed_file_text (placed_beside path) =
    path ++ codes ".apk-new installed; " ++ path ++ codes " was changed"
changed_file_text (kept path) = path ++ codes " kept; it was changed"

-- the text has one line for each of these modified configuration files: those with a new file beside them (`beside`),
-- and the kept ones (`kept_paths`). The lines are in byte order of the paths
pub record HasSortedConfigurationLines (beside kept_paths : List (List ℕ)) (text : List ℕ) : Type 0 where
  -- the configuration files that have a line
  pub changed : List ChangedFile
  -- these are the files of both lists, in some order
  pub same : IsPermutation (map placed_beside beside ++ map kept kept_paths) changed
  -- they are in byte order of their paths
  pub order : IsSorted bytes_cmp (map changed_path changed)
  -- the text has a line for each of them
  pub text_is : text ≡ report_lines (map changed_file_text changed)

-- ---- the sections

-- the text has the sections of the report of a simulated change, in their order. `to_remove` are the names that the
-- command was to remove
pub record HasSimulatedReportSections (r : Replacement) (to_remove : List (List ℕ))
    (text : List ℕ) : Type 0 where
  -- the text of the first section
  pub changes : List ℕ
  -- the first section has one line for each change, with its number
  pub numbered : HasNumberedChangeLines (changes_of r) changes
  -- the text of the second section
  pub stays : List ℕ
  -- the second section has one line for each name that was to be removed, but is still selected
  pub kept_lines : HasStillNeededLines r.before r.selected to_remove stays
  -- the last line
  pub last : List ℕ
  -- the last line has the sum of the sizes and the number of the selected candidates
  pub sum : IsBytesAndPackageCountLine
      (map (λ (c : Candidate). installed_size_in_info c.info) r.selected) last
  -- the text is these three parts, in this order
  pub text_is : text ≡ changes ++ stays ++ last

-- the text has the sections of the report of a change that is made, in their order. `change` is the change of files,
-- and `files` are the files before it
pub record HasChangeReportSections (r : Replacement) (wishes : ChangeWishes) (change : FileChange)
    (files : Files)
    (text : List ℕ) : Type 0 where
  -- the text of the first section
  pub changes : List ℕ
  -- the first section has one line for each change, with its number
  pub numbered : HasNumberedChangeLines (changes_of r) changes
  -- the text of the second section
  pub stays : List ℕ
  -- the second section has one line for each name that was to be removed, but is still selected
  pub kept_lines : HasStillNeededLines r.before r.selected wishes.to_remove stays
  -- the text of the third section
  pub configuration : List ℕ
  -- the third section has one line for each modified configuration file
  pub configured : HasSortedConfigurationLines (paths_with_apk_new_file change files)
      (kept_left_over_paths_of change files) configuration
  -- the text of the fourth section
  pub triggers : List ℕ
  -- the fourth section has the lines of due triggers
  pub due : HasDueTriggerLines (touched_paths change files) change.members triggers
  -- the last line
  pub last : List ℕ
  -- the last line has the sum of the sizes and the number of the members
  pub sum : IsBytesAndPackageCountLine
      (map (λ (m : Member). installed_size_in_info (member_info m)) change.members) last
  -- the report is these sections, in this order
  pub text_is : text ≡ changes ++ stays ++ configuration ++ triggers ++ last
