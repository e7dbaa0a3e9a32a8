-- `demo` runs other commands in a tree of its own. The rules are in `docs/commands.md`, "`demo N`".
use Rattle.std.specs.Prelude.{◌≡◌, ℕ, zero, suc, List, [], Option, Some, None}
use Rattle.base_core.specs.Files.{Files, no_names, put_name}
use Rattle.root_names.specs.RootNames.{repositories_name}
use Rattle.report_core.specs.declared.refusal.Refusal.{Refusal}
use Rattle.words_core.specs.Grammar.{command_of}
use Rattle.outcome.specs.Commands.{IsOutcomeWithoutDemo}
use Rattle.outcome.specs.DemoLines.{add_words, demo_file, demo_repositories, contents_of_demo_file, mkndx_words, mkpkg_words}
use Rattle.outcome.specs.DemoReport.{demo_line_of_count_and_add_report}
use Rattle.outcome.specs.Outcome.{Outcome, just_report, just_report_unless_refusal}

-- ---- one run after another

-- The outcome of the next run, given the outcome `before` of the run before it, and the refusal of that run, if there
-- is one. After a refusal nothing more is run, and the outcome is `before`; otherwise the command line `words` is run
-- over `files`.
abbrev pub IsOutcomeOfNextRunAloneOrBeforeIfRefused : Option Refusal → List (List ℕ) → Files → Outcome
    → Outcome
    → Type 0
IsOutcomeOfNextRunAloneOrBeforeIfRefused (Some refusal) words files before outcome = outcome ≡ before
IsOutcomeOfNextRunAloneOrBeforeIfRefused None words files before outcome =
    IsOutcomeWithoutDemo (command_of words) files outcome

-- the outcome of the command line `words` over `files`; if the run before it was refused, its outcome `before` instead
abbrev pub IsOutcomeOfNextRunAloneOrEarlierRefusal : List (List ℕ) → Files → Outcome → Outcome → Type 0
IsOutcomeOfNextRunAloneOrEarlierRefusal words files before outcome =
    IsOutcomeOfNextRunAloneOrBeforeIfRefused before.refusal words files before outcome

-- ---- the runs

-- the outcome before the first run: the tree has only the list of repositories
abbrev pub outcome_before_demo_with_repositories_file : Outcome
outcome_before_demo_with_repositories_file =
    just_report (put_name no_names repositories_name demo_repositories) []

-- the files, with the one file that package i will contain added under its name
abbrev pub with_file_packed_in_demo_package : ℕ → Files → Files
with_file_packed_in_demo_package i files = put_name files (demo_file i) (contents_of_demo_file i)

-- the outcome after packages 1 to n are made; the one file of each is written before its run of `mkpkg`
abbrev pub IsDemoOutcomeAfterPackagingByPackageCount : ℕ → Outcome → Type 0
IsDemoOutcomeAfterPackagingByPackageCount zero outcome =
    outcome ≡ outcome_before_demo_with_repositories_file
IsDemoOutcomeAfterPackagingByPackageCount (suc i) outcome =
    (before : Outcome)
    × IsDemoOutcomeAfterPackagingByPackageCount i before
    × IsOutcomeOfNextRunAloneOrEarlierRefusal (mkpkg_words (suc i))
    (with_file_packed_in_demo_package (suc i) before.files) before outcome

-- the outcome after packages 1 to n are made, and then their index
abbrev pub IsDemoOutcomeAfterIndexingByPackageCount : ℕ → Outcome → Type 0
IsDemoOutcomeAfterIndexingByPackageCount n outcome =
    (before : Outcome)
    × IsDemoOutcomeAfterPackagingByPackageCount n before
    × IsOutcomeOfNextRunAloneOrEarlierRefusal (mkndx_words n) before.files before outcome

-- the outcome after packages 1 to n are made and indexed, and those on which no other depends are added
abbrev pub IsDemoOutcomeAfterInstallingByPackageCount : ℕ → Outcome → Type 0
IsDemoOutcomeAfterInstallingByPackageCount n outcome =
    (before : Outcome)
    × IsDemoOutcomeAfterIndexingByPackageCount n before
    × IsOutcomeOfNextRunAloneOrEarlierRefusal (add_words n) before.files before outcome

-- ---- the report

-- the outcome of `demo N`: a line with the last line of the last run's report, or the first refusal; no file of the
-- tree (`files`) is read or changed
abbrev pub IsDemoOutcomeByPackageCount : ℕ → Files → Outcome → Type 0
IsDemoOutcomeByPackageCount n files outcome =
    (last : Outcome)
    × IsDemoOutcomeAfterInstallingByPackageCount n last
    × (outcome ≡ just_report_unless_refusal files last.refusal
    (demo_line_of_count_and_add_report n last.out))
