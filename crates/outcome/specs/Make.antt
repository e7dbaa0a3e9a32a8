-- `mkpkg` and `mkndx` make a package or an index. The rules are in `docs/commands.md`, "`mkpkg`" and
-- "`mkndx PACKAGE..`".
use Rattle.std.specs.Prelude.{◌≡◌, ℕ, if◌then◌else◌, List, [], ◌∷◌, ◌++◌, length, codes, nat_eq, Option, Some, None, Result, Ok, Err}
use Rattle.std.specs.Fmt.{decimal}
use Rattle.std.specs.List.{starts_with}
use Rattle.gen_core.specs.adb_schema.Reserved.{is_reserved}
use Rattle.base_core.specs.Files.{Files}
use Rattle.base_core.specs.Listed.{IsSortedListOfAllNamesInMap}
use Rattle.engine_core.specs.journal_core.Replacing.{files_after_replacement}
use Rattle.make_core.specs.Index.{made_index}
use Rattle.make_core.specs.Making.{made_package}
use Rattle.make_core.specs.make_info.Output.{output_name}
use Rattle.make_core.specs.make_info.Reads.{Reads}
use Rattle.make_core.specs.make_info.declared.fault.MakeFault.{MakeFault}
use Rattle.make_core.specs.make_info.declared.fault.MakeFault.TheVariants.{FileMissing as NoFile, FileBad as BadFile, InfoBad as BadInfo, TooLarge, Disk, Memory}
use Rattle.report_core.specs.declared.refusal.Refusal.TheVariants.{FileMissing, FileBad, InfoBad, Reserved, ResultTooLarge}
use Rattle.command_core.specs.Command.{CommandLine}
use Rattle.command_core.specs.Files.{without_one_leading_dot_slash}
use Rattle.command_core.specs.declared.values.OptionValue.{OptionValue}
use Rattle.outcome.specs.Outcome.{Outcome, commit_report, just_refusal, just_report}

-- ---- what is below the folder that `-F` names

-- the files below a folder; their names stay whole paths from the root, and so begin with the folder
abbrev pub files_below : List ℕ → Files → Files
files_below folder files name =
    if starts_with nat_eq name (folder ++ codes "/") then files name else None

-- `names` are exactly the names of the files below the folder of the first value of `-F`, in byte order; none without
-- `-F`
abbrev pub AreNamesBelowOptionFolder : List OptionValue → Files → List (List ℕ) → Type 0
AreNamesBelowOptionFolder [] files names = names ≡ []
AreNamesBelowOptionFolder (folder ∷ values) files names =
    IsSortedListOfAllNamesInMap (files_below (without_one_leading_dot_slash folder.text) files) names

-- ---- the outcome

-- an outcome, unless its output has a reserved name, which is refused
abbrev pub outcome_unless_output_reserved : Files → Option (List ℕ) → Outcome → Outcome
outcome_unless_output_reserved files None otherwise = otherwise
outcome_unless_output_reserved files (Some name) otherwise =
    if is_reserved name then just_refusal files (Reserved name) else otherwise

-- the files once an output is written: these bytes are under the output's name, and no file is under its scratch name
abbrev pub files_with_output : Option (List ℕ) → List ℕ → Files → Files
files_with_output None bytes files = files
files_with_output (Some name) bytes files = files_after_replacement name bytes files

-- The outcome of making a container: a container that was made is written to `output` and `report` is printed; a fault
-- is refused. A reserved output is refused after all faults of the input, and before a container that is too large.
abbrev pub make_outcome : Files → Option (List ℕ) → List ℕ → Result (List ℕ) MakeFault → Outcome
make_outcome files output report (Ok bytes) =
    outcome_unless_output_reserved files output
    (commit_report (files_with_output output bytes files) report)
make_outcome files output report (Err (NoFile place)) = just_refusal files (FileMissing place)
make_outcome files output report (Err (BadFile place cause)) =
    just_refusal files (FileBad place cause)
make_outcome files output report (Err (BadInfo place)) = just_refusal files (InfoBad place)
make_outcome files output report (Err (TooLarge bytes values)) =
    outcome_unless_output_reserved files output (just_refusal files (ResultTooLarge bytes values))
-- never the case: the definitions of what is made give no I/O error of the tree, and no out of memory
make_outcome files output report (Err Disk) = just_report files []
make_outcome files output report (Err Memory) = just_report files []

-- the outcome of `mkpkg`: a package of the files under `names`, which are below the folder of `-F`, as reads find them;
-- nothing is printed
abbrev pub mkpkg : Reads → Files → CommandLine → List (List ℕ) → Outcome
mkpkg read files command names =
    make_outcome files (output_name command) [] (made_package command names read)

-- the report of `mkndx` over this many packages
abbrev pub index_report_line : ℕ → List ℕ
index_report_line count = codes "Index has " ++ decimal count ++ codes " packages\n"

-- the outcome of `mkndx`: an index of the packages that the operands name, as reads find them
abbrev pub mkndx : Reads → Files → CommandLine → Outcome
mkndx read files command =
    make_outcome files (output_name command) (index_report_line (length command.operands))
    (made_index command read)
