-- The contents of a package and an index that were made, when they are read again: the value that the
-- command and the reads give, and for a package the contents of its files.
-- The rules are in `docs/commands.md`, "`mkpkg`" and "`mkndx PACKAGE..`". It serves the laws
-- `a_made_package_is_read_back` and `a_made_index_is_read_back`.
use Rattle.command_core.specs.declared.values.TheConstants.{FILES, SCRIPT, TRIGGER}
use Rattle.std.specs.Prelude.{ℕ, List, length, Result, Ok, Err}
use Rattle.package_files.specs.adb_sound.Container.{package_with_contents_from_parts}
use Rattle.adb_view.specs.Plain.{Plain}
use Rattle.command_core.specs.Command.{CommandLine}
use Rattle.make_core.specs.EntryOrder.{index_entry_cmp}
use Rattle.base_core.specs.Sorted.{sorted_by}
use Rattle.make_core.specs.Index.{first_description_or_empty, found_entries, value_of_index}
use Rattle.make_info.specs.Information.{FieldWithValue, information, information_value_with_installed_size, replaces_priority}
use Rattle.make_info.specs.Reads.{Reads}
use Rattle.make_info.specs.declared.fault.MakeFault.{MakeFault}
use Rattle.make_core.specs.Making.{or_info_bad}
use Rattle.package_files.specs.Package.{Script, SourceFolder, contents_of_folders, installed_size, value_of_package}
use Rattle.package_files.specs.Sources.{source_folders_of_first_option_only, and_then, scripts_from_read, texts_of, values_of_letter}
use Rattle.pkg_core.specs.Whole.{PackageWithContents}

-- the value and the contents of the package of a command, given its parts in the order of their reads.
-- The parts are the scripts, the information of `-I` (`about`) and the folders
abbrev pub packed_of_parts :
    CommandLine → List Script → List FieldWithValue → List SourceFolder
    → Result PackageWithContents MakeFault
packed_of_parts command scripts about folders =
    Ok (package_with_contents_from_parts
    (value_of_package (information_value_with_installed_size about (installed_size folders)) folders scripts
    (texts_of (values_of_letter TRIGGER command.values)) (replaces_priority about))
    (contents_of_folders 1 folders))

-- the value and the contents of the package that a command describes, or the first refusal; `names` are
-- the names below its folder
abbrev pub package_with_contents_of_command : CommandLine → List (List ℕ) → Reads
    → Result PackageWithContents MakeFault
package_with_contents_of_command command names read =
    and_then (scripts_from_read read 0 (values_of_letter SCRIPT command.values)) (λ scripts.
    and_then (or_info_bad (information command)) (λ about.
    and_then (source_folders_of_first_option_only read (length scripts)
    (values_of_letter FILES command.values) names)
    (packed_of_parts command scripts about)))

-- the value of the index with this description and these entries, which are sorted here. Or the fault
-- that is given in place of the entries
abbrev pub index_value_of_entries : List ℕ → Result (List Plain) MakeFault → Result Plain MakeFault
index_value_of_entries description (Ok entries) =
    Ok (value_of_index description (sorted_by index_entry_cmp entries))
index_value_of_entries description (Err fault) = Err fault

-- the value of the index that a command describes, or the first refusal
abbrev pub index_value_of_command : CommandLine → Reads → Result Plain MakeFault
index_value_of_command command read =
    index_value_of_entries (first_description_or_empty command.values)
    (found_entries read 0 command.operands)
