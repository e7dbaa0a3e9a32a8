-- What `mkpkg` makes (apk(8)): a package from its command, the names below its folder, and what reads
-- find.
-- The rule is in `docs/commands.md`, "`mkpkg`", with the refusals in their order; the limits of a
-- payload in `docs/formats.md`, "Canonical layout".
use Rattle.command_core.specs.declared.values.TheConstants.{FILES, SCRIPT, TRIGGER}
use Rattle.std.specs.Prelude.{ℕ, List, length, Option, Some, None, Result, Ok, Err}
use Rattle.adb_view.specs.Plain.{Plain}
use Rattle.package_files.specs.adb_schema.declared.read.TheConstants.{PACKAGE_WORD}
use Rattle.package_files.specs.adb_write.Canonical.{ByteAndValueCounts, counts_at_first_overflow}
use Rattle.package_files.specs.pkg_core.Contents.{Contents}
use Rattle.command_core.specs.Command.{CommandLine}
use Rattle.package_files.specs.adb_sound.Container.{container_of_value_and_contents}
use Rattle.package_files.specs.make_info.Information.{FieldWithValue, information, information_value_with_installed_size, replaces_priority}
use Rattle.package_files.specs.make_info.Reads.{Reads}
use Rattle.package_files.specs.make_info.declared.fault.MakeFault.{MakeFault}
use Rattle.package_files.specs.make_info.declared.fault.MakeFault.TheVariants.{InfoBad, TooLarge}
use Rattle.package_files.specs.Package.{SourceFolder, Script, value_of_package, installed_size, contents_of_folders}
use Rattle.package_files.specs.Sources.{and_then, values_of_letter, texts_of, scripts_from_read, source_folders_of_first_option_only}

-- ---- the file

-- the container of a package with the value `v` and these contents. If the value exceeds a limit of the
-- writer, the error with the two counts at which it does
abbrev pub container_unless_too_large :
    Option ByteAndValueCounts → Plain → List Contents → Result (List ℕ) MakeFault
container_unless_too_large None v contents = Ok (container_of_value_and_contents PACKAGE_WORD v contents)
container_unless_too_large (Some counts) v contents = Err (TooLarge counts.0 counts.1)

-- the container of a package's value and of the contents of its files; an error if the value
-- exceeds a limit of the writer
unfoldable pub package_container : Plain → List Contents → Result (List ℕ) MakeFault
package_container v contents = container_unless_too_large (counts_at_first_overflow v) v contents

-- ---- the package

-- the information of the options `-I`; an option that is not accepted becomes an error at its place
-- in the command line
abbrev pub or_info_bad : Result (List FieldWithValue) ℕ → Result (List FieldWithValue) MakeFault
or_info_bad (Ok information) = Ok information
or_info_bad (Err place) = Err (InfoBad place)

-- the bytes of the package of these parts: the scripts, the information of `-I` (`about`), the folders,
-- and the triggers that the command gives by `-t`
abbrev pub package_of_parts :
    CommandLine → List Script → List FieldWithValue → List SourceFolder → Result (List ℕ) MakeFault
package_of_parts command scripts about folders =
    package_container
    (value_of_package (information_value_with_installed_size about (installed_size folders)) folders scripts
    (texts_of (values_of_letter TRIGGER command.values)) (replaces_priority about))
    (contents_of_folders 1 folders)

-- the bytes of the package of a command, or the first refusal, given the names below its folder (`names`)
-- and the results of the reads. The order is: the scripts, the information, and then the files below the
-- folder
unfoldable pub made_package : CommandLine → List (List ℕ) → Reads → Result (List ℕ) MakeFault
made_package command names read =
    and_then (scripts_from_read read 0 (values_of_letter SCRIPT command.values)) (λ scripts.
    and_then (or_info_bad (information command)) (λ about.
    and_then (source_folders_of_first_option_only read (length scripts)
    (values_of_letter FILES command.values) names)
    (package_of_parts command scripts about)))
