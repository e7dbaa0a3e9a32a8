-- The name under which a container is written (apk(8), `mkpkg` and `mkndx`).
-- The rules are in `docs/commands.md`, "`mkpkg`" and "`mkndx PACKAGE..`", and in "Words", the row of
-- `-o`.
use Rattle.std.specs.Prelude.{ℕ, Bool, true, false, if◌then◌else◌, List, Option, None, Result, Ok, Err}
use Rattle.std.specs.Option.{option_or}
use Rattle.command_core.specs.Command.{CommandLine}
use Rattle.command_core.specs.declared.command.Applet.{Applet}
use Rattle.command_core.specs.declared.command.Applet.TheVariants.{Mkpkg}
use Rattle.make_info.specs.FieldTexts.{named_output, default_output}
use Rattle.make_info.specs.Information.{FieldWithValue, information}

-- whether the applet is `mkpkg`, the only one whose output need not be named by its arguments
abbrev pub is_mkpkg : Applet → Bool
is_mkpkg Mkpkg = true
is_mkpkg applet = false

-- the name, if the information of `-I` is allowed; otherwise there is no output, even if `-o` names one
abbrev pub output_if_information_valid : Result (List FieldWithValue) ℕ → Option (List ℕ) → Option (List ℕ)
output_if_information_valid (Ok info) name = name
output_if_information_valid (Err place) name = None

-- the output of `mkpkg`, if its information is allowed: the file of `-o`, or by default
-- NAME-VERSION.apk
abbrev pub named_or_default_package_output : CommandLine → Option (List ℕ)
named_or_default_package_output command =
    output_if_information_valid (information command)
    (option_or (named_output command.values) (default_output command.values))

-- the output of a command that makes a container: for `mkndx` the file of `-o`
abbrev pub output_name : CommandLine → Option (List ℕ)
output_name command =
    if is_mkpkg command.applet then named_or_default_package_output command else named_output command.values
