-- What a command reads, and what it changes. The rules are in `docs/commands.md`, "Commands that
-- recover first", and in `docs/crash-safety.md`, "Misuses, faults and counts", its last paragraph.
use Rattle.std.specs.Prelude.{ℕ, Bool, true, false, List, Option, None, Result, Ok, Err}
use Rattle.make_core.specs.make_info.Output.{output_name}
use Rattle.command_core.specs.Command.{CommandLine}
use Rattle.words_core.specs.Grammar.{command_of}
use Rattle.command_core.specs.declared.command.Applet.{Applet}
use Rattle.command_core.specs.declared.command.Applet.TheVariants.{Adbdump, Adbgen, Add, Audit, Del, Demo, Fix, Help, Info, List as ListApplet, Manifest, Mkndx, Mkpkg, Policy, ProgramVersion, Search, Upgrade, Verify, Version}

-- what a command may do to the files, from nothing to changing several of them
pub data Effect : Type 0 where
  -- the command reads its arguments only
  Computes : Effect
  -- the command reads files, and leaves them as they are
  OnlyReadsFiles : Effect
  -- the command recovers first, reads files, and leaves the recovered files unchanged
  AsksRoot : Effect
  -- the command recovers, reads files, and writes one
  Makes : Effect
  -- the command recovers, reads files, and writes and removes several in one step
  Changes : Effect

-- the effect of a command, by the applet that it names
abbrev pub effect_of : Applet → Effect
-- applets that read their arguments only
effect_of Version = Computes
effect_of Demo = Computes
effect_of Help = Computes
effect_of ProgramVersion = Computes
-- applets that read files, without recovery
effect_of Verify = OnlyReadsFiles
effect_of Adbdump = OnlyReadsFiles
effect_of Adbgen = OnlyReadsFiles
-- applets that report on the root
effect_of Info = AsksRoot
effect_of Audit = AsksRoot
effect_of Manifest = AsksRoot
effect_of ListApplet = AsksRoot
effect_of Search = AsksRoot
effect_of Policy = AsksRoot
-- applets that make one file
effect_of Mkpkg = Makes
effect_of Mkndx = Makes
-- applets that change the installed packages
effect_of Add = Changes
effect_of Del = Changes
effect_of Upgrade = Changes
effect_of Fix = Changes

-- whether the outcome of a command depends on its arguments alone, whatever the files are
abbrev pub ignores_files : Effect → Bool
ignores_files Computes = true
ignores_files OnlyReadsFiles = false
ignores_files AsksRoot = false
ignores_files Makes = false
ignores_files Changes = false

-- whether a command leaves the tree unchanged, whatever it finds there
abbrev pub does_neither_recover_nor_write : Effect → Bool
does_neither_recover_nor_write Computes = true
does_neither_recover_nor_write OnlyReadsFiles = true
does_neither_recover_nor_write AsksRoot = false
does_neither_recover_nor_write Makes = false
does_neither_recover_nor_write Changes = false

-- whether a command first recovers: it completes the change of an intent (journal entry) that is found
abbrev pub does_recover : Effect → Bool
does_recover Computes = false
does_recover OnlyReadsFiles = false
does_recover AsksRoot = true
does_recover Makes = true
does_recover Changes = true

-- the name of the file that `mkpkg` or `mkndx` makes, if its arguments give one; None for other commands
abbrev pub output_name_for_effect : Effect → CommandLine → Option (List ℕ)
output_name_for_effect Computes command = None
output_name_for_effect OnlyReadsFiles command = None
output_name_for_effect AsksRoot command = None
output_name_for_effect Makes command = output_name command
output_name_for_effect Changes command = None

-- ---- of a command line; a usage error reads and changes nothing

-- the effect of the command of parsed arguments; a usage error counts as a command that computes
abbrev pub effect_of_arguments : Result CommandLine ℕ → Effect
effect_of_arguments (Ok command) = effect_of command.applet
effect_of_arguments (Err place) = Computes

-- whether the outcome of a command line depends on the arguments alone, as that of a usage error does
abbrev pub depends_only_on_arguments : Result CommandLine ℕ → Bool
depends_only_on_arguments (Ok command) = ignores_files (effect_of command.applet)
depends_only_on_arguments (Err place) = true

-- whether a command line writes and removes no file of the root, as is so for a usage error
abbrev pub do_arguments_neither_recover_nor_write : Result CommandLine ℕ → Bool
do_arguments_neither_recover_nor_write (Ok command) =
    does_neither_recover_nor_write (effect_of command.applet)
do_arguments_neither_recover_nor_write (Err place) = true

-- the name of the file that a command line makes, if it makes one
abbrev pub output_name_of_arguments : Result CommandLine ℕ → Option (List ℕ)
output_name_of_arguments (Ok command) = output_name_for_effect (effect_of command.applet) command
output_name_of_arguments (Err place) = None

-- the name of the file that a command line makes, if it makes one, given its arguments unparsed
abbrev pub output : List (List ℕ) → Option (List ℕ)
output words = output_name_of_arguments (command_of words)
