-- What the lines of help explain. Serves the law `help_explains_each_option`.
-- The texts of help are in `docs/commands.md`, "Help".
use Rattle.std.specs.Prelude.{ℕ, Bool, true, false, ◌&&◌, List, [], ◌∷◌, ◌++◌, length, take, codes, if◌then◌else◌}
use Rattle.std.specs.List.{list_all, list_any}
use Rattle.std.specs.Str.{bytes_eq}
use Rattle.command_core.specs.declared.command.Applet.{Applet}
use Rattle.command_core.specs.declared.command.Flag.TheVariants.{AllowUntrusted}
use Rattle.words_core.specs.HelpTexts.{HelpLine, listed_commands}
use Rattle.words_core.specs.Options.{OptionSpec, applet_word, flag_option_of_long_and_short}

-- an option as a line of help spells it: its short word or spaces, and its long word
abbrev pub spelled_option : OptionSpec → List ℕ
spelled_option option =
    (if bytes_eq option.short [] then codes "    " else option.short ++ codes ", ") ++ option.long

-- whether a line of help is about an option: its subject begins with the words of the option
abbrev pub is_help_of : HelpLine → OptionSpec → Bool
is_help_of line option =
    bytes_eq (take (length (spelled_option option)) line.subject) (spelled_option option)

-- whether lines of help are about these options: one line for each option, in the order of the options
abbrev pub are_help_lines_of_options : List HelpLine → List OptionSpec → Bool
are_help_lines_of_options [] [] = true
are_help_lines_of_options (line ∷ lines) (option ∷ options) =
    is_help_of line option && are_help_lines_of_options lines options
are_help_lines_of_options lines options = false

-- `--help` and `--version`, as lines of help spell them. The flag in each is a placeholder: *is_help_of*
-- does not look at it
abbrev pub help_and_version_options : List OptionSpec
help_and_version_options =
    flag_option_of_long_and_short (codes "--help") (codes "-h") AllowUntrusted
    ∷ (flag_option_of_long_and_short (codes "--version") (codes "-V") AllowUntrusted ∷ [])

-- whether help lists a command with the word of each of these applets
abbrev pub are_applets_listed_in_help : List Applet → Bool
are_applets_listed_in_help applets =
    list_all (λ applet.
    list_any (λ one. bytes_eq (applet_word one) (applet_word applet)) listed_commands) applets
