-- The texts of `--help` and `--version`. The texts are shown in `docs/commands.md`, "Help"; the
-- synopsis of each command is in `docs/apk.8.md` too.
use Rattle.std.specs.Prelude.{ℕ, ◌-◌, List, [], ◌∷◌, ◌++◌, length, map, take, codes, Option, Some, None}
use Rattle.command_core.specs.declared.command.Applet.{Applet}
use Rattle.command_core.specs.declared.command.Applet.TheVariants.{Add, Del, Upgrade, Fix, Info, Verify, Adbdump, Mkpkg, Mkndx, Version, Demo, Adbgen, Audit, Manifest, List as ListApplet, Search, Policy, Help, ProgramVersion}
use Rattle.command_core.specs.declared.operands.Operand.{Operand}
use Rattle.words_core.specs.Options.{applet_of, applet_word}

-- ---- the version

-- the version of this program
abbrev pub program_version : List ℕ
program_version = codes "0.4.0"

-- the line that `--version` prints: the program, its version, and that of the formats
abbrev pub version_line : List ℕ
version_line = codes "apk " ++ program_version ++ codes ", apk-tools 3 formats\n"

-- ---- lines

-- a line of help
pub record HelpLine : Type 0 where
  -- what is explained, such as a command or an option
  pub subject : List ℕ
  -- its explanation
  pub text : List ℕ

-- the line with this subject and this explanation
abbrev pub help_line : List ℕ → List ℕ → HelpLine
help_line subject text = record { subject = subject; text = text }

-- spaces, as many as a line of help can have before its explanation
abbrev pub spaces : List ℕ
spaces = codes "                          "

-- the spaces after a subject, up to a column; none if the subject is longer
abbrev pub padding_to_column : ℕ → List ℕ → List ℕ
padding_to_column column subject = take (column - length subject) spaces

-- a line of help as it is printed; its explanation begins at a column
abbrev pub help_line_text : ℕ → HelpLine → List ℕ
help_line_text column line =
    codes "  " ++ line.subject ++ padding_to_column column line.subject ++ line.text ++ codes "\n"

-- lines of help as they are printed, one after another; all explanations begin at a column
abbrev pub help_lines_text : ℕ → List HelpLine → List ℕ
help_lines_text column [] = []
help_lines_text column (line ∷ lines) = help_line_text column line ++ help_lines_text column lines

-- lines of help under a heading, with explanations that begin at a column; nothing if there are no lines
abbrev pub section_text : List ℕ → ℕ → List HelpLine → List ℕ
section_text heading column [] = []
section_text heading column lines = heading ++ help_lines_text column lines

-- the column at which the explanations of commands begin
abbrev pub command_column : ℕ
command_column = 10

-- the column at which the explanations of options and operands begin
abbrev pub option_column : ℕ
option_column = 26

-- ---- the commands

-- how a command is called: one line or more, as `docs/apk.8.md` has them
abbrev pub synopsis : Applet → List (List ℕ)
synopsis Add = codes "apk add [--initdb] [-s] [DEPENDENCY..]" ∷ []
synopsis Del = codes "apk del [-s] [--purge] NAME.." ∷ []
synopsis Upgrade = codes "apk upgrade [-s] [NAME..]" ∷ []
synopsis Fix = codes "apk fix [-s] NAME.." ∷ []
synopsis Info =
    codes "apk info [NAME..]" ∷ (codes "apk info -e|-L|-R NAME.." ∷ (codes "apk info -W PATH" ∷ []))
synopsis ListApplet = codes "apk list [-I] [PATTERN..]" ∷ []
synopsis Search = codes "apk search PATTERN.." ∷ []
synopsis Policy = codes "apk policy NAME.." ∷ []
synopsis Audit = codes "apk audit" ∷ []
synopsis Manifest = codes "apk manifest NAME.." ∷ []
synopsis Verify = codes "apk verify FILE.." ∷ []
synopsis Adbdump = codes "apk adbdump FILE" ∷ []
synopsis Adbgen = codes "apk adbgen FILE" ∷ []
synopsis Mkpkg = codes "apk mkpkg -I name:NAME -I version:VERSION [OPTION..]" ∷ []
synopsis Mkndx = codes "apk mkndx [-d TEXT] -o FILE [PACKAGE..]" ∷ []
synopsis Version = codes "apk version -t VERSION VERSION" ∷ (codes "apk version -c TEXT.." ∷ [])
synopsis Demo = codes "apk demo NUMBER" ∷ []
synopsis Help = []
synopsis ProgramVersion = []

-- what a command does
abbrev pub purpose : Applet → List ℕ
purpose Add = codes "install packages, and what they need"
purpose Del = codes "remove packages, and what only they need"
purpose Upgrade = codes "bring packages to preferred versions; run mkndx for new ones first"
purpose Fix = codes "install packages again"
purpose Info = codes "print which packages are installed, or what they have"
purpose ListApplet = codes "list packages, installed ones and those of repositories"
purpose Search = codes "find packages of repositories by name"
purpose Policy = codes "print the versions of packages, and where each is"
purpose Audit = codes "print which installed files are changed (U) or missing (X)"
purpose Manifest = codes "print the hashes of the files of packages"
purpose Verify = codes "test packages, indexes and databases"
purpose Adbdump = codes "print a container as text"
purpose Adbgen = codes "make a container from its text"
purpose Mkpkg = codes "make a package"
purpose Mkndx = codes "make an index of packages"
purpose Version = codes "compare two versions, or test texts for being versions"
purpose Demo = codes "install so many small packages in memory"
purpose Help = []
purpose ProgramVersion = []

-- ---- options

-- the help line of `--initdb`
abbrev pub initdb_help : HelpLine
initdb_help = help_line (codes "    --initdb") (codes "begin a package database if there is none")

-- the help line of `--simulate`
abbrev pub simulate_help : HelpLine
simulate_help = help_line (codes "-s, --simulate") (codes "print the changes, and make none")

-- the help line of `--compression`
abbrev pub compression_help : HelpLine
compression_help = help_line (codes "-c, --compression none") (codes "no other compression is known")

-- the help lines of the options that a command has besides the common ones, in the order of *own_options*
abbrev pub option_help : Applet → List HelpLine
option_help Add = initdb_help ∷ (simulate_help ∷ [])
option_help Del =
    simulate_help
    ∷ (help_line (codes "    --purge") (codes "remove changed configuration files too") ∷ [])
option_help Upgrade = simulate_help ∷ []
option_help Fix = simulate_help ∷ []
option_help Info =
    help_line (codes "-e, --installed") (codes "print which of the packages are installed")
    ∷ (help_line (codes "-L, --contents") (codes "print the files of the packages")
    ∷ (help_line (codes "-R, --depends") (codes "print what the packages depend on")
    ∷ (help_line (codes "-W, --who-owns") (codes "print which package owns the file") ∷ [])))
option_help ListApplet =
    help_line (codes "-I, --installed") (codes "list installed packages only") ∷ []
option_help Mkpkg =
    help_line (codes "-I, --info FIELD:VALUE")
    (codes "a field; name and version are needed")
    ∷ (help_line (codes "-s, --script TYPE:FILE") (codes "a script below this folder, as post-install:FILE")
    ∷ (help_line (codes "-t, --trigger PATTERN") (codes "folders that the trigger script is for")
    ∷ (help_line (codes "-F, --files DIR") (codes "the folder below this one with the package's files")
    ∷ (help_line (codes "-o, --output FILE") (codes "the file below this folder, else NAME-VERSION.apk")
    ∷ (compression_help ∷ [])))))
option_help Mkndx =
    help_line (codes "-d, --description TEXT") (codes "what the index is of")
    ∷ (help_line (codes "-o, --output FILE") (codes "the file to write below this folder; it is needed")
    ∷ (compression_help ∷ []))
option_help Version =
    help_line (codes "-t, --test") (codes "compare two versions: <, = or >")
    ∷ (help_line (codes "-c, --check") (codes "print each text that is no version") ∷ [])
option_help applet = []

-- the help lines of the options that every command has
abbrev pub common_option_help : List HelpLine
common_option_help =
    help_line (codes "    --allow-untrusted") (codes "needed once etc/apk/repositories names an index")
    ∷ (help_line (codes "    --no-scripts") (codes "make changes; run no scripts, no triggers")
    ∷ (help_line (codes "-h, --help") (codes "print this help, or that of a command")
    ∷ (help_line (codes "-V, --version") (codes "print the version of apk") ∷ [])))

-- ---- fields

-- the help lines of the fields that the option `-I` of a command takes, by what their values are; only `mkpkg` has one
abbrev pub field_help : Applet → List HelpLine
field_help Mkpkg =
    help_line (codes "needed") (codes "name, version")
    ∷ (help_line (codes "any text") (codes "description, arch, license, origin, maintainer, url")
    ∷ (help_line (codes "a number") (codes "build-time, provider-priority, replaces-priority")
    ∷ (help_line (codes "hexadecimal digits") (codes "repo-commit")
    ∷ (help_line (codes "dependencies") (codes "depends, provides, replaces, install-if, recommends")
    ∷ (help_line (codes "words") (codes "tags") ∷ [])))))
field_help applet = []

-- ---- operands

-- the help line of an operand NAME
abbrev pub name_help : HelpLine
name_help = help_line (codes "NAME") (codes "the name of a package")

-- the help line of an operand FILE
abbrev pub file_help : HelpLine
file_help = help_line (codes "FILE") (codes "the path of a container below this folder")

-- the help line of an operand PATTERN
abbrev pub pattern_help : HelpLine
pattern_help = help_line (codes "PATTERN") (codes "a name, in which each * stands for any text")

-- the help lines of the operands of a command
abbrev pub operand_help : Applet → List HelpLine
operand_help Add =
    help_line (codes "DEPENDENCY") (codes "a name (no path), or name>=1.2, name@tag, !name")
    ∷ []
operand_help Del = name_help ∷ []
operand_help Upgrade = name_help ∷ []
operand_help Fix = name_help ∷ []
operand_help Info =
    name_help
    ∷ (help_line (codes "PATH") (codes "a file below this folder; a first / is dropped") ∷ [])
operand_help ListApplet = pattern_help ∷ []
operand_help Search =
    help_line (codes "PATTERN") (codes "a part of a name, in which each * stands for any text") ∷ []
operand_help Policy = name_help ∷ []
operand_help Manifest = name_help ∷ []
operand_help Verify = file_help ∷ []
operand_help Adbdump = file_help ∷ []
operand_help Adbgen =
    help_line (codes "FILE") (codes "a text as adbdump prints it, below this folder") ∷ []
operand_help Mkndx =
    help_line (codes "PACKAGE") (codes "a package below this folder, kept beside the index") ∷ []
operand_help Version =
    help_line (codes "VERSION") (codes "a version, as 1.2.3-r0")
    ∷ (help_line (codes "TEXT") (codes "any text") ∷ [])
operand_help Demo = help_line (codes "NUMBER") (codes "a number from 1 to 20000") ∷ []
operand_help applet = []

-- ---- the help of a command

-- one way to call a command as a line, after a prefix
abbrev pub synopsis_line_with_prefix : List ℕ → List ℕ → List ℕ
synopsis_line_with_prefix prefix line = prefix ++ line ++ codes "\n"

-- how a command is called, a line each: the first one after this prefix, the others after seven spaces
abbrev pub synopsis_text_with_first_prefix : List ℕ → List (List ℕ) → List ℕ
synopsis_text_with_first_prefix prefix [] = []
synopsis_text_with_first_prefix prefix (line ∷ lines) =
    synopsis_line_with_prefix prefix line ++ synopsis_text_with_first_prefix (codes "       ")
    lines

-- the help of a command
abbrev pub command_help : Applet → List ℕ
command_help applet =
    synopsis_text_with_first_prefix (codes "usage: ") (synopsis applet)
    ++ codes "\n" ++ purpose applet ++ codes "\n"
    ++ codes "\nOptions:\n" ++ help_lines_text option_column (option_help applet)
    ++ help_lines_text option_column common_option_help
    ++ section_text (codes "\nFields that -I takes:\n") option_column (field_help applet)
    ++ section_text (codes "\nOperands:\n") option_column (operand_help applet)
    ++ codes "\nManual page: apk(8)\n"

-- ---- the help of the program

-- how the program is called
unfoldable pub program_usage : List ℕ
program_usage = codes "usage: apk [OPTION..] COMMAND [OPTION or OPERAND..] [-- OPERAND..]\n"

-- the commands, in the order in which help lists them
abbrev pub listed_commands : List Applet
listed_commands =
    Add ∷ (Del ∷ (Upgrade ∷ (Fix ∷ (Info ∷ (ListApplet ∷ (Search ∷ (Policy ∷ (Audit ∷ (Manifest ∷
    (Verify ∷ (Adbdump ∷ (Adbgen ∷ (Mkpkg ∷ (Mkndx ∷ (Version ∷ (Demo ∷ []))))))))))))))))

-- the line of a command: its word, and what it does
abbrev pub command_help_line : Applet → HelpLine
command_help_line applet = help_line (applet_word applet) (purpose applet)

-- the commands, and what each does
unfoldable pub commands_text : List ℕ
commands_text =
    codes "\nCommands:\n" ++ help_lines_text command_column (map command_help_line listed_commands)

-- the options of every command
unfoldable pub common_options_text : List ℕ
common_options_text =
    codes "\nOptions of every command:\n" ++ help_lines_text option_column common_option_help

-- where paths begin, how a package is installed, and where to read on
unfoldable pub first_steps_text : List ℕ
first_steps_text =
    codes "\nPaths are below the current folder, which is the root.\n"
    ++ codes "\nTo install a package, name an index of packages in etc/apk/repositories, and run\n"
    ++ codes "  apk add --initdb --allow-untrusted NAME\n"
    ++ codes "\napk COMMAND --help explains a command.\nManual page: apk(8)\n"

-- the help of the program
abbrev pub program_help : List ℕ
program_help = program_usage ++ commands_text ++ common_options_text ++ first_steps_text

-- the text of `--help`: the help of a command if one is asked about, and else that of the program
abbrev pub help_of_topic : Option Applet → List ℕ
help_of_topic None = program_help
help_of_topic (Some applet) = command_help applet

-- the command whose help is asked for, by the operands of `Help`: the first is the word of a command. None for the help
-- of the program
abbrev pub help_topic_of : List Operand → Option Applet
help_topic_of [] = None
help_topic_of (operand ∷ operands) = applet_of operand.text

-- what `--help` prints, by the operands of `Help`
abbrev pub help_text : List Operand → List ℕ
help_text operands = help_of_topic (help_topic_of operands)
