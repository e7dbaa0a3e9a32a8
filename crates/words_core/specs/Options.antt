-- The applets that exist, and the words that spell them and their options, after apk(8). The rules are
-- in `docs/commands.md`, "Words", the table of options and the paragraph on those before the applet.
use Rattle.std.specs.Prelude.{ℕ, Bool, ◌||◌, List, [], ◌∷◌, ◌++◌, codes, Option, Some, None, if◌then◌else◌}
use Rattle.std.specs.List.{find, list_any}
use Rattle.std.specs.Str.{bytes_eq}
use Rattle.command_core.specs.declared.command.Applet.{Applet}
use Rattle.command_core.specs.declared.command.Applet.TheVariants.{Add, Del, Upgrade, Fix, Info, Verify, Adbdump, Mkpkg, Mkndx, Version, Demo, Adbgen, Audit, Manifest, List as ListApplet, Search, Policy, Help, ProgramVersion}
use Rattle.command_core.specs.declared.command.Flag.{Flag}
use Rattle.command_core.specs.declared.command.Flag.TheVariants.{AllowUntrusted, NoScripts, Initdb, Simulate, Purge, Installed, Contents, Depends, WhoOwns, Test, Check}
use Rattle.command_core.specs.declared.values.ValueRule.{ValueRule}
use Rattle.command_core.specs.Values.{compression_rule, description_rule, files_rule, info_rule, output_rule, script_rule, repeatable_nonempty_trigger_rule}
use Rattle.words_core.specs.declared.options.Meaning.{Meaning}
use Rattle.words_core.specs.declared.options.Meaning.TheVariants.{Flag as Plain, Kind, Value}

-- an option: the words that spell it, and its meaning
pub record OptionSpec : Type 0 where
  -- the long word that spells it, as `--output`
  pub long : List ℕ
  -- the short word that spells it, as `-o`; empty if there is none
  pub short : List ℕ
  -- whether it sets a flag, selects a kind of the command, or takes values
  pub meaning : Meaning

-- the option that these words spell, which takes no value and sets this flag
abbrev pub flag_option_of_long_and_short : List ℕ → List ℕ → Flag → OptionSpec
flag_option_of_long_and_short long short flag = record { long = long; short = short; meaning = Plain flag }

-- the option that these words spell, whose flag selects the kind of the command
abbrev pub kind_option_of_long_and_short : List ℕ → List ℕ → Flag → OptionSpec
kind_option_of_long_and_short long short flag = record { long = long; short = short; meaning = Kind flag }

-- the option that these words spell, which takes values by this rule
abbrev pub value_option_of_long_and_short : List ℕ → List ℕ → ValueRule → OptionSpec
value_option_of_long_and_short long short rule = record { long = long; short = short; meaning = Value rule }

-- the common options: every applet that a word names has them
unfoldable pub common_options : List OptionSpec
common_options =
    flag_option_of_long_and_short (codes "--allow-untrusted") [] AllowUntrusted ∷
    (flag_option_of_long_and_short (codes "--no-scripts") [] NoScripts ∷ [])

-- `--initdb`: the command makes a database if there is none
abbrev pub initdb_option : OptionSpec
initdb_option = flag_option_of_long_and_short (codes "--initdb") [] Initdb

-- `--simulate`: the change is reported, and not made
abbrev pub simulate_option : OptionSpec
simulate_option = flag_option_of_long_and_short (codes "--simulate") (codes "-s") Simulate

-- `--purge`: protected configuration files are removed too
abbrev pub purge_option : OptionSpec
purge_option = flag_option_of_long_and_short (codes "--purge") [] Purge

-- the options of `info`, each of which selects the kind
abbrev pub info_options : List OptionSpec
info_options =
    kind_option_of_long_and_short (codes "--installed") (codes "-e") Installed ∷
    (kind_option_of_long_and_short (codes "--contents") (codes "-L") Contents ∷
    (kind_option_of_long_and_short (codes "--depends") (codes "-R") Depends ∷
    (kind_option_of_long_and_short (codes "--who-owns") (codes "-W") WhoOwns ∷ [])))

-- the option of `list`, under which only packages that are installed are listed
abbrev pub list_options : List OptionSpec
list_options = kind_option_of_long_and_short (codes "--installed") (codes "-I") Installed ∷ []

-- the options of `version`, each of which selects the kind
abbrev pub version_options : List OptionSpec
version_options =
    kind_option_of_long_and_short (codes "--test") (codes "-t") Test ∷
    (kind_option_of_long_and_short (codes "--check") (codes "-c") Check ∷ [])

-- the options of `mkpkg` and `mkndx` that say where and how their output is written
abbrev pub output_and_compression_options : List OptionSpec
output_and_compression_options =
    value_option_of_long_and_short (codes "--output") (codes "-o") output_rule ∷
    (value_option_of_long_and_short (codes "--compression") (codes "-c") compression_rule ∷ [])

-- the options of `mkpkg`
abbrev pub mkpkg_options : List OptionSpec
mkpkg_options =
    value_option_of_long_and_short (codes "--info") (codes "-I") info_rule ∷
    (value_option_of_long_and_short (codes "--script") (codes "-s") script_rule ∷
    (value_option_of_long_and_short (codes "--trigger") (codes "-t") repeatable_nonempty_trigger_rule ∷
    (value_option_of_long_and_short (codes "--files") (codes "-F") files_rule
    ∷ output_and_compression_options)))

-- the options of `mkndx`
abbrev pub mkndx_options : List OptionSpec
mkndx_options =
    value_option_of_long_and_short (codes "--description") (codes "-d") description_rule
    ∷ output_and_compression_options

-- the options that an applet has besides the common ones
abbrev pub own_options : Applet → List OptionSpec
own_options Add = initdb_option ∷ (simulate_option ∷ [])
own_options Del = simulate_option ∷ (purge_option ∷ [])
own_options Upgrade = simulate_option ∷ []
own_options Fix = simulate_option ∷ []
own_options Info = info_options
own_options Mkpkg = mkpkg_options
own_options Mkndx = mkndx_options
own_options Version = version_options
own_options ListApplet = list_options
own_options applet = []

-- the options of an applet: the common ones and its own. The two applets that no word names, `Help` and
-- `ProgramVersion`, have none
unfoldable pub options_of : Applet → List OptionSpec
options_of Help = []
options_of ProgramVersion = []
options_of applet = common_options ++ own_options applet

-- the option that a word spells, long or short, among these options
abbrev pub option_of_word : List OptionSpec → List ℕ → Option OptionSpec
option_of_word options word =
    find (λ (o : OptionSpec). bytes_eq o.long word || bytes_eq o.short word) options

-- the words of the options that may precede the applet
unfoldable pub option_words_that_may_precede_applet : List (List ℕ)
option_words_that_may_precede_applet =
    codes "--allow-untrusted" ∷ (codes "--no-scripts" ∷ (codes "--initdb" ∷ (codes "--simulate" ∷
    (codes "--purge" ∷ []))))

-- whether a word is an option that may precede the applet
abbrev pub is_option_word_that_may_precede_applet : List ℕ → Bool
is_option_word_that_may_precede_applet word =
    list_any (λ early. bytes_eq early word) option_words_that_may_precede_applet

-- the word of an applet; no word names `Help` and `ProgramVersion`, which options ask for
abbrev pub applet_word : Applet → List ℕ
applet_word Add = codes "add"
applet_word Del = codes "del"
applet_word Upgrade = codes "upgrade"
applet_word Fix = codes "fix"
applet_word Info = codes "info"
applet_word Verify = codes "verify"
applet_word Adbdump = codes "adbdump"
applet_word Mkpkg = codes "mkpkg"
applet_word Mkndx = codes "mkndx"
applet_word Version = codes "version"
applet_word Demo = codes "demo"
applet_word Adbgen = codes "adbgen"
applet_word Audit = codes "audit"
applet_word Manifest = codes "manifest"
applet_word ListApplet = codes "list"
applet_word Search = codes "search"
applet_word Policy = codes "policy"
applet_word Help = []
applet_word ProgramVersion = []

-- the applets that words name
abbrev pub applets : List Applet
applets =
    Add ∷ (Del ∷ (Upgrade ∷ (Fix ∷ (Info ∷
    (Verify ∷ (Version ∷ (Adbdump ∷ (Mkpkg ∷ (Mkndx ∷ (Demo ∷
    (Adbgen ∷ (Audit ∷ (Manifest ∷ (ListApplet ∷ (Search ∷ (Policy ∷ []))))))))))))))))

-- the applet that a word names, if it names one
abbrev pub applet_of : List ℕ → Option Applet
applet_of word = find (λ applet. bytes_eq (applet_word applet) word) applets

-- the applet that a word asks for: `Help` by `--help` or `-h`, and `ProgramVersion` by `--version` or `-V`
abbrev pub applet_of_help_or_version_option : List ℕ → Option Applet
applet_of_help_or_version_option word =
    if bytes_eq (codes "--help") word || bytes_eq (codes "-h") word then Some Help else
    if bytes_eq (codes "--version") word || bytes_eq (codes "-V") word then Some ProgramVersion else
    None
