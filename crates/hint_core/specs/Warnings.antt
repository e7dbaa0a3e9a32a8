-- Warnings: what a command that was carried out may not have been meant to do. The rules are in
-- `docs/commands.md`, "Warnings".
use Rattle.std.specs.Prelude.{◌≡◌, ◌⊎◌, ℕ, Bool, false, if◌then◌else◌, List, [], ◌∷◌, ◌++◌, codes, Option, Some, None, IsSome, option_and_then, Result, Ok, Err}
use Rattle.std.specs.List.{list_any}
use Rattle.std.specs.Option.{option_map}
use Rattle.std.specs.Str.{bytes_eq}
use Rattle.base_core.specs.Calls.{IfObservable}
use Rattle.base_core.specs.Files.{IsFolderOf}
use Rattle.base_core.specs.Tree.{TreeState, files_of}
use Rattle.command_core.specs.Command.{CommandLine}
use Rattle.command_core.specs.Files.{without_one_leading_dot_slash}
use Rattle.command_core.specs.Values.{first_value_with_letter}
use Rattle.command_core.specs.declared.command.Applet.{Applet}
use Rattle.command_core.specs.declared.command.Applet.TheVariants.{Add, Mkpkg}
use Rattle.command_core.specs.declared.operands.Operand.{Operand}
use Rattle.command_core.specs.declared.values.OptionValue.{OptionValue}
use Rattle.command_core.specs.declared.values.TheConstants.{FILES}
use Rattle.dep_core.specs.Dependency.{Dependency}
use Rattle.dep_core.specs.Reading.{dependency_of}
use Rattle.dep_core.specs.Repositories.{Repository, repositories_of}
use Rattle.root_names.specs.RootNames.{repositories_name}
use Rattle.words_core.specs.Usage.{texts_joined}
use Rattle.hint_core.specs.Lines.{printed_text}

-- ---- a folder without files

-- the folder whose files a package gets, if the option `-F` of `mkpkg` gives one
abbrev pub folder_to_pack : List OptionValue → Option (List ℕ)
folder_to_pack values =
    option_map (λ (v : OptionValue). without_one_leading_dot_slash v.text)
    (first_value_with_letter FILES values)

-- the line that says that no file is below a folder
abbrev pub empty_folder_line : List ℕ → List ℕ
empty_folder_line folder = texts_joined
    (codes "apk: no file is below " ∷ (printed_text folder ∷ (codes "\n" ∷ [])))

-- a file is below a folder
abbrev pub HasFileBelow : TreeState → List ℕ → Type 0
HasFileBelow v folder = (name : List ℕ) × IsSome (v.names name) × IsFolderOf folder name

-- the warning of a folder is nothing if a file is below it, and else the line of *empty_folder_line*
abbrev pub WarnsOfFolder : List ℕ → List ℕ → TreeState → Type 0
WarnsOfFolder folder lines v =
    ((lines ≡ []) × HasFileBelow v folder)
    ⊎ ((lines ≡ empty_folder_line folder) × (HasFileBelow v folder → ⊥))

-- these lines are the warning of the folder that `-F` gives; there are none if it gives none
abbrev pub WarnsIfGiven : Option (List ℕ) → List TreeState → List ℕ → Type 0
WarnsIfGiven None history lines = lines ≡ []
WarnsIfGiven (Some folder) history lines = IfObservable history (WarnsOfFolder folder lines)

-- ---- a tag that no repository has

-- the tag of a text, if the text is a dependency with a tag
abbrev pub tag_of : List ℕ → Option (List ℕ)
tag_of text = option_and_then (λ (d : Dependency). d.tag) (dependency_of text)

-- whether there is a second tag, and it equals the first
abbrev pub is_tag_of : List ℕ → Option (List ℕ) → Bool
is_tag_of tag None = false
is_tag_of tag (Some other) = bytes_eq other tag

-- whether one of these repositories has a tag
abbrev pub has_repository_with_tag : List Repository → List ℕ → Bool
has_repository_with_tag repositories tag = list_any (λ (r : Repository). is_tag_of tag r.tag) repositories

-- the line that says that no repository has a tag
abbrev pub unknown_tag_line : List ℕ → List ℕ
unknown_tag_line tag = texts_joined
    (codes "apk: no repository has the tag @" ∷ (printed_text tag ∷ (codes "\n" ∷ [])))

-- the warning of a tag, if there is a tag: the line of *unknown_tag_line* if no repository has it
abbrev pub warning_if_tag_unknown : List Repository → Option (List ℕ) → List ℕ
warning_if_tag_unknown repositories None = []
warning_if_tag_unknown repositories (Some tag) =
    if has_repository_with_tag repositories tag then [] else unknown_tag_line tag

-- the warnings of the tags of operands, one operand after another
abbrev pub tag_warnings : List Repository → List Operand → List ℕ
tag_warnings repositories [] = []
tag_warnings repositories (operand ∷ operands) =
    warning_if_tag_unknown repositories (tag_of operand.text) ++ tag_warnings repositories operands

-- the lines of *tag_warnings* for the repositories of the list that was read; none if a line of this list is bad
abbrev pub tag_warnings_if_read : Result (List Repository) ℕ → List Operand → List ℕ
tag_warnings_if_read (Ok repositories) operands = tag_warnings repositories operands
tag_warnings_if_read (Err line) operands = []

-- the text of a file that was read; empty if the file is absent
abbrev pub text_of_found : Option (List ℕ) → List ℕ
text_of_found None = []
text_of_found (Some text) = text

-- these lines are the warnings of the tags of operands, by the list of repositories in the tree
abbrev pub WarnsOfTags : List Operand → List ℕ → TreeState → Type 0
WarnsOfTags operands lines v =
    lines ≡ tag_warnings_if_read (repositories_of (text_of_found (files_of v repositories_name))) operands

-- ---- all warnings of a command line

-- these lines are the warnings of a command, which has this applet
abbrev pub WarnsForApplet : Applet → CommandLine → List TreeState → List ℕ → Type 0
WarnsForApplet Mkpkg command history lines = WarnsIfGiven (folder_to_pack command.values) history lines
WarnsForApplet Add command history lines = IfObservable history (WarnsOfTags command.operands lines)
WarnsForApplet applet command history lines = lines ≡ []

-- these lines are the warnings of a command line; there are none if its words are no command
abbrev pub Warns : Result CommandLine ℕ → List TreeState → List ℕ → Type 0
Warns (Ok command) history lines = WarnsForApplet command.applet command history lines
Warns (Err place) history lines = lines ≡ []
