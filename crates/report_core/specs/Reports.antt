-- The texts of the reports of commands (apk(8)). Each line ends with a line end. The rules are in
-- `docs/commands.md`: for changes in "`add` and `del`" and "`upgrade` and `fix`", for what is installed
-- in "`info`".
use Rattle.std.specs.Prelude.{ℕ, ◌+◌, List, [], ◌∷◌, ◌++◌, codes, length}
use Rattle.std.specs.Fmt.{decimal}
use Rattle.std.specs.List.{flat_map}

-- a text as a line: with a line end after it
abbrev pub report_line : List ℕ → List ℕ
report_line text = text ++ codes "\n"

-- lines, one after another
abbrev pub report_lines : List (List ℕ) → List ℕ
report_lines texts = flat_map report_line texts

-- a package with its version, as `NAME-VERSION`
abbrev pub name_dash_version : List ℕ → List ℕ → List ℕ
name_dash_version name version = name ++ codes "-" ++ version

-- ---- changes

-- what a change does with a package, given its name and version: it is installed, reinstalled or removed. Or, given its
-- name, the old and the new version: the new version is greater, is smaller, or is neither (`Replace`)
pub data Change : Type 0 where
  Install : List ℕ → List ℕ → Change
  Reinstall : List ℕ → List ℕ → Change
  Purge : List ℕ → List ℕ → Change
  Upgrade : List ℕ → List ℕ → List ℕ → Change
  Downgrade : List ℕ → List ℕ → List ℕ → Change
  Replace : List ℕ → List ℕ → List ℕ → Change

-- a package with its version in brackets, as `NAME (VERSION)`
abbrev pub name_with_version_in_brackets : List ℕ → List ℕ → List ℕ
name_with_version_in_brackets name version = name ++ codes " (" ++ version ++ codes ")"

-- a package whose version changes, as `NAME (OLD -> NEW)`
abbrev pub name_with_version_change : List ℕ → List ℕ → List ℕ → List ℕ
name_with_version_change name old new = name ++ codes " (" ++ old ++ codes " -> " ++ new ++ codes ")"

-- the text that reports a change of a package
abbrev pub change_text : Change → List ℕ
change_text (Install name version) = codes "Installing " ++ name_with_version_in_brackets name version
change_text (Reinstall name version) = codes "Reinstalling " ++ name_with_version_in_brackets name version
change_text (Purge name version) = codes "Purging " ++ name_with_version_in_brackets name version
change_text (Upgrade name old new) = codes "Upgrading " ++ name_with_version_change name old new
change_text (Downgrade name old new) = codes "Downgrading " ++ name_with_version_change name old new
change_text (Replace name old new) = codes "Replacing " ++ name_with_version_change name old new

-- the text of a change with the number of the change, counted from 1, and how many changes there are, as `(2/5) ..`
abbrev pub numbered_change : ℕ → ℕ → Change → List ℕ
numbered_change number count change =
    codes "(" ++ decimal number ++ codes "/" ++ decimal count ++ codes ") " ++ change_text change

-- the lines of changes, the first of which has the number `number`; `count` is how many changes the report has in all
abbrev pub change_lines_from : ℕ → ℕ → List Change → List ℕ
change_lines_from number count [] = []
change_lines_from number count (change ∷ changes) =
    report_line (numbered_change number count change)
    ++ change_lines_from (number + 1) count changes

-- a line for each change of a report, numbered from 1
abbrev pub change_lines : List Change → List ℕ
change_lines changes = change_lines_from 1 (length changes) changes

-- ---- further lines on a change

-- each text with a space before it
abbrev pub with_spaces_before : List (List ℕ) → List ℕ
with_spaces_before [] = []
with_spaces_before (text ∷ texts) = codes " " ++ text ++ with_spaces_before texts

-- the text for the package `name`, which was to be removed and is kept; the other names are those of the packages that
-- need it, if there are any
abbrev pub still_needed_text : List ℕ → List (List ℕ) → List ℕ
still_needed_text name [] = name ++ codes " stays"
still_needed_text name (first ∷ others) =
    name ++ codes " stays; required by:" ++ with_spaces_before (first ∷ others)

-- the path of a folder for which a trigger is due, as it is printed: `/` for the root folder, whose name is empty
abbrev pub folder_path_or_slash_for_root : List ℕ → List ℕ
folder_path_or_slash_for_root [] = codes "/"
folder_path_or_slash_for_root (b ∷ bytes) = b ∷ bytes

-- the text for a trigger of the package `name` that is due for a folder
abbrev pub trigger_due_for_folder_text : List ℕ → List ℕ → List ℕ
trigger_due_for_folder_text name folder =
    name ++ codes ": trigger due for " ++ folder_path_or_slash_for_root folder

-- the text of the last line of a change: the sum of the sizes of all installed packages in bytes, and their number
abbrev pub bytes_and_package_count_text : ℕ → ℕ → List ℕ
bytes_and_package_count_text bytes packages =
    codes "OK: " ++ decimal bytes ++ codes " bytes in " ++ decimal packages ++ codes " packages"

-- ---- `info`: a heading, its text, and an empty line

-- a section of a report of `info`: a line with a heading, a line for each text, and an empty line
abbrev pub section : List ℕ → List (List ℕ) → List ℕ
section heading texts = report_line heading ++ report_lines texts ++ codes "\n"

-- the section of `info NAME`: the description of a package
abbrev pub description_section : List ℕ → List ℕ → List ℕ → List ℕ
description_section name version description =
    section (name_dash_version name version ++ codes " description:") (description ∷ [])

-- the section of `info -L NAME`: the paths of a package's files
abbrev pub contents_section : List ℕ → List ℕ → List (List ℕ) → List ℕ
contents_section name version paths =
    section (name_dash_version name version ++ codes " contains:") paths

-- the section of `info -R NAME`: the dependencies of a package
abbrev pub depends_section : List ℕ → List ℕ → List (List ℕ) → List ℕ
depends_section name version dependencies =
    section (name_dash_version name version ++ codes " depends on:") dependencies

-- the text of the line of `info -W PATH`: the package that owns the path
abbrev pub owner_text : List ℕ → List ℕ → List ℕ → List ℕ
owner_text path name version =
    codes "/" ++ path ++ codes " is owned by " ++ name_dash_version name version
