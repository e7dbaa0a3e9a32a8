-- The texts of the reports of queries: `list`, `search` and `policy` (apk(8)). Each line ends with a
-- line end. The rules are in `docs/commands.md`, "`list`", "`search`" and "`policy`".
use Rattle.std.specs.Prelude.{ℕ, Bool, true, false, List, [], ◌∷◌, ◌++◌, Option, Some, None, codes}
use Rattle.report_core.specs.Reports.{name_dash_version, report_line}

-- ---- `list` and `search`

-- a text with the text `before` before it and the text `after` after it; nothing if the text is empty
abbrev pub text_between_unless_empty : List ℕ → List ℕ → List ℕ → List ℕ
text_between_unless_empty before [] after = []
text_between_unless_empty before (b ∷ bytes) after = before ++ (b ∷ bytes) ++ after

-- the end of the line of a package: ` [installed]`, or nothing if the package is not installed
abbrev pub installed_mark : Bool → List ℕ
installed_mark true = codes " [installed]"
installed_mark false = []

-- the line of `list` for a package, as `NAME-VERSION ARCH {ORIGIN} (LICENSE) [installed]`, without
-- the parts that are empty
abbrev pub list_line : List ℕ → List ℕ → List ℕ → List ℕ → List ℕ → Bool → List ℕ
list_line name version arch origin license installed =
    report_line (name_dash_version name version ++ text_between_unless_empty (codes " ") arch []
    ++ text_between_unless_empty (codes " {") origin (codes "}")
    ++ text_between_unless_empty (codes " (") license (codes ")") ++ installed_mark installed)

-- the line of `search` for a package: `NAME-VERSION`
abbrev pub search_line : List ℕ → List ℕ → List ℕ
search_line name version = report_line (name_dash_version name version)

-- ---- `policy`

-- the first line of `policy` for a package name: `NAME policy:`
abbrev pub policy_heading : List ℕ → List ℕ
policy_heading name = report_line (name ++ codes " policy:")

-- the line of `policy` for a version of the package, below the first line
abbrev pub policy_version_heading : List ℕ → List ℕ
policy_version_heading version = report_line (codes "  " ++ version ++ codes ":")

-- a line of `policy` below a version: it says where a package with this version is
abbrev pub indented_policy_line : List ℕ → List ℕ
indented_policy_line text = report_line (codes "    " ++ text)

-- the line of `policy` that says that the package is in the database of installed packages
abbrev pub policy_database_line : List ℕ
policy_database_line = indented_policy_line (codes "lib/apk/db/installed")

-- the line of `policy` that says that the package is in a repository: its tag, if it has one, and the path of its index
abbrev pub policy_repository_line : Option (List ℕ) → List ℕ → List ℕ
policy_repository_line None path = indented_policy_line path
policy_repository_line (Some tag) path = indented_policy_line (codes "@" ++ tag ++ codes " " ++ path)
