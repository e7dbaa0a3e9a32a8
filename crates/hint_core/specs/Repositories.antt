-- The repository with a number, and the line of the list of repositories that names it; and the line that is printed if
-- there is no repository. The rules of the list are in `docs/formats.md`, "Repositories".
use Rattle.std.specs.Prelude.{ℕ, ◌+◌, ◌-◌, ◌==◌, if◌then◌else◌, List, [], ◌∷◌, length, codes, Option, Some, None, Result, Ok, Err}
use Rattle.dep_core.specs.Repositories.{Repository, repositories_of}
use Rattle.hint_core.specs.declared.find.PathAlone.{PathAlone}
use Rattle.hint_core.specs.declared.find.PathAlone.TheVariants.{Path, Skipped, Bad}
use Rattle.hint_core.specs.declared.find.RepositoryLine.{RepositoryLine}

-- a repository: the number of the line that names it, counted from 1, and the path of its index
abbrev pub repository_line_from_parts : ℕ → List ℕ → RepositoryLine
repository_line_from_parts line path = record { line = line; path = path }

-- the result of reading a line alone: it is bad, names no repository, or names one. It has no line end, so there is at
-- most one
abbrev pub path_alone : Result (List Repository) ℕ → PathAlone
path_alone (Err line) = Bad
path_alone (Ok []) = Skipped
path_alone (Ok (found ∷ more)) = Path found.path

-- the repository of a line, if it names one and `number` is 1. Otherwise `behind` searches the lines after it: for the
-- same number if the line names none, and for one less if it names one. None if the line is bad
abbrev pub repository_from_line : PathAlone → ℕ → ℕ → (ℕ → Option RepositoryLine) → Option RepositoryLine
repository_from_line Bad number line behind = None
repository_from_line Skipped number line behind = behind number
repository_from_line (Path path) number line behind =
    if number == 1 then Some (repository_line_from_parts line path) else behind (number - 1)

-- the repository with a number, counted from 1, among those that lines name; `line` is the number of the
-- first line. None if there are fewer repositories, or if its line or one before it is bad
abbrev pub repository_at : ℕ → ℕ → List (List ℕ) → Option RepositoryLine
repository_at number line [] = None
repository_at number line (text ∷ rest) =
    repository_from_line (path_alone (repositories_of text)) number line
    (λ left. repository_at left (line + 1) rest)

-- the line that says that there is no repository, and how a line that names one looks; nothing if there
-- is a repository
abbrev pub no_index_line : List Repository → List ℕ
no_index_line repositories =
    if length repositories == 0 then
    codes "apk: etc/apk/repositories names no index; a line such as main/index.adb names one\n" else []
