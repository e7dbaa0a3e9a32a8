-- The file of a package that a refusal names: where it is looked for, and which of its files are mixed up. In all
-- definitions `name` and `version` are those of this package. The rules are in `docs/commands.md`, "Hints"; where a
-- change looks for the file is in "`add` and `del`" there, part "What is read".
use Rattle.std.specs.Prelude.{◌≡◌, ℕ, Bool, true, false, List, [], ◌∷◌, ◌++◌, codes, Option, Result, Ok, Err}
use Rattle.base_core.specs.Calls.{IfObservable}
use Rattle.base_core.specs.Tree.{TreeState, files_of}
use Rattle.dep_core.specs.Repositories.{Repository, repositories_of}
use Rattle.report_core.specs.Reports.{name_dash_version}
use Rattle.report_core.specs.declared.refusal.Refusal.{Refusal}
use Rattle.report_core.specs.declared.refusal.Refusal.TheVariants.{PackageBad, PackageDiffers, PackageMissing}
use Rattle.root_names.specs.PackagePath.{path_if_valid_name, package_path}
use Rattle.root_names.specs.RootNames.{repositories_name}
use Rattle.words_core.specs.Grammar.{command_of}
use Rattle.words_core.specs.Usage.{texts_joined}
use Rattle.hint_core.specs.Contents.{ExplainsMixedUp, mixed_up_positions}
use Rattle.hint_core.specs.Hints.{is_explained}
use Rattle.hint_core.specs.Lines.{printed_bytes, printed_text}
use Rattle.hint_core.specs.Repositories.{no_index_line}
use Rattle.hint_core.specs.Warnings.{text_of_found}

-- ---- lines

-- the line that says where the file of a package is looked for, beside an index; its path is shown in full length
abbrev pub package_file_line : List ℕ → List ℕ → List ℕ → List ℕ
package_file_line name version index = texts_joined
    (codes "apk: the file of " ∷ (printed_text (name_dash_version name version)
    ∷ (codes " is looked for at " ∷ (printed_bytes (package_path index name version)
    ∷ (codes ", beside " ∷ (printed_text index ∷ (codes "\n" ∷ [])))))))

-- these lines say where the file of the package is looked for beside an index. If the refusal names positions of files,
-- the lines also say which files of the package these are
abbrev pub ExplainsBeside :
    List ℕ → List ℕ → Refusal → List TreeState → List ℕ → List ℕ → Type 0
ExplainsBeside name version refusal history index lines =
    (contents : List ℕ)
    × ExplainsMixedUp (path_if_valid_name (package_path index name version))
    (mixed_up_positions refusal) history contents
    × (lines ≡ package_file_line name version index ++ contents)

-- these lines are those of *ExplainsBeside* for the index of each repository, one after another
abbrev pub ExplainsEach :
    List ℕ → List ℕ → Refusal → List TreeState → List Repository → List ℕ → Type 0
ExplainsEach name version refusal history [] lines = lines ≡ []
ExplainsEach name version refusal history (repository ∷ repositories) lines =
    (first : List ℕ) × (more : List ℕ)
    × ExplainsBeside name version refusal history repository.path first
    × ExplainsEach name version refusal history repositories more
    × (lines ≡ first ++ more)

-- these lines are those of *ExplainsEach*, after the line that says that there is no repository, if there is none
abbrev pub ExplainsRepositories :
    List ℕ → List ℕ → Refusal → List TreeState → List Repository → List ℕ → Type 0
ExplainsRepositories name version refusal history repositories lines =
    (each : List ℕ)
    × ExplainsEach name version refusal history repositories each
    × (lines ≡ no_index_line repositories ++ each)

-- these lines are those of *ExplainsRepositories* for the repositories of the list that was read; there are none if a
-- line of this list is bad
abbrev pub ExplainsByText :
    List ℕ → List ℕ → Refusal → Result (List Repository) ℕ → List TreeState → List ℕ → Type 0
ExplainsByText name version refusal (Ok repositories) history lines =
    ExplainsRepositories name version refusal history repositories lines
ExplainsByText name version refusal (Err line) history lines = lines ≡ []

-- ---- what is printed

-- these lines explain a refusal of the file of this package, by the list of repositories that is found in the tree
abbrev pub ExplainsPackage :
    List ℕ → List ℕ → Refusal → List TreeState → List ℕ → Type 0
ExplainsPackage name version refusal history lines =
    (found : Option (List ℕ)) × IfObservable history (λ v. found ≡ files_of v repositories_name)
    × ExplainsByText name version refusal (repositories_of (text_of_found found)) history lines

-- these lines are those of *ExplainsPackage* if a package's file is refused; there are none for another
-- refusal
abbrev pub ExplainsPackageRefusal : Refusal → List TreeState → List ℕ → Type 0
ExplainsPackageRefusal (PackageMissing name version) history lines =
    ExplainsPackage name version (PackageMissing name version) history lines
ExplainsPackageRefusal (PackageBad name version cause) history lines =
    ExplainsPackage name version (PackageBad name version cause) history lines
ExplainsPackageRefusal (PackageDiffers name version field wanted found) history lines =
    ExplainsPackage name version (PackageDiffers name version field wanted found) history lines
ExplainsPackageRefusal refusal history lines = lines ≡ []

-- these lines are those of *ExplainsPackageRefusal* if hints explain the refusals of the command line (true); otherwise
-- there are none
abbrev pub ExplainsIfExplained : Bool → Refusal → List TreeState → List ℕ → Type 0
ExplainsIfExplained true refusal history lines = ExplainsPackageRefusal refusal history lines
ExplainsIfExplained false refusal history lines = lines ≡ []

-- these lines say where the file of the package is looked for that a refusal of a command line names
abbrev pub ExplainsPackageFile : List (List ℕ) → Refusal → List TreeState → List ℕ → Type 0
ExplainsPackageFile words refusal history lines =
    ExplainsIfExplained (is_explained (command_of words)) refusal history lines
