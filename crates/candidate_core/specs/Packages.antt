-- The candidates of packages that are stored as words. The order of the list is in `docs/selection.md`, "What there
-- is to choose from". Serves the contracts of `src/packages.rt` and `src/candidate_list.rt`: this file says which
-- candidates a list of stored words represents.
use Rattle.std.specs.Prelude.{ℕ, zero, suc, Bool, false, List, [], ◌∷◌, map, Option, Some, None, option_copied, slice_get}
use Rattle.adb_view.specs.Plain.{null, Plains, none, more}
use Rattle.candidate_core.specs.Candidates.{Candidate, as_installed, candidate_of}
use Rattle.candidate_core.specs.PackageWords.{info_in_source}
use Rattle.candidate_core.specs.declared.packages.Packages.{Packages}
use Rattle.candidate_core.specs.declared.packages.PackageWord.{PackageWord}
use Rattle.candidate_core.specs.declared.packages.Source.{Source}

-- the candidate of the package that a word refers to in a source, installed or not. Without a source, which no list
-- of packages lacks, it has no information
abbrev pub candidate_in_source : Option Source → ℕ → Bool → Candidate
candidate_in_source None word installed = candidate_of null None None installed
candidate_in_source (Some source) word installed =
    candidate_of (info_in_source source word) source.repo (option_copied source.tag) installed

-- the candidates of a source, none of them installed; the values are the information of each package
abbrev pub candidates_of_source : Source → Plains → List Candidate
candidates_of_source source none = []
candidates_of_source source (more info infos) =
    candidate_of info source.repo (option_copied source.tag) false
    ∷ candidates_of_source source infos

-- the candidate of a stored word, among the sources of its list
abbrev pub candidate_among : List Source → PackageWord → Candidate
candidate_among sources kept =
    candidate_in_source (slice_get sources kept.source) kept.word kept.installed

-- the candidates that these packages are, in the order in which they were added
abbrev pub candidates_of_packages : Packages → List Candidate
candidates_of_packages packages = map (candidate_among packages.sources.items) packages.words.items

-- the list, with the candidate at a place marked as installed
abbrev pub marked_installed_at : ℕ → List Candidate → List Candidate
marked_installed_at place [] = []
marked_installed_at zero (c ∷ cs) = as_installed c ∷ cs
marked_installed_at (suc place) (c ∷ cs) = c ∷ marked_installed_at place cs
