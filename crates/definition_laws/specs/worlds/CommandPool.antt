-- What a command chooses from, in terms of its indexes and the database: the candidates, the world, and the names that
-- are upgraded.
-- The rules are in `docs/selection.md`, "What there is to choose from", and in `docs/commands.md`,
-- "`upgrade` and `fix`".
use Rattle.std.specs.Prelude.{◌≡◌, ◌⊎◌, ◌↔◌, ◌≤◌, ◌+◌, ℕ, true, false, List, [], ◌∷◌, length, Some, Ok, slice_get}
use Rattle.engine_core.specs.adb_fields.FirstPair.{IsIn}
use Rattle.engine_core.specs.adb_fields.Repeated.{entries_of_field_at_index}
use Rattle.engine_core.specs.adb_schema.Soundness.{payload_in, root_value_of_payload}
use Rattle.adb_view.specs.FieldIndexes.{INDEX_PACKAGES_INDEX}
use Rattle.adb_view.specs.declared.tables.Which.TheVariants.{Index}
use Rattle.adb_view.specs.Plain.{Plain}
use Rattle.engine_core.specs.candidate_core.Candidates.{Candidate, candidate_of, is_repository_package_same_as_installed}
use Rattle.engine_core.specs.candidate_core.Rank.{SelectionProblem, is_upgraded}
use Rattle.engine_core.specs.candidate_core.declared.candidate_list.TheConstants.{MOST_CANDIDATES}
use Rattle.engine_core.specs.change_inputs.Candidates.{installed_candidate}
use Rattle.engine_core.specs.change_inputs.Inputs.{Inputs, first_index_read_number, inputs_of}
use Rattle.command_core.specs.Command.{CommandLine}
use Rattle.command_core.specs.declared.command.Applet.{Applet}
use Rattle.command_core.specs.declared.command.Applet.TheVariants.{Upgrade}
use Rattle.command_core.specs.declared.operands.Operand.{Operand}
use Rattle.dep_core.specs.Repositories.{Repository}
use Rattle.engine_core.specs.make_info.Reads.{Reads}

-- ---- the candidates

-- the repository with the index `place` in the list of repositories has a package with this information in its index
pub record IsIndexed (inputs : Inputs) (read : Reads) (place : ℕ) (repository : Repository)
    (info : Plain) : Type 0 where
  -- the list of repositories has this repository there
  pub listed : slice_get inputs.root.repositories place ≡ Some repository
  -- the bytes of the file of the repository's index
  pub file : List ℕ
  -- these bytes were read under the repository's path
  pub is_index : read (first_index_read_number + place) repository.path ≡ Some file
  -- the index has a package with this information
  pub has : IsIn info (entries_of_field_at_index INDEX_PACKAGES_INDEX
      (root_value_of_payload Index (payload_in file)))

-- the candidate is the package with this information, of the repository with the index `place`, and is installed or
-- not. Candidates number repositories from 1
abbrev pub IsCandidateFor : ℕ → Repository → Plain → Candidate → Type 0
IsCandidateFor place repository info c =
    c ≡ candidate_of info (Some (1 + place)) repository.tag c.installed

-- some installed package is the same as the candidate, which is from an index: they have the same name, the same text
-- of the version, and the same id
abbrev pub IsSameAsInstalled : Inputs → Candidate → Type 0
IsSameAsInstalled inputs c =
    (pkg : Plain)
    × IsIn pkg inputs.root.database.packages
    × (is_repository_package_same_as_installed (installed_candidate pkg) c ≡ true)

-- the candidate is a package of an index, and counts as installed exactly if an installed package is the same
pub record IsOfIndex (inputs : Inputs) (read : Reads) (c : Candidate) : Type 0 where
  -- the index of the repository in the list of repositories
  pub place : ℕ
  -- the repository
  pub repository : Repository
  -- the information of the package in the index
  pub info : Plain
  -- the repository has the package in its index
  pub indexed : IsIndexed inputs read place repository info
  -- the candidate has this information and this repository
  pub is : IsCandidateFor place repository info c
  -- the candidate counts as installed exactly if an installed package is the same
  pub counts : (c.installed ≡ true) ↔ IsSameAsInstalled inputs c

-- the candidate is an installed package that no candidate from an index is the same as
pub record IsInstalledAlone (inputs : Inputs) (candidates : List Candidate) (c : Candidate) :
    Type 0 where
  -- an installed package
  pub pkg : Plain
  -- the database has this package
  pub installed : IsIn pkg inputs.root.database.packages
  -- the candidate is this package
  pub is : c ≡ installed_candidate pkg
  -- none of the candidates, if it is from an index, is the same package
  pub alone : (other : Candidate) → IsIn other candidates → is_repository_package_same_as_installed c other
      ≡ false

-- The candidates of a command are the packages of all indexes, and the installed packages that no index
-- has; none of either is missing.
pub record AreCandidates (inputs : Inputs) (read : Reads) (candidates : List Candidate) :
    Type 0 where
  -- each candidate is from an index, or is an installed package that no index has
  pub each : (c : Candidate) → IsIn c candidates
      → IsOfIndex inputs read c ⊎ IsInstalledAlone inputs candidates c
  -- each package of an index is a candidate
  pub of_indexes : (place : ℕ) (repository : Repository) (info : Plain)
      → IsIndexed inputs read place repository info
      → (c : Candidate) × IsIn c candidates × IsCandidateFor place repository info c
  -- each installed package is a candidate, or is the same as one from an index
  pub installed : (pkg : Plain) → IsIn pkg inputs.root.database.packages
      → (c : Candidate) × IsIn c candidates × (c.installed ≡ true)
      × ((c ≡ installed_candidate pkg)
      ⊎ (is_repository_package_same_as_installed (installed_candidate pkg) c ≡ true))

-- ---- the names that are upgraded

-- the command upgrades this name: `upgrade` the names that are its operands, or all names without operands; no other
-- command upgrades a name
abbrev pub IsToUpgrade : Applet → List Operand → List ℕ → Type 0
IsToUpgrade Upgrade [] name = Unit {0}
IsToUpgrade Upgrade (o ∷ operands) name =
    (named : Operand) × IsIn named (o ∷ operands) × (named.text ≡ name)
IsToUpgrade applet operands name = ⊥

-- ---- what a command chooses from

-- `pool` is what the command chooses from: the candidates, the world to be satisfied, and the names to be upgraded
pub record IsCommandPool (command : CommandLine) (read : Reads) (pool : SelectionProblem) : Type 0 where
  -- what the command reads of the root
  pub inputs : Inputs
  -- the inputs are what the reads find
  pub is_inputs : inputs_of command read ≡ Ok inputs
  -- the candidates are those of the indexes and the installed packages
  pub candidates : AreCandidates inputs read pool.candidates
  -- there are no more candidates than the limit
  pub few : length pool.candidates ≤ MOST_CANDIDATES
  -- the world to be satisfied is the new world
  pub world : pool.world ≡ inputs.root.new_world
  -- a name is upgraded exactly if the command asks for it
  pub upgraded : (name : List ℕ)
      → (is_upgraded pool.upgraded name ≡ true) ↔ IsToUpgrade command.applet command.operands name
