-- Where the files of packages are. The rules are in `docs/commands.md`, "`add` and `del`", part "What is read".
-- Serves the laws of `src/found.rt`.
use Rattle.std.specs.Prelude.{◌≡◌, ◌+◌, ℕ, false, List, Some, slice_get}
use Rattle.tell_core.specs.candidate_core.Candidates.{Candidate}
use Rattle.dep_core.specs.Repositories.{Repository}
use Rattle.change_outcome.specs.package_changes.Changes.{candidate_version_text}
use Rattle.change_outcome.specs.root_names.PackagePath.{has_slash, package_file_name}

-- the name, without its folder, of the file of a candidate's package: `NAME-VERSION.apk`
abbrev pub candidate_file_name : Candidate → List ℕ
candidate_file_name c = package_file_name c.name (candidate_version_text c)

-- the candidate `c` is from a repository of the list whose index has this path
pub record IsCandidateOfIndexAtPath (repositories : List Repository) (c : Candidate) (path : List ℕ)
    : Type 0 where
  -- the place of the repository in the list, counted from 0
  pub place : ℕ
  -- the candidate has the number of this repository, which is counted from 1
  pub numbered : c.repository ≡ Some (place + 1)
  -- the repository of the candidate
  pub repository : Repository
  -- this repository is at this place of the list
  pub listed : slice_get repositories place ≡ Some repository
  -- the index of this repository has this path
  pub path_is : repository.path ≡ path

-- a text has no `/`
abbrev pub HasNoSlash : List ℕ → Type 0
HasNoSlash text = has_slash text ≡ false
