-- The places that fit a need, and the remembered results for a need or an entry of world. No rule of a
-- document: serves the contracts of `src/sealed.rt` and `src/marks.rt`.
use Rattle.std.specs.Prelude.{◌≡◌, ◌<◌, ℕ, List, Some, length, slice_get}
use Rattle.dep_core.specs.Dependency.{Dependency}
use Rattle.option_ranks.specs.candidate_core.Candidates.{Candidate, Need}
use Rattle.option_ranks.specs.candidate_core.Matches.{AreMatchesFor, AreRememberedMatchesOf}
use Rattle.option_ranks.specs.candidate_core.Options.{is_eligible_for_need, places_passing_counted_from}
use Rattle.option_ranks.specs.candidate_core.Packages.{candidates_of_packages}
use Rattle.option_ranks.specs.candidate_core.Rank.{SelectionProblem}
use Rattle.option_ranks.specs.candidate_core.VersionTexts.{source_text}
use Rattle.option_ranks.specs.candidate_core.declared.matches.KnownMatches.{KnownMatches}
use Rattle.option_ranks.specs.candidate_core.declared.packages.Packages.{Packages}

-- the places of the candidates that may be selected and meet the need, in rising order
abbrev pub places_fitting : SelectionProblem → Need → List ℕ
places_fitting pool need = places_passing_counted_from 0 (is_eligible_for_need pool need) pool.candidates

-- the remembered results for a need are right for the versions of the packages
abbrev pub AreMatchesOfPackages : Packages → Need → KnownMatches → Type 0
AreMatchesOfPackages packages need known = AreMatchesFor (source_text packages.sources.items) need known

-- the packages are those of the pool, and the remembered results for a need are right for their versions
pub record AreMatchesInPool (pool : SelectionProblem) (need : Need) (packages : Packages)
    (matches : KnownMatches) : Type 0 where
  -- the packages are those of the pool
  pub own : candidates_of_packages packages ≡ pool.candidates
  -- the remembered results are right
  pub known : AreMatchesOfPackages packages need matches

-- the packages have this candidate at the place, and the remembered results for a dependency are right for
-- their versions
pub record IsCandidateWithMatches (packages : Packages) (place : ℕ) (details : Candidate) (d : Dependency)
    (matches : KnownMatches) : Type 0 where
  -- there is a package at the place
  pub within : place < length (candidates_of_packages packages)
  -- the candidate at the place is this one
  pub here : slice_get (candidates_of_packages packages) place ≡ Some details
  -- the remembered results for the dependency are right
  pub known : AreRememberedMatchesOf (source_text packages.sources.items) d matches
