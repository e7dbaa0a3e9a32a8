-- The first claim of each path.
-- No document has a rule for this: it serves the contract of `one_of_each_path`, by which a path is
-- searched once for all packages that claim it.
use Rattle.std.specs.Prelude.{◌≡◌, ℕ, List, map}
use Rattle.std.specs.List.{find}
use Rattle.base_core.specs.Listed.{AreSortedDistinctTexts}
use Rattle.path_claims.specs.Claims.{PathClaim, is_claim_of_path}

-- `firsts` has, for each path that a claim of `all` has, the first such claim, in byte order of the paths
pub record HasFirstClaimOfEachPath (all firsts : List PathClaim) : Type 0 where
  -- the paths of `firsts` are in byte order, each once
  pub rising : AreSortedDistinctTexts (map (λ c. c.path) firsts)
  -- for each path, both lists have the same first claim that has it, or neither list has one
  pub each : (path : List ℕ) → find (is_claim_of_path path) firsts ≡ find (is_claim_of_path path) all
