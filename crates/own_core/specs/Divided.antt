-- Claims divided into two lists by answers that depend on the user's files under the claims' paths.
-- No document has a rule for this: it serves the contracts of `src/parts.rt`, which hold over any tree, even one whose
-- files are not observable.
use Rattle.std.specs.Prelude.{◌≡◌, ◌++◌, ◌∷◌, [], ℕ, Bool, true, false, List, Option}
use Rattle.base_core.specs.Tree.{TreeState}
use Rattle.path_claim_lists.specs.path_claims.Claims.{PathClaim}
use Rattle.own_core.specs.Fates.{marked_claims}
use Rattle.own_core.specs.Found.{AreAnswersByFiles}

-- the claims, and at their end the claim `c` if the flag is true
abbrev pub claims_with_one_if : Bool → PathClaim → List PathClaim → List PathClaim
claims_with_one_if true c claims = claims ++ c ∷ []
claims_with_one_if false c claims = claims

-- There is an answer for each of the claims: the one that `said` gives for it and the file under its path. The claims
-- whose answers pass the test `first` are `ones`, and those whose answers pass the test `second` are `others`.
pub record AreDividedByAnswer {Y : Type 0} (said : PathClaim → Option (List ℕ) → Y)
    (first second : Y → Bool) (history : List TreeState)
    (claims ones others : List PathClaim) : Type 0 where
  -- the answer for each claim
  pub answers : List Y
  -- each answer is right for the file under the claim's path: the tree's, if the tree is observable
  pub found : AreAnswersByFiles said history claims answers
  -- `ones` are the claims whose answers pass the first test
  pub passing_first : ones ≡ marked_claims first claims answers
  -- `others` are the claims whose answers pass the second test
  pub passing_second : others ≡ marked_claims second claims answers
