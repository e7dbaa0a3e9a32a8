-- Answers on claims that depend on the user's files under the claims' paths, such as fates.
-- No document has a rule for this: it serves the contracts of `src/fate.rt` and `src/parts.rt`, which
-- hold over any tree, even one whose files are not observable.
use Rattle.std.specs.Prelude.{◌≡◌, ℕ, List, [], ◌∷◌, map, Option}
use Rattle.base_core.specs.Calls.{IfObservable}
use Rattle.base_core.specs.Files.{Files}
use Rattle.base_core.specs.Tree.{TreeState, files_of}
use Rattle.path_claim_lists.specs.path_claims.Claims.{PathClaim}

-- `y` is the answer that `said` gives for the claim `c` and the bytes of the file under its path, or None if there is
-- no file. If the tree is observable, these bytes are those of the tree; otherwise they are any.
pub record IsByFile {Y : Type 0} (said : PathClaim → Option (List ℕ) → Y) (history : List TreeState)
    (c : PathClaim) (y : Y) : Type 0 where
  -- the bytes of the file under the claim's path, or None if there is no file
  pub found : Option (List ℕ)
  -- if the tree is observable, these are the bytes that are read there
  pub told : IfObservable history (λ v. found ≡ files_of v c.path)
  -- `y` is the answer for the claim and these bytes
  pub is : y ≡ said c found

-- there is one answer for each claim, in the same order: the one that `said` gives for the claim and for the file
-- under its path
abbrev pub AreAnswersByFiles :
    {Y : Type 0} → (PathClaim → Option (List ℕ) → Y) → List TreeState → List PathClaim → List Y → Type 0
AreAnswersByFiles said history [] [] = Unit {0}
AreAnswersByFiles said history [] (y ∷ ys) = ⊥
AreAnswersByFiles said history (c ∷ cs) [] = ⊥
AreAnswersByFiles said history (c ∷ cs) (y ∷ ys) =
    IsByFile said history c y × AreAnswersByFiles said history cs ys

-- the answers that `said` gives for the claims, if these are the files under their paths
abbrev pub results_for_claims : {Y : Type 0} → (PathClaim → Option (List ℕ) → Y) → Files → List PathClaim
    → List Y
results_for_claims said files cs = map (λ c. said c (files c.path)) cs
