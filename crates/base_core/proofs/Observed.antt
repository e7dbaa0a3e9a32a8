-- Lemmas that several crates need.
use Rattle.std.proofs.Common.{List, ℕ, Option, ◌≡◌, [], None, ◌∷◌, refl}
use Rattle.base_core.specs.Tree.{TreeState, files_of}
use Rattle.base_core.specs.Calls.{IfObservable}

-- the file of a tree that tells it, or none
pub found_there : (h : List TreeState) (q : List ℕ) → (found : Option (List ℕ)) × IfObservable h (λ v. found ≡ files_of v q)
found_there [] q = (None, tt)
found_there (v ∷ earlier) q = (files_of v q, refl)
