-- Lemmas that several crates need.
use Rattle.std.proofs.Common.{List, ℕ, ◌≡◌, [], ◌∷◌, inl, ap, sym, inr, suc}
use Rattle.std.specs.Prelude.{slice_get, Some}
use Rattle.candidate_core.specs.Candidates.{Candidate}
use Rattle.candidate_core.specs.Options.{IsIn}

pub place_of : (cs : List Candidate) (c : Candidate) → IsIn c cs → (k : ℕ) × (slice_get cs k ≡ Some c)
place_of [] c h = absurd h
place_of (x ∷ cs) c (inl e) = (0, ap Some (sym e))
place_of (x ∷ cs) c (inr h) = let r = place_of cs c h in (suc r.0, r.1)
