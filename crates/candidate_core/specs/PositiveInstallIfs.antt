-- The candidates whose install-if has no conflict. The rule is in `docs/selection.md`, "What satisfies
-- world", 4 (install-if). Serves the contracts of `src/candidate.rt`, and in `pool_core` those of
-- `src/sealed.rt`.
use Rattle.std.specs.Prelude.{ℕ, suc, ◌==◌, Bool, not, ◌&&◌, if◌then◌else◌, List, [], ◌∷◌, length}
use Rattle.std.specs.List.{list_all}
use Rattle.dep_core.specs.Dependency.{Dependency}
use Rattle.candidate_core.specs.Candidates.{Candidate}

-- whether a candidate's install-if has an entry, and no conflict
abbrev pub has_positive_install_if : Candidate → Bool
has_positive_install_if c =
    not (length c.install_if == 0)
    && list_all (λ (d : Dependency). not d.conflict) c.install_if

-- the places of the candidates whose mark is true, and whose install-if has an entry and no conflict; the first
-- candidate of the list has the place `n`
abbrev pub places_marked_with_install_if : ℕ → List Bool → List Candidate → List ℕ
places_marked_with_install_if n [] cs = []
places_marked_with_install_if n (m ∷ ms) [] = []
places_marked_with_install_if n (m ∷ ms) (c ∷ cs) =
    if m && has_positive_install_if c then n ∷ places_marked_with_install_if (suc n) ms cs
    else places_marked_with_install_if (suc n) ms cs
