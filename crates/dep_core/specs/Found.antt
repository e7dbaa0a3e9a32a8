-- The keys of the entries that were found in the text of a world. Serves the proof of `World::read`, as the invariant
-- of `Found` in `src/world.rt`.
use Rattle.std.specs.Prelude.{◌≡◌, ℕ, List, [], ◌∷◌}
use Rattle.std.specs.Borrow.{Bor}
use Rattle.dep_core.specs.Dependency.{Dependency}

-- the key of each entry is the name of the dependency
abbrev pub IsKeyedByName : List (Bor (List ℕ) × Dependency) → Type 0
IsKeyedByName [] = Unit {0}
IsKeyedByName (e ∷ rest) = (e.0.now ≡ e.1.name) × IsKeyedByName rest
