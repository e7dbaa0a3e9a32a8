-- World without the entries of several names. Serves the contract of `world_without` in `src/world.rt`.
use Rattle.std.specs.Prelude.{ℕ, List, not}
use Rattle.std.specs.List.{filter, list_any}
use Rattle.std.specs.Str.{bytes_eq}
use Rattle.dep_core.specs.Dependency.{Dependency}

-- the entries of world whose names are none of these
abbrev pub world_without_names : List (List ℕ) → List Dependency → List Dependency
world_without_names names world =
    filter (λ (d : Dependency). not (list_any (bytes_eq d.name) names)) world
