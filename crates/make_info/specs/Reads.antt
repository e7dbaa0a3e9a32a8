-- The results of a run's reads. It serves the contracts of the crates that make containers and of
-- `outcome`, in which a tree's files need not be observable.
use Rattle.std.specs.Prelude.{ℕ, List, Option}

-- what the read with this number, counted from 0, finds under a name
abbrev pub Reads : Type 0
Reads = ℕ → List ℕ → Option (List ℕ)
