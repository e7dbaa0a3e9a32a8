-- The removals and renames of a change that the tree has accepted before the change is committed. In all these
-- definitions, `accepts (Some staged) name` says that the tree accepts that the file under `staged` is moved to
-- `name`, and `accepts None name` that it accepts the removal of `name`. The rule is in `docs/crash-safety.md`, "A
-- change of several files": what is asked before the first step.
use Rattle.std.specs.Prelude.{◌≡◌, ℕ, ◌+◌, List, Option, Some, None, slice_get}
use Rattle.journal_intent.specs.Intent.{Intent, stage_name}

-- the tree accepts the removal of each of these names
abbrev pub AreRemovalsAccepted : (Option (List ℕ) → List ℕ → Type 0) → List (List ℕ) → Type 0
AreRemovalsAccepted accepts names = (i : ℕ) (name : List ℕ) → slice_get names i ≡ Some name
    → accepts None name

-- the tree accepts, for each of these names, that the file staged for it is moved to it
abbrev pub AreWritesAccepted : (Option (List ℕ) → List ℕ → Type 0) → List (List ℕ) → Type 0
AreWritesAccepted accepts names = (i : ℕ) (name : List ℕ) → slice_get names i ≡ Some name
    → accepts (Some (stage_name (i + 1))) name

-- The tree accepts each target of a change. `accepts (Some staged) name` says that the tree accepts
-- that the file under `staged` is moved to `name`. `accepts None name` says that it accepts the removal
-- of `name`.
pub record AreAccepted (accepts : Option (List ℕ) → List ℕ → Type 0) (intent : Intent) :
    Type 0 where
  -- the tree accepts the removal of each name
  pub removals : AreRemovalsAccepted accepts intent.removals
  -- the tree accepts each move of a staged file
  pub writes : AreWritesAccepted accepts intent.writes
