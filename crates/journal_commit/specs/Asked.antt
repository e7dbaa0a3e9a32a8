-- A change touches only names that the tree has accepted before. In all these definitions, `accepts (Some source)
-- name` says that the tree accepts that the file under `source` is renamed to `name`, and `accepts None name` that
-- `name` is removed. The rule is in `docs/crash-safety.md`, "A change of several files": what is asked before the
-- first step.
use Rattle.std.specs.Prelude.{◌≡◌, ◌≢◌, ℕ, List, Option, None}
use Rattle.base_core.specs.Calls.{IfObservable}
use Rattle.base_core.specs.Crash.{Since}
use Rattle.base_core.specs.Files.{Files}
use Rattle.base_core.specs.Tree.{TreeState, files_of}
use Rattle.journal_core.specs.Recovery.{intent_name}
use Rattle.journal_core.specs.Staged.{HasNoStagedNames, unstaged_files}

-- the tree has accepted that a file is renamed to the name, or that the name is removed
abbrev pub IsAcceptedFromSomeSource : (Option (List ℕ) → List ℕ → Type 0) → List ℕ → Type 0
IsAcceptedFromSomeSource accepts name = (source : Option (List ℕ)) × accepts source name

-- at the moment `w`, the tree has accepted each name whose file after a recovery differs from that in the files `old`
abbrev pub RecoveryChangesOnlyAcceptedNames :
    (Option (List ℕ) → List ℕ → Type 0) → Files → TreeState → Type 0
RecoveryChangesOnlyAcceptedNames accepts old w =
    (name : List ℕ) → unstaged_files (files_of w) name ≢ old name → IsAcceptedFromSomeSource accepts name

-- If a run starts at a state without an intent and without staged files, at each moment of the run the tree has
-- accepted each name whose file a recovery would change from what it was at the start.
abbrev pub TargetsAreAccepted :
    (Option (List ℕ) → List ℕ → Type 0) → List TreeState → List TreeState → Type 0
TargetsAreAccepted accepts old now = IfObservable old (λ v. v.names intent_name ≡ None
    → HasNoStagedNames (files_of v) → Since (RecoveryChangesOnlyAcceptedNames accepts (files_of v)) old now)
