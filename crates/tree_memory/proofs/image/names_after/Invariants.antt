use Rattle.std.proofs.Common.{◌≤◌, ℕ, List, take}
use Rattle.tree_memory.specs.Changes.{empty_state, state_after_changes}
use Rattle.tree_memory.specs.Images.{HasNames}
use Rattle.tree_memory.proofs.image.names_after.Given as goal

-- the names behind the changes so far
abbrev pub invariant-loop-change : goal.invariant-loop-change
invariant-loop-change l = record { same : (contents : List (List ℕ)) → HasNames (state_after_changes contents empty_state (take l.change-index l.changes)) l.names.entries.items l.made; few : l.made ≤ l.change-index }
