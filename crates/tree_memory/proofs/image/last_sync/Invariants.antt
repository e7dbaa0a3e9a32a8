use Rattle.std.proofs.Common.{◌≡◌, ◌≤◌, false, length}
use Rattle.std.specs.List.{AllWithin}
use Rattle.tree_memory.specs.Images.{syncs_names}
use Rattle.tree_memory.proofs.image.last_sync.Given as goal

-- no change from here on syncs the names
abbrev pub invariant-loop-n : goal.invariant-loop-n
invariant-loop-n l = record { within : l.n ≤ length l.changes; behind : AllWithin (λ c. syncs_names c ≡ false) l.changes l.n (length l.changes) }

abbrev pub decreases-loop-n : goal.decreases-loop-n
decreases-loop-n l = l.n
