use Rattle.std.specs.Vec.Iter.{into_iter_items}
use Rattle.host_tree.proofs.NamesInOrder.{IsKept}
use Rattle.host_tree.proofs.listing.each_once.Given as goal

-- the names so far, and those that are left
abbrev pub invariant-loop-name : goal.invariant-loop-name
invariant-loop-name l = IsKept l.fn.sorted.items l.names (into_iter_items l.name-iterator)
