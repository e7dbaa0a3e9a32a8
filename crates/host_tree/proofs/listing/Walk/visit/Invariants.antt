use Rattle.std.proofs.Common.{All}
use Rattle.base_core.specs.Files.{IsFolderOf}
use Rattle.host_tree.proofs.listing.Walk.visit.Given as goal

-- the files so far are below the top folder
abbrev pub invariant-loop-entry : goal.invariant-loop-entry
invariant-loop-entry g l = record {
  can_next : (goal.iterator-loop-entry g).can_next l.entry-iterator;
  is_finite : (goal.iterator-loop-entry g).is_finite l.entry-iterator;
  below : All (IsFolderOf l.top) l.self.files.items;
}
