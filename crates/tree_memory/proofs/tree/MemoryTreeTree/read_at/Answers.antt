use Rattle.std.proofs.Common.{length, sym}
use Rattle.base_core.specs.Tree.{CanRead}
use Rattle.tree_memory.specs.Memory.{tree_state, writes_of}
use Rattle.tree_memory.proofs.Counting.{IsBegun, says, refused_counts, done_counts}
use Rattle.tree_memory.proofs.tree.MemoryTreeTree.read_at.Goals as goal

pub returns-in_err-begin-clause-counts : goal.returns-in_err-begin-clause-counts
returns-in_err-begin-clause-counts c =
    let old = c.args.self.now in
    let h : IsBegun _ (writes_of old) old.calls c.begin.new.self = record { plan = c.begin.ensures.plan; tally = c.begin.ensures.tally; grown = c.begin.ensures.grown } in
    refused_counts (CanRead c.args.name.now c.args.at (length c.args.into.now)) (tree_state old) _ _ (says c.can_read-can.result _ c.can_read-can.ensures) (writes_of old) old.calls c.begin.new.self h c.from_residual.result c.from_residual.ensures.0 (sym c.in_err-begin.ensures.when)

pub returns-clause-counts : goal.returns-clause-counts
returns-clause-counts c =
    let old = c.args.self.now in
    let h : IsBegun _ (writes_of old) old.calls c.begin.new.self = record { plan = c.begin.ensures.plan; tally = c.begin.ensures.tally; grown = c.begin.ensures.grown } in
    done_counts (CanRead c.args.name.now c.args.at (length c.args.into.now)) (tree_state old) _ _ (says c.can_read-can.result _ c.can_read-can.ensures) (writes_of old) old.calls c.begin.new.self h _ (sym c.in_ok-begin.ensures.when)
