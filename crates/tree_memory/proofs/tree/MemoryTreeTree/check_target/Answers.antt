use Rattle.std.proofs.Common.{sym}
use Rattle.base_core.specs.Tree.{IsAlwaysAllowed}
use Rattle.tree_memory.specs.Memory.{tree_state, writes_of}
use Rattle.tree_memory.proofs.Counting.{IsBegun, always, refused_counts, done_counts}
use Rattle.tree_memory.proofs.tree.MemoryTreeTree.check_target.Goals as goal

pub returns-in_err-begin-clause-counts : goal.returns-in_err-begin-clause-counts
returns-in_err-begin-clause-counts c =
    let old = c.args.self.now in
    let h : IsBegun _ (writes_of old) old.calls c.begin.new.self = record { plan = c.begin.ensures.plan; tally = c.begin.ensures.tally; grown = c.begin.ensures.grown } in
    refused_counts IsAlwaysAllowed (tree_state old) _ _ (always (tree_state old)) (writes_of old) old.calls c.begin.new.self h c.from_residual.result c.from_residual.ensures.0 (sym c.in_err-begin.ensures.when)

pub returns-clause-counts : goal.returns-clause-counts
returns-clause-counts c =
    let old = c.args.self.now in
    let h : IsBegun _ (writes_of old) old.calls c.begin.new.self = record { plan = c.begin.ensures.plan; tally = c.begin.ensures.tally; grown = c.begin.ensures.grown } in
    done_counts IsAlwaysAllowed (tree_state old) _ _ (always (tree_state old)) (writes_of old) old.calls c.begin.new.self h _ (sym c.in_ok-begin.ensures.when)
