use Rattle.std.proofs.Common.{sym}
use Rattle.base_core.specs.Faults.{saturating_increment}
use Rattle.base_core.specs.Tree.{HasName}
use Rattle.tree_memory.specs.Memory.{tree_state, writes_of}
use Rattle.tree_memory.proofs.Counting.{IsBegun, IsEnded, says, refused_counts, ended_counts}
use Rattle.tree_memory.proofs.tree.MemoryTreeTree.append.Goals as goal

pub returns-in_err-begin_write-clause-counts : goal.returns-in_err-begin_write-clause-counts
returns-in_err-begin_write-clause-counts c =
    let old = c.args.self.now in
    let h : IsBegun _ (saturating_increment (writes_of old)) old.calls c.begin_write.new.self = record { plan = c.begin_write.ensures.plan; tally = c.begin_write.ensures.tally; grown = c.begin_write.ensures.grown } in
    refused_counts (HasName c.args.name.now) (tree_state old) _ _ (says c.has-can.result _ c.has-can.ensures) (saturating_increment (writes_of old)) old.calls c.begin_write.new.self h c.from_residual.result c.from_residual.ensures.0 (sym c.in_err-begin_write.ensures.when)

pub returns-clause-counts : goal.returns-clause-counts
returns-clause-counts c =
    let old = c.args.self.now in
    let h : IsBegun _ (saturating_increment (writes_of old)) old.calls c.begin_write.new.self = record { plan = c.begin_write.ensures.plan; tally = c.begin_write.ensures.tally; grown = c.begin_write.ensures.grown } in
    let end : IsEnded _ c.begin_write.new.self c.finish.new.self = record { plan = c.finish.ensures.plan; tally = c.finish.ensures.tally; grown = c.finish.ensures.grown } in
    ended_counts (HasName c.args.name.now) (tree_state old) _ _ (says c.has-can.result _ c.has-can.ensures) (saturating_increment (writes_of old)) old.calls c.begin_write.new.self c.finish.new.self h (sym c.in_ok-begin_write.ensures.when) _ c.finish.result end c.finish.ensures.when
