use Rattle.std.proofs.Common.{true, sym}
use Rattle.tree_memory.specs.Memory.{writes_of}
use Rattle.tree_memory.proofs.Below.{names_below}
use Rattle.tree_memory.proofs.Counting.{IsBegun, begun_on, planned_cause}
use Rattle.tree_memory.proofs.tree.MemoryTreeTree.list.Goals as goal

pub returns-in_err-begin-clause-goes_on : goal.returns-in_err-begin-clause-goes_on
returns-in_err-begin-clause-goes_on c =
    let old = c.args.self.now in
    let h : IsBegun true (writes_of old) old.calls c.begin.new.self = record { plan = c.begin.ensures.plan; tally = c.begin.ensures.tally; grown = c.begin.ensures.grown } in
    begun_on true (writes_of old) old.calls c.begin.new.self h

pub returns-in_err-begin-clause-disk : goal.returns-in_err-begin-clause-disk
returns-in_err-begin-clause-disk c =
    let old = c.args.self.now in
    let h : IsBegun true (writes_of old) old.calls c.begin.new.self = record { plan = c.begin.ensures.plan; tally = c.begin.ensures.tally; grown = c.begin.ensures.grown } in
    λ _. planned_cause (writes_of old) old.calls c.begin.new.self h (sym c.in_err-begin.ensures.when)

pub returns-in_err-names-clause-goes_on : goal.returns-in_err-names-clause-goes_on
returns-in_err-names-clause-goes_on c =
    let old = c.args.self.now in
    let h : IsBegun true (writes_of old) old.calls c.begin.new.self = record { plan = c.begin.ensures.plan; tally = c.begin.ensures.tally; grown = c.begin.ensures.grown } in
    begun_on true (writes_of old) old.calls c.begin.new.self h

pub returns-clause-goes_on : goal.returns-clause-goes_on
returns-clause-goes_on c =
    let old = c.args.self.now in
    let h : IsBegun true (writes_of old) old.calls c.begin.new.self = record { plan = c.begin.ensures.plan; tally = c.begin.ensures.tally; grown = c.begin.ensures.grown } in
    begun_on true (writes_of old) old.calls c.begin.new.self h

pub returns-clause-order : goal.returns-clause-order
returns-clause-order c = names_below _ _ _ c.in_ok-names.ensures c.are_names.ensures
