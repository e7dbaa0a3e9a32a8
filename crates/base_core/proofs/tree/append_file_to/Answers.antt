-- Each read goes on where those before it ended.
use Rattle.std.proofs.Common.{◌≡◌, ◌+◌, ◌-◌, ℕ, Ok, arith, subst}
use Rattle.base_core.specs.Read.{AppendsReadBytes}
use Rattle.base_core.specs.declared.tree.TreeFault.TheVariants.{Disk as DiskFault}
use Rattle.base_core.proofs.Counting.{readings_two}
use Rattle.base_core.proofs.ReadAfter.{can_read_here, read_further, reading_as, reading_off}
use Rattle.base_core.proofs.tree.append_file_to.Goals as goal

pub read_some-requires : goal.read_some-requires
read_some-requires g c =
    can_read_here (g.T.Tree.history c.args.tree.now) (g.T.Tree.history c.loop-at.tree) c.args.name.now c.args.size c.loop-at.at 131072 c.requires c.loop-at.invariant.tree.same (omega arith)

pub returns-in_err-read_some-clause-tree : goal.returns-in_err-read_some-clause-tree
returns-in_err-read_some-clause-tree g c =
    readings_two DiskFault _ _ _ _ _ _ 0 _ c.loop-at.invariant.tree
    (reading_off DiskFault _ _ _ _ c.in_err-read_some.field-0.0 _ c.from_residual.ensures.1 c.in_err-read_some.ensures.tree)

pub loop-at-preserved : goal.loop-at-preserved
loop-at-preserved g c = record {
  within = omega arith;
  tree = readings_two DiskFault (g.T.Tree.history c.args.tree.now) (g.T.Tree.history c.loop-at.tree) (g.T.Tree.history c.read_some.new.tree)
      (g.T.Tree.counts c.args.tree.now) (g.T.Tree.counts c.loop-at.tree) (g.T.Tree.counts c.read_some.new.tree) 0 (Ok 0) c.loop-at.invariant.tree
      (reading_as DiskFault _ _ _ _ _ 0 c.in_ok-read_some.ensures.tree);
  added = read_further (g.T.Tree.history c.args.tree.now) (g.T.Tree.history c.loop-at.tree) c.args.name.now c.loop-at.at 131072
      c.args.bytes.now.items c.loop-at.bytes.items c.read_some.new.bytes.items c.loop-at.invariant.tree.same c.loop-at.invariant.added c.in_ok-read_some.ensures.added;
}

pub read_some-requires-2 : goal.read_some-requires-2
read_some-requires-2 g c =
    can_read_here (g.T.Tree.history c.args.tree.now) (g.T.Tree.history c.loop-at.tree) c.args.name.now c.args.size c.loop-at.at (c.args.size - c.loop-at.at) c.requires c.loop-at.invariant.tree.same (omega arith)

pub returns-in_err-read_some-2-clause-tree : goal.returns-in_err-read_some-2-clause-tree
returns-in_err-read_some-2-clause-tree g c =
    readings_two DiskFault _ _ _ _ _ _ 0 _ c.loop-at.invariant.tree
    (reading_off DiskFault _ _ _ _ c.in_err-read_some-2.field-0.0 _ c.from_residual-in_err-read_some-2.ensures.1 c.in_err-read_some-2.ensures.tree)

pub returns-clause-added : goal.returns-clause-added
returns-clause-added g c =
    let all : c.loop-at.at + (c.args.size - c.loop-at.at) ≡ c.args.size = omega arith in
    subst (λ (n : ℕ). AppendsReadBytes (g.T.Tree.history c.args.tree.now) c.args.name.now 0 n c.args.bytes.now.items c.read_some-2.new.bytes.items) all
    (read_further _ _ c.args.name.now c.loop-at.at (c.args.size - c.loop-at.at) _ _ _ c.loop-at.invariant.tree.same c.loop-at.invariant.added c.in_ok-read_some-2.ensures.added)

pub returns-clause-tree : goal.returns-clause-tree
returns-clause-tree g c =
    readings_two DiskFault _ _ _ _ _ _ 0 _ c.loop-at.invariant.tree (reading_as DiskFault _ _ _ _ _ _ c.in_ok-read_some-2.ensures.tree)
