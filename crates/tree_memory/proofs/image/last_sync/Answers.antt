use Rattle.std.proofs.Common.{◌≡◌, ◌+◌, ◌-◌, ◌<◌, length, sym, arith, ◌∙◌}
use Rattle.tree_memory.proofs.Picking.{older_at}
use Rattle.tree_memory.proofs.image.last_sync.Goals as goal

pub returns-then-syncs_names-clause-synced : goal.returns-then-syncs_names-clause-synced
returns-then-syncs_names-clause-synced c = λ contents.
    let next : c.loop-n.n - 1 + 1 ≡ c.loop-n.n = omega (arith, c.loop-n-test.true) in
    let here : c.loop-n.n - 1 < length c.args.changes.now = omega (arith, c.loop-n-test.true, c.loop-n.invariant.within) in
    older_at contents c.args.changes.now (c.loop-n.n - 1) c.loop-n.n c.index-changes-n.result next here c.index-changes-n.is (sym c.syncs_names.ensures ∙ c.if-syncs_names.true)
