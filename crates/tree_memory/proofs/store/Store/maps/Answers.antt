use Rattle.std.proofs.Common.{◌≡◌, ◌<◌, List, length, get_or, ap, arith, ◌∙◌}
use Rattle.tree_memory.specs.Changes.{contents_of}
use Rattle.tree_memory.specs.declared.store.Change.{Change}
use Rattle.tree_memory.proofs.Picking.{count_more}
use Rattle.tree_memory.proofs.store.Store.maps.Goals as goal

pub loop-change-preserved : goal.loop-change-preserved
loop-change-preserved c =
    let cs = c.args.self.now.changes.items in
    let within : c.loop-change.change-index < length cs = omega (arith, c.loop-change-test.true, ap length c.deref-change-items.ensures.value) in
    let is : c.change-item.result ≡ get_or cs c.loop-change.change-index c.change-item.result =
    c.change-item.is ∙ ap (λ (l : List Change). get_or l c.loop-change.change-index c.change-item.result) c.deref-change-items.ensures.value
    in count_more (contents_of c.args.self.now.files.items) cs c.loop-change.change-index c.loop-change.maps c.maps_after-maps.result c.change-item.result within is c.args.self.now.in_step.recorded c.loop-change.invariant c.maps_after-maps.ensures
