use Rattle.std.proofs.Common.{◌≡◌, ◌<◌, ◌∙◌, Bool, cond, length, get_or, take, ap, arith}
use Rattle.base_core.specs.Undone.{with_change_replayed}
use Rattle.tree_memory.specs.Changes.{contents_of, empty_state, state_after_changes, step}
use Rattle.tree_memory.specs.Images.{is_change_undone}
use Rattle.tree_memory.specs.Table.{lookup}
use Rattle.tree_memory.proofs.Picking.{can_at, not_synced, picking_more}
use Rattle.tree_memory.proofs.store.Store.picked_names.Goals as goal

pub loop-i-preserved : goal.loop-i-preserved
loop-i-preserved c =
    let own = c.args.self.now in
    let contents = contents_of own.files.items in
    let cs = own.changes.items in
    let undone = is_change_undone c.args.changes c.args.pick in
    let change = c.index-change.result.now in
    let within : c.loop-i.i < length cs = omega (arith, c.loop-i-test.true, c.len-i-end.ensures) in
    let is : change ≡ get_or cs c.loop-i.i change = c.index-change.ensures in
    let can = can_at contents cs c.loop-i.i change within is own.in_step.recorded in
    let off = not_synced cs c.deref.result.now c.last_sync-start.result c.loop-i.i change c.deref.ensures.value c.loop-i.auto.i within is c.last_sync-start.ensures.behind in
    let front = state_after_changes contents empty_state (take c.loop-i.i cs) in
    picking_more contents cs undone c.loop-i.i change within is own.in_step.recorded off c.loop-i.names.entries.items c.loop-i.picked.entries.items c.loop-i.made c.loop-i.maps c.loop-i.invariant
    c.replay.new.names.entries.items c.change_picked.new.picked.entries.items c.in_ok-made.made c.maps_after-maps.result c.maps_after-maps.ensures c.in_ok-made.ensures.bound
    (c.in_ok-made.ensures.names contents front c.loop-i.invariant.names)
    (λ q. c.in_ok-change_picked.ensures contents front c.loop-i.invariant.names can q
    ∙ ap (λ (b : Bool). cond b (lookup c.loop-i.picked.entries.items q) (with_change_replayed front.names (step contents change front).names (lookup c.loop-i.picked.entries.items) q)) c.is_change_undone-undone.ensures)
