use Rattle.std.proofs.Common.{◌≡◌, ◌-◌, ◌/◌, ◌%◌, ◌∙◌, ap, arith, length, refl, subst, sym}
use Rattle.tree_memory.specs.Changes.{contents_of}
use Rattle.tree_memory.specs.Images.{crash_bytes, crash_map_pick_count, HasImageNames}
use Rattle.tree_memory.specs.Stores.{store_state}
use Rattle.tree_memory.specs.Table.{IsSortedNameTable}
use Rattle.tree_memory.specs.WellFormedLaw.{bounded_state}
use Rattle.tree_memory.proofs.Imaging.{so_far_none, can_next, so_far_next, number_made, image_is, image_crash, file_at}
use Rattle.tree_memory.proofs.Keeping.{newest}
use Rattle.tree_memory.proofs.store.Store.image.Goals as goal

pub loop-entry-init : goal.loop-entry-init
loop-entry-init c =
    so_far_none (store_state c.args.self.now) ((c.args.choice / c.crash_map_pick_count-picks.result) % 3) c.deref-entry-items.result.now (store_state c.new-image.result) (ap newest c.new-image.ensures)

pub index-requires : goal.index-requires
index-requires c =
    let own = c.args.self.now in
    let v = store_state own in
    let way = (c.args.choice / c.crash_map_pick_count-picks.result) % 3 in
    let es = c.deref-entry-items.result.now in
    let table = subst IsSortedNameTable (sym c.deref-entry-items.ensures.value) c.in_ok-names.names.rising in
    let named = subst (HasImageNames (c.args.choice % c.crash_map_pick_count-picks.result) v) (sym c.deref-entry-items.ensures.value) c.in_ok-names.ensures in
    let whole = bounded_state (contents_of own.files.items) own.changes.items in
    let made = number_made v way es table c.loop-entry.entry-index (store_state c.loop-entry.image) c.loop-entry.invariant c.entry-item.result c.loop-entry-test.true c.entry-item.is named.left whole in
    omega (arith, made, own.in_step.kept.made)

pub put-requires : goal.put-requires
put-requires c =
    let own = c.args.self.now in
    let v = store_state own in
    let way = (c.args.choice / c.crash_map_pick_count-picks.result) % 3 in
    let es = c.deref-entry-items.result.now in
    let table = subst IsSortedNameTable (sym c.deref-entry-items.ensures.value) c.in_ok-names.names.rising in
    let named = subst (HasImageNames (c.args.choice % c.crash_map_pick_count-picks.result) v) (sym c.deref-entry-items.ensures.value) c.in_ok-names.ensures in
    can_next v way es table c.loop-entry.entry-index (store_state c.loop-entry.image) c.loop-entry.invariant c.entry-item.result c.loop-entry-test.true c.entry-item.is named.folders

pub loop-entry-preserved : goal.loop-entry-preserved
loop-entry-preserved c =
    let own = c.args.self.now in
    let v = store_state own in
    let way = (c.args.choice / c.crash_map_pick_count-picks.result) % 3 in
    let es = c.deref-entry-items.result.now in
    let table = subst IsSortedNameTable (sym c.deref-entry-items.ensures.value) c.in_ok-names.names.rising in
    let named = subst (HasImageNames (c.args.choice % c.crash_map_pick_count-picks.result) v) (sym c.deref-entry-items.ensures.value) c.in_ok-names.ensures in
    let whole = bounded_state (contents_of own.files.items) own.changes.items in
    let made = number_made v way es table c.loop-entry.entry-index (store_state c.loop-entry.image) c.loop-entry.invariant c.entry-item.result c.loop-entry-test.true c.entry-item.is named.left whole in
    let bytes = c.in_ok-bytes.ensures ∙ ap (crash_bytes way) (file_at v own.names.entries.items own.files.items c.entry-item.result.file c.index.result.now own.in_step.kept (omega (arith, made, own.in_step.kept.made)) c.index.ensures) in
    so_far_next v way es table c.loop-entry.entry-index (store_state c.loop-entry.image) c.loop-entry.invariant c.entry-item.result c.loop-entry-test.true c.entry-item.is c.in_ok-bytes.bytes.items (store_state c.put.new.self)
    (bounded_state (contents_of c.loop-entry.image.files.items) c.loop-entry.image.changes.items) bytes (ap newest c.in_ok-put.ensures.ok)

pub returns-clause-files : goal.returns-clause-files
returns-clause-files c =
    let own = c.args.self.now in
    let v = store_state own in
    let way = (c.args.choice / c.crash_map_pick_count-picks.result) % 3 in
    let es = c.deref-entry-items.result.now in
    let named = subst (HasImageNames (c.args.choice % c.crash_map_pick_count-picks.result) v) (sym c.deref-entry-items.ensures.value) c.in_ok-names.ensures in
    let few : c.maps-changes.result - 1 ≡ length v.older = omega (arith, c.maps-changes.ensures.count) in
    image_is v way es c.loop-entry.entry-index (omega (arith, c.loop-entry-test.false)) (store_state c.loop-entry.image) c.loop-entry.invariant c.args.choice c.crash_map_pick_count-picks.result (c.crash_map_pick_count-picks.ensures.count ∙ ap crash_map_pick_count few) refl named

pub returns-clause-crash : goal.returns-clause-crash
returns-clause-crash c =
    let own = c.args.self.now in
    let v = store_state own in
    let way = (c.args.choice / c.crash_map_pick_count-picks.result) % 3 in
    let es = c.deref-entry-items.result.now in
    let named = subst (HasImageNames (c.args.choice % c.crash_map_pick_count-picks.result) v) (sym c.deref-entry-items.ensures.value) c.in_ok-names.ensures in
    image_crash v way es c.loop-entry.entry-index (omega (arith, c.loop-entry-test.false)) (store_state c.loop-entry.image) c.loop-entry.invariant named.left
