use Rattle.std.proofs.Common.{◌∙◌, List, ℕ, Bor, ap, map}
use Rattle.own_core.specs.db_core.Seen.{packages_of}
use Rattle.package_changes.specs.Placed.{names_with_change_and_old_and_pool_place}
use Rattle.package_changes.specs.Seen.{placed_replacement_from_parts}
use Rattle.package_changes.specs.SelectedNames.{name_with_change_and_places_by_table}
use Rattle.package_changes.proofs.PlacedLaws.{by_sorted, by_table}
use Rattle.package_changes.proofs.placed.PlacedNames.of.Goals as goal

pub returns : goal.returns
unfolding names_with_change_and_old_and_pool_place
returns c =
    let p = placed_replacement_from_parts c.args.db.now c.args.pool.now c.args.trace.now c.args.again.now in
    c.in_ok-list.ensures
    ∙ (ap (map (name_with_change_and_places_by_table (packages_of c.args.db.now) c.args.pool.now c.in_ok-sorted.sorted c.in_ok-selected.selected)) (ap (map (λ (n : Bor (List ℕ)). n.now)) c.deref.ensures.value ∙ c.in_ok-names.ensures)
    ∙ (by_sorted (packages_of c.args.db.now) c.args.pool.now c.args.again.now c.in_ok-sorted.sorted c.in_ok-selected.selected c.in_ok-sorted.ensures _
    ∙ by_table p c.in_ok-selected.selected c.in_ok-selected.ensures _))
