use Rattle.std.proofs.Common.{◌≡◌, ◌∙◌, List, Result, Ok, Err, ap, map}
use Rattle.std.specs.Prelude.{IfOk}
use Rattle.std.specs.List.{filter_map}
use Rattle.std.specs.declared.alloc.AllocError.{AllocError}
use Rattle.package_changes.specs.Changes.{changes_of}
use Rattle.package_changes.specs.Placed.{PlacedChange, PlacedName, ReplacementWithSelectionAsPlaces, change_in, placed_changes_of, names_with_change_and_old_and_pool_place, replacement_of}
use Rattle.package_changes.specs.Seen.{changes_seen, placed_replacement_from_parts}
use Rattle.package_changes.specs.declared.changes.Changes.{Changes}
use Rattle.package_changes.proofs.PlacedLaws.{changes_alone, changes_among}
use Rattle.package_changes.proofs.changes.Changes.of.Goals as goal

-- the changes of a call, with their places and without
placed : (p : ReplacementWithSelectionAsPlaces) (names : List PlacedName) (r : Result Changes AllocError) → names ≡ names_with_change_and_old_and_pool_place p → IfOk r (λ changes. changes_seen changes ≡ filter_map change_in names) → IfOk r (λ changes. changes_seen changes ≡ placed_changes_of p)
placed p names (Ok changes) are is = is ∙ (ap (filter_map change_in) are ∙ changes_among p)
placed p names (Err e) are is = tt

alone : (p : ReplacementWithSelectionAsPlaces) (r : Result Changes AllocError) → IfOk r (λ changes. changes_seen changes ≡ placed_changes_of p) → IfOk r (λ changes. map (λ (c : PlacedChange). c.change) (changes_seen changes) ≡ changes_of (replacement_of p))
alone p (Ok changes) is = ap (map (λ (c : PlacedChange). c.change)) is ∙ changes_alone p
alone p (Err e) is = tt

pub returns : goal.returns
returns c =
    let p = placed_replacement_from_parts c.args.db.now c.args.pool.now c.args.trace.now c.args.again.now in
    let places = placed p _ c.of_names.result c.in_ok-names.ensures c.of_names.ensures in
    record { changes = alone p c.of_names.result places; places = places }
