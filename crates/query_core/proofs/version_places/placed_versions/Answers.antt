use Rattle.std.proofs.Common.{◌∙◌}
use Rattle.query_core.specs.Policy.{has_own_name}
use Rattle.query_core.proofs.SelectedPlaces.{places_within}
use Rattle.query_core.proofs.version_places.placed_versions.Goals as goal

pub in_order-requires : goal.in_order-requires
in_order-requires c = places_within (has_own_name c.args.name.now) c.args.pool.now.candidates c.deref.result.now (c.deref.ensures.value ∙ c.in_ok-places.ensures)
