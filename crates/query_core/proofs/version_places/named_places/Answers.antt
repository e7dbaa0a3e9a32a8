use Rattle.std.proofs.Common.{◌∙◌, ℕ, ap}
use Rattle.std.specs.List.{filter}
use Rattle.pool_core.specs.candidate_core.Rank.{candidate_at_passes}
use Rattle.query_core.specs.Policy.{has_own_name}
use Rattle.query_core.proofs.OwnNames.{own_places}
use Rattle.query_core.proofs.version_places.named_places.Goals as goal

pub returns : goal.returns
returns c =
    c.in_ok-places.ensures ∙ (ap (filter (λ (k : ℕ). candidate_at_passes c.args.pool.now (has_own_name c.args.name.now) k)) c.offers-offers.ensures ∙ own_places c.args.pool.now c.args.name.now)
