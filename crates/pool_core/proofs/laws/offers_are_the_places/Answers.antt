use Rattle.option_ranks.proofs.candidate_core.OfferLists.{offers_those, offers_each, places_rising}
use Rattle.option_ranks.specs.candidate_core.Candidates.{offers_name}
use Rattle.pool_core.proofs.laws.offers_are_the_places.Goals as goal

pub returns-clause-those : goal.returns-clause-those
returns-clause-those c = λ pool name k h. offers_those pool name k h

pub returns-clause-each : goal.returns-clause-each
returns-clause-each c = λ pool name k h. offers_each pool name k h

pub returns-clause-rising : goal.returns-clause-rising
returns-clause-rising c = λ pool name. places_rising 0 (offers_name name) pool.candidates
