use Rattle.pool_core.proofs.Filtered.{meeting_is_offered}
use Rattle.option_ranks.proofs.candidate_core.OfferLists.{offers_each}
use Rattle.option_ranks.specs.candidate_core.Candidates.{need_name}
use Rattle.pool_core.proofs.laws.offers_hold_what_meets.Goals as goal

pub returns : goal.returns
returns c = λ pool need k h. offers_each pool (need_name need) k (meeting_is_offered pool need k h)
