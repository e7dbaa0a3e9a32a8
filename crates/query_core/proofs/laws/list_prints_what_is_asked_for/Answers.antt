use Rattle.query_core.proofs.AskedFor.{listed_if_asked}
use Rattle.query_core.proofs.laws.list_prints_what_is_asked_for.Goals as goal

pub returns : goal.returns
returns c = listed_if_asked c.a_pattern_matches_what_its_stars_are_filled_to.ensures
