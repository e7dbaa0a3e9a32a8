use Rattle.query_core.proofs.AskedFor.{searched_if_asked}
use Rattle.query_core.proofs.laws.search_prints_what_is_asked_for.Goals as goal

pub returns : goal.returns
returns c = searched_if_asked c.a_pattern_matches_what_its_stars_are_filled_to.ensures
