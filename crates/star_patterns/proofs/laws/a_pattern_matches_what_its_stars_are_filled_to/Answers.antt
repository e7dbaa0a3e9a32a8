use Rattle.star_patterns.proofs.Filled.{matched_if_filled}
use Rattle.star_patterns.proofs.laws.a_pattern_matches_what_its_stars_are_filled_to.Goals as goal

pub returns : goal.returns
returns c = matched_if_filled
