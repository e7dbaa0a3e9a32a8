use Rattle.definition_laws.proofs.answers.Watched.{matched_below, matched_root}
use Rattle.definition_laws.proofs.answers.triggers.a_pattern_matches_a_folder_part_by_part.Goals as goal

pub returns : goal.returns
returns c = record { below = matched_below c.a_pattern_matches_what_its_stars_are_filled_to.ensures; root = matched_root }
