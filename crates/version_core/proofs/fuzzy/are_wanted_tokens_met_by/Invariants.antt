use Rattle.std.proofs.Common.{◌≡◌}
use Rattle.version_core.specs.Matching.{are_wanted_tokens_met_by}
use Rattle.version_core.specs.Reading.{bytes_left, tokens_left}
use Rattle.version_core.proofs.fuzzy.are_wanted_tokens_met_by.Given as goal

abbrev pub invariant-loop-found_tokens : goal.invariant-loop-found_tokens
invariant-loop-found_tokens l =
    are_wanted_tokens_met_by (tokens_left l.wanted) (tokens_left l.found) ≡ are_wanted_tokens_met_by (tokens_left l.wanted_tokens) (tokens_left l.found_tokens)

abbrev pub decreases-loop-found_tokens : goal.decreases-loop-found_tokens
decreases-loop-found_tokens l = bytes_left l.wanted_tokens
