use Rattle.std.proofs.Common.{◌≡◌}
use Rattle.version_core.specs.Order.{has_no_stray_token, tokens}
use Rattle.version_core.specs.Reading.{bytes_left, tokens_left}
use Rattle.version_core.proofs.version.is_version.Given as goal

abbrev pub invariant-loop : goal.invariant-loop
invariant-loop l = has_no_stray_token (tokens l.text) ≡ has_no_stray_token (tokens_left l.tokens)

abbrev pub decreases-loop : goal.decreases-loop
decreases-loop l = bytes_left l.tokens
