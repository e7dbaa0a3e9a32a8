use Rattle.std.proofs.Common.{◌≡◌}
use Rattle.std.specs.Cmp.Lexicographic.{slice_cmp}
use Rattle.version_core.specs.Order.{token_cmp}
use Rattle.version_core.specs.Reading.{bytes_left, tokens_left}
use Rattle.version_core.proofs.order.compare_tokens.Given as goal

abbrev pub invariant-loop-left_tokens : goal.invariant-loop-left_tokens
invariant-loop-left_tokens l =
    slice_cmp token_cmp (tokens_left l.left) (tokens_left l.right)
    ≡ slice_cmp token_cmp (tokens_left l.left_tokens) (tokens_left l.right_tokens)

abbrev pub decreases-loop-left_tokens : goal.decreases-loop-left_tokens
decreases-loop-left_tokens l = bytes_left l.left_tokens
