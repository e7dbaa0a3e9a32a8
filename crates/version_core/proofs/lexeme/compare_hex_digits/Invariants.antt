use Rattle.std.proofs.Common.{◌≡◌, ◌-◌, drop, length}
use Rattle.std.specs.Ordering.{nat_cmp}
use Rattle.std.specs.Cmp.Lexicographic.{slice_cmp}
use Rattle.version_core.specs.Token.{leading_hex_digits}
use Rattle.version_core.proofs.lexeme.compare_hex_digits.Given as goal

abbrev pub invariant-loop-ours : goal.invariant-loop-ours
invariant-loop-ours l =
    slice_cmp nat_cmp (leading_hex_digits l.left) (leading_hex_digits l.right)
    ≡ slice_cmp nat_cmp (leading_hex_digits (drop l.at l.left)) (leading_hex_digits (drop l.at l.right))

abbrev pub decreases-loop-ours : goal.decreases-loop-ours
decreases-loop-ours l = length l.left - l.at
