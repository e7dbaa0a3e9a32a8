-- What is left of the pattern matches an end of what is left of the text exactly if the whole does.
use Rattle.std.proofs.Common.{◌≡◌, ◌++◌, ℕ, List, length}
use Rattle.star_patterns.specs.Ends.{matches_some_suffix}
use Rattle.star_patterns.proofs.pattern.last_piece.Given as goal

abbrev pub invariant-loop-at : goal.invariant-loop-at
invariant-loop-at l =
    (tail : List ℕ) → matches_some_suffix (l.pattern ++ tail) l.text ≡ matches_some_suffix (l.wanted ++ tail) l.left

abbrev pub decreases-loop-at : goal.decreases-loop-at
decreases-loop-at l = length l.wanted
