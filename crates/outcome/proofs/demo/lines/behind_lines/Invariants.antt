use Rattle.std.proofs.Common.{◌≡◌, ◌+◌, ◌≤◌, length, take, not}
use Rattle.std.specs.List.{suffix_len}
use Rattle.dep_core.specs.World.{is_line_end}
use Rattle.outcome.proofs.demo.lines.behind_lines.Given as goal

-- from there on no line ends
abbrev pub invariant-loop-start : goal.invariant-loop-start
invariant-loop-start l = (l.start ≤ length l.text) × (l.start + suffix_len (λ b. not (is_line_end b)) l.text ≡ length l.text + suffix_len (λ b. not (is_line_end b)) (take l.start l.text))

abbrev pub decreases-loop-start : goal.decreases-loop-start
decreases-loop-start l = l.start
