use Rattle.std.proofs.Common.{◌≡◌, ◌++◌}
use Rattle.outcome.specs.DemoLines.{names_unneeded_by_first_n_up_to}
use Rattle.outcome.proofs.demo.lines.push_top_names.Given as goal

-- the names so far
abbrev pub invariant-loop-i : goal.invariant-loop-i
invariant-loop-i l = l.words ≡ l.fn.words ++ names_unneeded_by_first_n_up_to l.n l.i
