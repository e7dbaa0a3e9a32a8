use Rattle.std.proofs.Common.{◌≡◌, ◌-◌, ◌++◌, map, take, drop}
use Rattle.tree_memory.proofs.calls.pass.Given as goal

-- the numbers so far are one less
abbrev pub invariant-loop-n : goal.invariant-loop-n
invariant-loop-n l = l.n-items ≡ map (λ n. n - 1) (take l.n-index l.initial.n-items) ++ drop l.n-index l.initial.n-items
