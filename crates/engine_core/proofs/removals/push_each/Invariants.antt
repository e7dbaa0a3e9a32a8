use Rattle.std.proofs.Common.{◌≡◌, ◌++◌, List, ℕ, Bor, map, take}
use Rattle.engine_core.proofs.removals.push_each.Given as goal

abbrev pub invariant-loop-i : goal.invariant-loop-i
invariant-loop-i l = map (λ (n : Bor (List ℕ)). n.now) l.names.items ≡ map (λ (n : Bor (List ℕ)). n.now) l.fn.names.items ++ take l.i l.more
