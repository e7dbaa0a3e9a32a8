use Rattle.std.proofs.Common.{◌≡◌, drop}
use Rattle.std.specs.Prelude.{not}
use Rattle.std.specs.List.{find}
use Rattle.path_clashes.proofs.near.first_to_stay.Given as goal

abbrev pub invariant-loop-i : goal.invariant-loop-i
invariant-loop-i g l = find (λ name. not (g.G.IsReleased.does_release l.let_go name)) l.names ≡ find (λ name. not (g.G.IsReleased.does_release l.let_go name)) (drop l.i l.names)
