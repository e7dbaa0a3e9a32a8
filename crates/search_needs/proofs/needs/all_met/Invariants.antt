use Rattle.std.proofs.Common.{◌≡◌, true, take}
use Rattle.search_needs.specs.TriggeredInstallIf.{all_met}
use Rattle.search_needs.proofs.needs.all_met.Given as goal

abbrev pub invariant-loop-i : goal.invariant-loop-i
invariant-loop-i l = all_met l.pool l.choices (take l.i l.deps) ≡ true
