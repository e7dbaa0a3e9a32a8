use Rattle.std.proofs.Common.{◌≡◌, true, take}
use Rattle.search_tables.specs.Selection.{AreAllMembersOf}
use Rattle.search_needs.specs.TriggeredInstallIf.{all_met}
use Rattle.search_needs.proofs.needs.raisers.Given as goal

abbrev pub invariant-loop-i : goal.invariant-loop-i
invariant-loop-i l = record {
  within : AreAllMembersOf l.by.items l.choices;
  met : all_met l.pool l.choices (take l.i l.deps) ≡ true → all_met l.pool l.by.items (take l.i l.deps) ≡ true;
}
