use Rattle.std.proofs.Common.{◌≡◌}
use Rattle.journal_intent.specs.FreeNames.{stage_names_from}
use Rattle.journal_intent.proofs.names.stage_names.Given as goal

abbrev pub invariant-loop-k : goal.invariant-loop-k
invariant-loop-k l = l.names ≡ stage_names_from 0 l.k
