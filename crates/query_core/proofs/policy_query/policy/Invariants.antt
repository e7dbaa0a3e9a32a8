use Rattle.std.proofs.Common.{◌≡◌, take}
use Rattle.query_core.specs.Policy.{policy_report}
use Rattle.query_core.proofs.policy_query.policy.Given as goal

abbrev pub invariant-loop-i : goal.invariant-loop-i
invariant-loop-i l = l.report.items ≡ policy_report l.pool.candidates l.repositories (take l.i l.names)
