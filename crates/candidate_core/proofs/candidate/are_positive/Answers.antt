use Rattle.std.proofs.Common.{Bool, ap, sym}
use Rattle.std.specs.Prelude.{not}
use Rattle.dep_core.specs.Dependency.{Dependency}
use Rattle.dep_core.specs.Meets.{dependency}
use Rattle.candidate_core.proofs.LoopTests.{all_next, not_all_at}
use Rattle.candidate_core.proofs.candidate.are_positive.Goals as goal

abbrev is_positive : Dependency → Bool
is_positive d = not d.conflict

pub returns-then-get : goal.returns-then-get
returns-then-get c = sym (not_all_at is_positive c.args.deps.now c.loop-i.i (dependency c.get.result) c.get.ensures (ap not c.if-get.true))

pub loop-i-preserved : goal.loop-i-preserved
loop-i-preserved c = all_next is_positive c.args.deps.now c.loop-i.i (dependency c.get.result) c.loop-i.invariant c.get.ensures (ap not c.if-get.false)
