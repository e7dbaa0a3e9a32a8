use Rattle.std.proofs.Common.{◌∙◌, arith}
use Rattle.std.proofs.lemmas.List.{length-set}
use Rattle.path_claims.proofs.Marks.{all_marked, number_below, one_marked}
use Rattle.path_claims.proofs.owner.mark_owned.Goals as goal

pub bounds-flags-claims : goal.bounds-flags-claims
bounds-flags-claims c = number_below c.args.claims.now c.loop-i.i _ _ _ c.loop-i-test.true c.requires.flags c.loop-i.invariant.0

pub loop-i-preserved : goal.loop-i-preserved
loop-i-preserved c = (
  length-set c.loop-i.flags _ c.is_owning_member.result ∙ c.loop-i.invariant.0,
  one_marked c.args.claims.now c.args.owners.now c.loop-i.flags c.loop-i.i _ _ c.is_owning_member.result c.loop-i-test.true c.requires.owners
      (number_below c.args.claims.now c.loop-i.i _ _ _ c.loop-i-test.true c.requires.flags c.loop-i.invariant.0)
      c.requires.same c.is_owning_member.ensures c.loop-i.invariant.1,
)

pub returns-clause-marked : goal.returns-clause-marked
returns-clause-marked c = all_marked c.args.claims.now c.args.owners.now c.loop-i.flags c.loop-i.i (omega (arith, c.loop-i-test.false)) c.loop-i.invariant.1
