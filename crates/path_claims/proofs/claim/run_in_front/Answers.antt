use Rattle.std.proofs.Common.{ap, ◌∙◌, arith}
use Rattle.std.specs.Ordering.{is_eq}
use Rattle.path_claims.proofs.Places.{run_ended, run_more, run_whole}
use Rattle.path_claims.proofs.claim.run_in_front.Goals as goal
use Rattle.path_claims.proofs.claim.run_in_front.Goals.{then-loop-end-test+else-is_eq, else-loop-end-test}

pub loop-end-preserved : goal.loop-end-preserved
loop-end-preserved c =
    (omega arith, run_more c.args.claims.now c.loop-end.end _ _ c.is_eq.result _ (omega arith) (c.is_eq.ensures ∙ ap is_eq c.compare.ensures) c.if-is_eq.true c.loop-end.invariant.1)

pub returns : goal.returns
returns c = elim c.loop-end-test.branch [
  | then-loop-end-test+else-is_eq w ↦ run_ended c.args.claims.now c.loop-end.end _ _ w.is_eq.result _ (omega arith) (w.is_eq.ensures ∙ ap is_eq w.compare.ensures) w.if-is_eq.false c.loop-end.invariant.1
  | else-loop-end-test w ↦ run_whole c.args.claims.now c.loop-end.end _ _ (omega (arith, w.loop-end-test.false)) c.loop-end.invariant.1
]
