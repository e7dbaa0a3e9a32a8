use Rattle.std.proofs.Common.{ap, ◌∙◌, arith, map}
use Rattle.path_claim_lists.specs.path_claims.Seen.{claim_seen}
use Rattle.own_core.specs.Going.{is_path_left_over}
use Rattle.own_core.specs.Sides.{file_change_of}
use Rattle.own_core.proofs.Kept.{kept_one, kept_whole, left_one}
use Rattle.own_core.proofs.parts.left_over_claims.Goals as goal
use Rattle.own_core.proofs.parts.left_over_claims.Goals.{then-is_path_left_over+in_ok-push, else-is_path_left_over}

pub loop-i-preserved : goal.loop-i-preserved
loop-i-preserved c = elim c.if-is_path_left_over.branch [
  | then-is_path_left_over+in_ok-push w ↦
      kept_one (λ d. is_path_left_over (file_change_of c.args.change.now) (map claim_seen c.args.asides.now) d.path) c.args.change.now.before.now c.loop-i.left.items c.if-is_path_left_over.left.items c.loop-i.i _ c.is_path_left_over.result c.loop-i-test.true
      c.is_path_left_over.ensures w.if-is_path_left_over.true (ap (λ v. v.items) w.left-is ∙ w.in_ok-push.ensures.items) c.loop-i.invariant
  | else-is_path_left_over w ↦
      left_one (λ d. is_path_left_over (file_change_of c.args.change.now) (map claim_seen c.args.asides.now) d.path) c.args.change.now.before.now c.loop-i.left.items c.if-is_path_left_over.left.items c.loop-i.i _ c.is_path_left_over.result c.loop-i-test.true
      c.is_path_left_over.ensures w.if-is_path_left_over.false (ap (λ v. v.items) w.left-is) c.loop-i.invariant
]

pub returns : goal.returns
returns c = kept_whole (λ d. is_path_left_over (file_change_of c.args.change.now) (map claim_seen c.args.asides.now) d.path) c.args.change.now.before.now c.loop-i.left.items c.loop-i.i (omega (arith, c.loop-i-test.false)) c.loop-i.invariant
