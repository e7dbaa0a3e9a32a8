use Rattle.std.proofs.Common.{◌≡◌, ◌∙◌, ap, sym, map, length, arith}
use Rattle.path_claims.specs.Seen.{claim_seen}
use Rattle.path_claims.proofs.Places.{map_len}
use Rattle.path_claim_lists.proofs.Firsts.{first_pushed, firsts_kept, firsts_whole}
use Rattle.path_claim_lists.proofs.claims.first_claims.Goals as goal
use Rattle.path_claim_lists.proofs.claims.first_claims.Goals.{then-begins_path+in_ok-push, else-begins_path}

pub loop-i-preserved : goal.loop-i-preserved
loop-i-preserved c = elim c.if-begins_path.branch [
  | then-begins_path+in_ok-push w ↦
      first_pushed c.args.claims.now c.loop-i.firsts.items c.if-begins_path.firsts.items c.loop-i.i _ c.requires c.loop-i-test.true (sym c.begins_path.ensures ∙ w.if-begins_path.true)
      (ap (λ v. v.items) w.firsts-is ∙ w.in_ok-push.ensures.items) c.loop-i.invariant
  | else-begins_path w ↦
      firsts_kept c.args.claims.now c.loop-i.firsts.items c.if-begins_path.firsts.items c.loop-i.i c.loop-i-test.true (sym c.begins_path.ensures ∙ w.if-begins_path.false)
      (ap (λ v. v.items) w.firsts-is) c.loop-i.invariant
]

pub returns : goal.returns
returns c =
    let n : length (map claim_seen c.args.claims.now) ≡ length c.args.claims.now = map_len claim_seen c.args.claims.now in
    firsts_whole (map claim_seen c.args.claims.now) (map claim_seen c.loop-i.firsts.items) c.loop-i.i (omega (arith, n, c.loop-i-test.false)) c.loop-i.invariant
