use Rattle.std.proofs.Common.{◌≡◌, ◌∙◌, sym, subst, map, length, arith}
use Rattle.path_claims.specs.Seen.{claim_seen}
use Rattle.path_claims.proofs.Places.{map_len}
use Rattle.path_claim_lists.specs.Once.{HasFirstClaimOfEachPath}
use Rattle.path_claim_lists.proofs.Lists.{take_whole}
use Rattle.path_claim_lists.proofs.Firsts.{own_first_more, repeats_a_path}
use Rattle.path_claim_lists.proofs.claims.has_one_claim_of_each_path.Goals as goal

pub returns-then-not-begins_path-clause-exact : goal.returns-then-not-begins_path-clause-exact
returns-then-not-begins_path-clause-exact c _ = repeats_a_path (map claim_seen c.args.claims.now) c.loop-i.i (sym c.begins_path.ensures ∙ c.if-not-begins_path.true)

pub loop-i-preserved : goal.loop-i-preserved
loop-i-preserved c = own_first_more c.args.claims.now c.loop-i.i c.requires c.loop-i-test.true (sym c.begins_path.ensures ∙ c.if-not-begins_path.false) c.loop-i.invariant

pub returns-clause-firsts : goal.returns-clause-firsts
returns-clause-firsts c _ =
    let n : length (map claim_seen c.args.claims.now) ≡ length c.args.claims.now = map_len claim_seen c.args.claims.now in
    subst (λ cs. HasFirstClaimOfEachPath cs cs) (take_whole (map claim_seen c.args.claims.now) c.loop-i.i (omega (arith, n, c.loop-i-test.false))) c.loop-i.invariant
