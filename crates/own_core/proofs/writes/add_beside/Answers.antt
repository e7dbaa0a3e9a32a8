use Rattle.std.proofs.Common.{◌≤◌, ℕ, List, ap, sym, subst, ◌∙◌, arith, length, map}
use Rattle.own_core.specs.Fate.{apk_new_name}
use Rattle.path_claim_lists.specs.path_claims.Seen.{claim_seen}
use Rattle.path_claim_lists.proofs.path_claims.Places.{seen_at}
use Rattle.own_core.specs.WritesSeen.{apk_new_write, write_seen}
use Rattle.own_core.proofs.Written.{after_all, written_more}
use Rattle.own_core.proofs.writes.add_beside.Goals as goal

pub name_of_path-requires : goal.name_of_path-requires
name_of_path-requires c =
    (c.requires c.loop-claim.claim-index _ (seen_at claim_seen c.args.asides.now c.loop-claim.claim-index _ c.loop-claim-test.true)).name

pub name_beside-requires : goal.name_beside-requires
name_beside-requires c =
    subst (λ (n : List ℕ). length (apk_new_name n) ≤ 1024) (sym c.in_ok-name.ensures)
    (c.requires c.loop-claim.claim-index _ (seen_at claim_seen c.args.asides.now c.loop-claim.claim-index _ c.loop-claim-test.true)).short

pub loop-claim-preserved : goal.loop-claim-preserved
loop-claim-preserved c =
    written_more (λ d. apk_new_name d.path) c.args.asides.now c.loop-claim.claim-index _ (map write_seen c.args.writes.now.items) (map write_seen c.loop-claim.writes.items) (map write_seen c.add_write.new.writes.items) c.in_ok-beside.beside
    c.loop-claim-test.true c.in_ok-add_write.ensures (c.in_ok-beside.ensures ∙ ap apk_new_name c.in_ok-name.ensures) c.loop-claim.invariant

pub returns : goal.returns
returns c = after_all apk_new_write c.args.asides.now c.loop-claim.claim-index (map write_seen c.args.writes.now.items) (map write_seen c.loop-claim.writes.items) (omega (arith, c.loop-claim-test.false)) c.loop-claim.invariant
