use Rattle.std.proofs.Common.{arith, map}
use Rattle.path_claim_lists.specs.path_claims.Seen.{claim_seen}
use Rattle.path_claim_lists.proofs.path_claims.Places.{seen_at}
use Rattle.own_core.specs.WritesSeen.{claim_write, write_seen}
use Rattle.own_core.proofs.Written.{after_all, written_more}
use Rattle.own_core.proofs.writes.add_in.Goals as goal

pub name_of_path-requires : goal.name_of_path-requires
name_of_path-requires c =
    c.requires c.loop-claim.claim-index _ (seen_at claim_seen c.args.ins.now c.loop-claim.claim-index _ c.loop-claim-test.true)

pub loop-claim-preserved : goal.loop-claim-preserved
loop-claim-preserved c =
    written_more (λ d. d.path) c.args.ins.now c.loop-claim.claim-index _ (map write_seen c.args.writes.now.items) (map write_seen c.loop-claim.writes.items) (map write_seen c.add_write.new.writes.items) c.in_ok-name.name
    c.loop-claim-test.true c.in_ok-add_write.ensures c.in_ok-name.ensures c.loop-claim.invariant

pub returns : goal.returns
returns c = after_all claim_write c.args.ins.now c.loop-claim.claim-index (map write_seen c.args.writes.now.items) (map write_seen c.loop-claim.writes.items) (omega (arith, c.loop-claim-test.false)) c.loop-claim.invariant
