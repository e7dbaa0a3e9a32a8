use Rattle.std.proofs.Common.{arith}
use Rattle.file_owners.specs.db_core.Seen.{members_of}
use Rattle.path_claim_lists.specs.path_claims.Seen.{claim_seen}
use Rattle.path_claim_lists.proofs.path_claims.Places.{seen_at}
use Rattle.own_core.proofs.Refusals.{none_reserved, not_reserved_here, reserved_here}
use Rattle.own_core.proofs.planning.first_reserved_added_path_in_byte_order.Goals as goal

pub is_added_and_reserved-requires : goal.is_added_and_reserved-requires
is_added_and_reserved-requires c = c.requires.files c.loop-claim.claim-index _ (seen_at claim_seen c.args.claims.now c.loop-claim.claim-index _ c.loop-claim-test.true)

pub name_of_path-requires : goal.name_of_path-requires
name_of_path-requires c = (c.requires.files c.loop-claim.claim-index _ (seen_at claim_seen c.args.claims.now c.loop-claim.claim-index _ c.loop-claim-test.true)).name

pub loop-claim-preserved : goal.loop-claim-preserved
loop-claim-preserved c =
    not_reserved_here (members_of c.args.members.now) c.args.claims.now c.loop-claim.claim-index _ c.is_added_and_reserved.result c.loop-claim-test.true c.loop-claim.invariant c.is_added_and_reserved.ensures c.if-is_added_and_reserved.false

pub returns-then-is_added_and_reserved : goal.returns-then-is_added_and_reserved
returns-then-is_added_and_reserved c =
    reserved_here (members_of c.args.members.now) c.args.claims.now c.loop-claim.claim-index _ c.in_ok-name.name c.is_added_and_reserved.result c.requires.sorted c.loop-claim-test.true c.loop-claim.invariant
    c.is_added_and_reserved.ensures c.if-is_added_and_reserved.true c.in_ok-name.ensures

pub returns : goal.returns
returns c = none_reserved (members_of c.args.members.now) c.args.claims.now c.loop-claim.claim-index c.requires.sorted (omega (arith, c.loop-claim-test.false)) c.loop-claim.invariant
