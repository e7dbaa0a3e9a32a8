use Rattle.std.proofs.Common.{arith, map}
use Rattle.db_core.specs.Seen.{members_of}
use Rattle.path_claims.specs.Seen.{claim_seen}
use Rattle.file_owners.proofs.Gathering.{member_added, members_added}
use Rattle.file_owners.proofs.gather.claims_in.Goals as goal

pub loop-i-preserved : goal.loop-i-preserved
loop-i-preserved c =
    member_added (map claim_seen c.loop-i.claims.items) (map claim_seen c.add_member.new.claims.items) (members_of c.args.members.now) c.loop-i.i
    (omega (arith, c.len-i-end.ensures.value, c.loop-i-test.true)) c.in_ok-add_member.ensures c.loop-i.invariant

pub returns : goal.returns
returns c =
    members_added (map claim_seen c.loop-i.claims.items) (members_of c.args.members.now) c.loop-i.i (omega (arith, c.len-i-end.ensures.value, c.loop-i-test.false, c.loop-i.auto.i-end)) c.loop-i.invariant
